-- What the two folders tell, and what a house hands in.
-- * states: what the two folders tell at a moment, and what a house hands in
--     Folders, folders_of      what the two folders tell
--     House, house_of      what a house hands in
use Rattle.std.specs.Prelude.{ℕ, Bool, List}
use Rattle.reel_disk.specs.State.{DiskState, FolderState, folder_state}
use Rattle.reel_qc.specs.declared.table.probe.ProbeKind.{ProbeKind}

-- the folder of the reel, and that of an old reel
pub record Folders : Type 0 where
  pub reel : FolderState
  pub old : FolderState

abbrev pub folders_of : Bool → (disk old : DiskState) → Folders
folders_of tells disk old = record { reel = folder_state tells disk; old = folder_state tells old }

-- the kinds of a house's probes, and the table of its tone
pub record House : Type 0 where
  pub kinds : List ProbeKind
  pub tone : List ℕ

abbrev pub house_of : List ProbeKind → List ℕ → House
house_of kinds tone = record { kinds = kinds; tone = tone }
