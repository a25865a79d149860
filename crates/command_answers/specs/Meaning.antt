-- What a command means: the facts that are stated of each command in one place, in `specs/Commands`.
-- * meaning: the facts that are stated of each command in one record: when its output is right; what it loads; which heads it
--   asks for; the calls that it makes, none or those on the folder of the reel among them; what it did to the folders; which
--   call on a folder failed; when nothing stands in its way; what it comes to then
--     Meaning      these facts
--     Calls, no_calls, reel_calls      the calls that a command makes: none, those on the folder of the reel alone
--     Makes      the fact that it makes them
--     IsThrough outcome      the command was done, or memory ran out
--     LeavesReel, HasReelFailed      what a command did to the folder of the reel
use Rattle.std.specs.Prelude.{◌≡◌, ◌⊎◌, ℕ, Bool, true, false, List}
use Rattle.cf_base.specs.Count.{HasRisen}
use Rattle.scan_source.specs.State.{ScanState}
use Rattle.scan_source.specs.World.{World}
use Rattle.outcome.specs.declared.Outcome.{Outcome}
use Rattle.outcome.specs.declared.Outcome.TheVariants.{Done, NoMemory}
use Rattle.command_answers.specs.States.{Folders, House}

-- The calls that a command makes on the folders and on the files, by which it may come to an outcome of these alone.
pub record Calls : Type 0 where
  -- on the folder of the reel
  pub on_reel : Bool
  -- on the folder of an old reel too
  pub on_old : Bool
  -- it loads source frames, which may have changed since they were planned
  pub loads_frames : Bool
  -- it reads the reel's frames, which may be damaged
  pub checks_frames : Bool

abbrev pub no_calls : Calls
no_calls = record { on_reel = false; on_old = false; loads_frames = false; checks_frames = false }

abbrev pub reel_calls : Calls
reel_calls = record no_calls { on_reel = true }

abbrev pub Makes : Bool → Type 0
Makes true = Unit {0}
Makes false = ⊥

pub record Meaning : Type 1 where
  -- The outcome and the output are right: by the file at the path, by all files that the scan tells and the texts that were read,
  -- or by the command alone. Where they are right by the folders, `UsesDisk` says so.
  pub IsRight : (reached : Outcome) (output : List ℕ) (before after : ScanState) → Type 0
  -- what it loads: one file, or a project, its list and its cube, or nothing. Of a command that makes calls on a folder
  -- `UsesDisk` says it.
  pub HasLoaded : (before after : ScanState) (reached : Outcome) → Type 0
  -- which heads of source frames it asks for
  pub LooksAtHeads : (before after : ScanState) (reached : Outcome) → Type 0
  pub calls : Calls
  -- what it did to the folder of the reel, and to that of an old one where it makes calls on it
  pub UsesDisk : House → (before after : ScanState) (folders folders_after : Folders) (reached : Outcome) (output : List ℕ) → Type 0
  -- a call on a folder failed that the command makes calls on
  pub HasFailedDisk : (folders folders_after : Folders) → Type 0
  -- Its inputs have no refusal, and neither has a folder, where the command looks at it.
  pub IsAccepted : World → Folders → Type 0
  -- what it comes to where it is accepted and no call failed
  pub IsComplete : Outcome → Type 0

-- no call was made on the folder of the reel
abbrev pub LeavesReel : House → ScanState → ScanState → Folders → Folders → Outcome → List ℕ → Type 0
LeavesReel house before after folders folders_after reached output = folders_after.reel ≡ folders.reel

-- a call on it failed
abbrev pub HasReelFailed : Folders → Folders → Type 0
HasReelFailed folders folders_after = HasRisen folders.reel.faults folders_after.reel.faults

abbrev pub IsThrough : Outcome → Type 0
IsThrough result = (result ≡ Done) ⊎ (result ≡ NoMemory)
