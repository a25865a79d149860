-- The command `sheet`: a contact sheet of the frames that the reel folder acknowledges, written beside them. All of it is this
-- project's own rule.
-- * `sheet`: the ledger was looked at, and the sheet of what it has was written, whole and so that a crash keeps it, with every
--   other file as it was at each moment; or the ledger can't be had, and nothing was written
--     IsSheetReply      the project came to a job, and the sheet of its folder was made, or it came to none
use Rattle.std.specs.Prelude.{◌≡◌, ℕ, ◌≤◌, true, List, [], ◌∷◌, ◌++◌, codes, decimal, length, Option, Some, IsErr}
use Rattle.cf_base.specs.declared.file.FileId.TheVariants as file
use Rattle.scan_source.specs.World.{World}
use Rattle.reel_disk.specs.Disk.{moment_of, view_of}
use Rattle.reel_disk.specs.Call.{writes_in}
use Rattle.reel_disk.specs.Runs.{LeavesOnly, Spares, Surely}
use Rattle.conform_job.specs.Job.{JobData}
use Rattle.resume_ledger.specs.Look.{ViewState}
use Rattle.resume_ledger.specs.Steps.{IsFirmly}
use Rattle.reel_writer.specs.Reel.{HasAcked, IsSoundReel}
use Rattle.reel_qc.specs.Sheet.{cell_frames, sheet_file, sheet_peak, MakesSheet, WritesSheet}
use Rattle.reel_qc.specs.declared.sheet.SheetDone.{SheetDone}
use Rattle.printed_text.specs.Text.{spaced_line}
use Rattle.outcome.specs.declared.Outcome.{Outcome}
use Rattle.outcome.specs.declared.Outcome.TheVariants as outcome
use Rattle.project_run.specs.Look.{HasFound, IsBehind, IsBehindLook, IsLookReply}
use Rattle.reel_disk.specs.State.{FolderState}
use Rattle.project_run.specs.Calls.{WasOnlyRead}

-- how many cells the sheet has, and its greatest code
abbrev pub sheet_text : (cells peak : ℕ) → List ℕ
sheet_text cells peak =
    spaced_line (codes "cells" ∷ decimal cells ∷ [])
    ++ spaced_line (codes "peak" ∷ decimal peak ∷ [])

-- A sheet was made of this view under the tone, over the files of the folder, and its two numbers were put.
pub record IsSheeted (tone : List ℕ) (job : JobData) (view : ViewState) (disk disk_after : FolderState)
    (reached : Outcome) (output : List ℕ) : Type 0 where
  pub kind : IsBehindLook reached
  -- the sheet is there, whole, and a crash keeps it so
  pub sheet : reached ≡ outcome.Done → disk.tells ≡ true
      → IsFirmly disk.history disk_after.history file.Sheet (Some (sheet_file tone job view (view_of disk.history)))
  pub form : reached ≡ outcome.Done → disk.tells ≡ true
      → output ≡ sheet_text (length (cell_frames job)) (sheet_peak tone job view (view_of disk.history))
  -- over every disk, the files of the cells' acknowledged frames were read, no other, and the sheet of what they gave was written
  pub made : reached ≡ outcome.Done → (done : SheetDone) × MakesSheet tone job view done disk.calls disk_after.calls
      × (output ≡ sheet_text done.cells done.peak)
  -- how many cells it has is known over every disk
  pub known : reached ≡ outcome.Done → (peak : ℕ) × (peak ≤ 1023) × (output ≡ sheet_text (length (cell_frames job)) peak)

-- The ledger was looked at, and a sheet was made of what it has, or it can't be had, and then nothing was written.
pub record HasSheet (tone : List ℕ) (job : JobData) (disk disk_after : FolderState) (reached : Outcome) (output : List ℕ) : Type 0 where
  pub seen : HasFound job disk disk_after reached
      (λ view. IsBehind job disk view (λ behind. IsSheeted tone job view behind disk_after reached output))
  -- At every moment all other files are as they were, what was sound and fit is, and what was acknowledged is.
  pub spares : disk.tells ≡ true → Spares disk.history disk_after.history (λ q. q ≡ file.Sheet)
  pub sound : disk.tells ≡ true → (world : World) → Surely (moment_of disk.history) (IsSoundReel job world)
      → LeavesOnly disk.history disk_after.history (IsSoundReel job world)
  pub kept : disk.tells ≡ true → (i : ℕ) → Surely (moment_of disk.history) (HasAcked job i)
      → LeavesOnly disk.history disk_after.history (HasAcked job i)
  pub writes : WritesSheet (writes_in disk.calls) (writes_in disk_after.calls)
  pub refused : IsErr seen.ledger → WasOnlyRead disk disk_after

abbrev pub IsSheetReply : List ℕ → List ℕ → Option World → (loads loads_after : ℕ) → (disk disk_after : FolderState)
    → Outcome → List ℕ → Type 0
IsSheetReply tone path told loads loads_after disk disk_after reached output =
    IsLookReply told path disk disk_after loads loads_after reached (λ job. HasSheet tone job disk disk_after reached output)
