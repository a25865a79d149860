-- What the commands of one file share.
-- * by the file, the job, the folder [ByJob, ByFolder]: what the records of several commands share: right by the one file; right
--   by the job that a project comes to, with what was loaded and looked at for it; a folder that is fit for that job, and one
--   that is sound; the record of a command that puts a text of its job, and of one that makes calls on the folder of the reel
--   alone
--     IsRightBy      the outcome and the output are those of the file
--     HasLoadedOne, LooksAtNone      the one file was loaded, and no head was looked at
use Rattle.std.specs.Prelude.{◌≡◌, List, ℕ}
use Rattle.scan_source.specs.State.{ScanState}
use Rattle.scan_source.specs.Plan.{one_more}
use Rattle.outcome.specs.declared.Outcome.{Outcome}
use Rattle.outcome.specs.declared.Outcome.TheVariants.{Done}

-- The outcome and the output are those of the file.
pub record IsRightBy (IsCase : Outcome → Type 0) (IsForm : List ℕ → Type 0) (reached : Outcome) (output : List ℕ) : Type 0 where
  pub case : IsCase reached
  pub form : reached ≡ Done → IsForm output

-- the one file
abbrev pub HasLoadedOne : ScanState → ScanState → Outcome → Type 0
HasLoadedOne before after reached = after.loads ≡ one_more before.loads

-- The one file's head isn't looked at by itself.
abbrev pub LooksAtNone : ScanState → ScanState → Outcome → Type 0
LooksAtNone before after reached = after.heads ≡ before.heads
