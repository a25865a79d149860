-- The command `status`: how many frames of a project's reel the reel folder acknowledges. All of it is this project's own rule.
-- * `status`: the project came to a job, and its number is that of the frames that the folder acknowledges, which no moment
--   changed; or it came to none, as for `run`
--     IsStatusReply      the project came to a job, and the folder was looked at, or it came to none
use Rattle.std.specs.Prelude.{◌≡◌, ◌⊎◌, ℕ, true, List, [], ◌∷◌, ◌++◌, codes, decimal, Option, Result, Ok, Err}
use Rattle.scan_source.specs.World.{World}
use Rattle.reel_writer.specs.Reel.{frames_of}
use Rattle.conform_job.specs.Job.{JobData}
use Rattle.resume_ledger.specs.Peek.{HasPeeked, IsPeekFor}
use Rattle.resume_ledger.specs.declared.attach.OpenFault.{OpenFault}
use Rattle.printed_text.specs.Text.{spaced_line}
use Rattle.outcome.specs.declared.Outcome.{Outcome}
use Rattle.outcome.specs.declared.Outcome.TheVariants as outcome
use Rattle.project_run.specs.Look.{IsLookReply, outcome_of_fault}
use Rattle.reel_disk.specs.State.{FolderState}
use Rattle.project_run.specs.Calls.{WasOnlyRead}

-- the frames of the reel, and those that the folder acknowledges
abbrev pub status_text : (frames acked : ℕ) → List ℕ
status_text frames acked =
    spaced_line (codes "frames" ∷ decimal frames ∷ [])
    ++ spaced_line (codes "acknowledged" ∷ decimal acked ∷ [])

-- the outcome of a look at the folder
abbrev pub outcome_of_peek : Result ℕ OpenFault → Outcome
outcome_of_peek (Ok acked) = outcome.Done
outcome_of_peek (Err fault) = outcome_of_fault fault

-- The folder was looked at and nothing else, and its number was put: that of the frames that it acknowledges.
pub record IsStatus (job : JobData) (disk disk_after : FolderState) (reached : Outcome) (output : List ℕ) : Type 0 where
  pub answer : Result ℕ OpenFault
  pub reached_is : (reached ≡ outcome_of_peek answer) ⊎ (reached ≡ outcome.NoMemory)
  pub form : reached ≡ outcome.Done → (acked : ℕ) × (answer ≡ Ok acked) × (output ≡ status_text (frames_of job) acked)
  pub peeked : disk.tells ≡ true → HasPeeked job.parts.digest (frames_of job) disk.history disk_after.history answer
  pub known : IsPeekFor job.parts.digest (frames_of job) answer
  pub reads : WasOnlyRead disk disk_after

abbrev pub IsStatusReply : List ℕ → Option World → (loads loads_after : ℕ) → (disk disk_after : FolderState) → Outcome → List ℕ → Type 0
IsStatusReply path told loads loads_after disk disk_after reached output =
    IsLookReply told path disk disk_after loads loads_after reached (λ job. IsStatus job disk disk_after reached output)
