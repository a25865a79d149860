-- The command `adopt`: words of private clauses.
use Rattle.std.specs.Prelude.{◌≡◌, ◌⊎◌, ℕ, List, Option, IfSome, Result, Ok, MatchResult}
use Rattle.scan_source.specs.State.{LeavesScan, ScanState}
use Rattle.scan_source.specs.World.{World, file_at}
use Rattle.conform_job.specs.Job.{JobData}
use Rattle.reconform.specs.declared.adopting.Adopted.{Adopted}
use Rattle.run_alone.specs.declared.report.Report.{Report}
use Rattle.frame_fetch.specs.declared.run_end.RunEnd.{RunEnd}
use Rattle.outcome.specs.declared.Outcome.{Outcome}
use Rattle.outcome.specs.declared.Outcome.TheVariants as outcome
use Rattle.project_job.specs.Jobs.{ComesTo}
use Rattle.project_run.specs.Run.{outcome_of_end}
use Rattle.project_adopt.specs.Adopt.{adopt_text}

-- What a run that ended so comes to behind an adoption: the outcome of its end, or want of memory for the report.
pub record ReportsAdoption (job : JobData) (done : Adopted) (how : RunEnd) (report : Report) (reached : Outcome)
    (output : List ℕ) : Type 0 where
  pub reached_is : (reached ≡ outcome_of_end job.parts.reels how) ⊎ (reached ≡ outcome.NoMemory)
  pub form : reached ≡ outcome.Done → output ≡ adopt_text done report

-- this is so of the outcome that a call came to, also of Done
abbrev pub Ends : {A : Type 0} → Result A Outcome → (Outcome → Type 0) → Type 0
Ends result Was = MatchResult result (λ text. Was outcome.Done) Was

-- the job is that of a project over these source files
abbrev pub IsJobOver : Option World → JobData → Type 0
IsJobOver told job = IfSome told (λ world. (path : List ℕ) × ComesTo (file_at world) path (Ok job.parts))

-- What is left of the scan behind the plans: no more heads are asked for.
pub record LeavesPlanned (Failed : Type 0) (before after : ScanState) : Type 0 where
  pub lent : LeavesScan Failed before after
  pub heads : after.heads ≡ before.heads
