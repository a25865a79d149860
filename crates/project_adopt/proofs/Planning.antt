-- From the jobs of both projects to the reply.
use Rattle.std.proofs.Common.{◌≡◌, inl, ℕ, ◌+◌, true, List, subst}
use Rattle.std.specs.Prelude.{Option, Some, None, IfSome, MatchResult, Result, Ok, Err}
use Rattle.scan_source.specs.World.{World, file_at}
use Rattle.conform_job.specs.Answers.{count_after}
use Rattle.conform_job.specs.Job.{JobData}
use Rattle.reel_disk.specs.Disk.{view_of}
use Rattle.outcome.specs.declared.Outcome.{Outcome}
use Rattle.outcome.specs.declared.Outcome.TheVariants as outcome
use Rattle.project_job.specs.Jobs.{HasPlanned, IsOfJob, cube_count}
use Rattle.project_job.specs.Texts.{ByFiles, IsByTexts}
use Rattle.reel_disk.specs.State.{FolderState}
use Rattle.project_run.proofs.Runs.{of_job}
use Rattle.project_adopt.specs.Adopt.{GoesOn, IsAdoptReply, IsAdoption, IsOfAdopt, IsOldSound, IsPromised, of_old_project}
use Rattle.project_adopt.specs.inside.Adopt.{IsJobOver}
use Rattle.project_adopt.proofs.Composing.{run_adopts}

-- what was planned is the job of a project
pub is_over : (told : Option World) (path : List ℕ) (job : JobData) → IfSome told (λ world. HasPlanned (file_at world) path (Ok job)) → IsJobOver told job
is_over None path job planned = tt
is_over (Some world) path job planned = (path, planned)

-- three facts of each case of a result
pub all_three : {A B T U : Type 0} (r : Result A B) (P P' P'' : A → Type 0) (Q Q' Q'' : B → Type 0) → MatchResult r P Q → (T → MatchResult r P' Q') → (T → U → MatchResult r P'' Q'')
    → MatchResult r (λ a. P a × (T → P' a) × (T → U → P'' a)) (λ b. Q b × (T → Q' b) × (T → U → Q'' b))
all_three (Ok a) P P' P'' Q Q' Q'' first second third = (first, second, third)
all_three (Err b) P P' P'' Q Q' Q'' first second third = (first, second, third)

-- The world is that before the old project was planned.
pub adopted_in : (here told : Option World) (job old_job : JobData) (old_path : List ℕ) (old old_after disk disk_after : FolderState) (loads planned loads_after : ℕ) (reached : Outcome) (output : List ℕ) → here ≡ told
    → IfSome told (λ world. HasPlanned (file_at world) old_path (Ok old_job)) → ByFiles told (λ files. IsByTexts files old_path (Ok old_job)) → planned ≡ count_after (2 + cube_count old_job.parts.project.cube) loads
    → IsAdoption job old_job here planned loads_after old old_after disk disk_after reached output
    → (disk.tells ≡ true → IsPromised job None disk disk_after reached)
    → (disk.tells ≡ true → IfSome here (λ world. IsOldSound old_job world (view_of old.history)) → IsPromised job here disk disk_after reached)
    → GoesOn job old_path told loads loads_after old old_after disk disk_after reached output
adopted_in here told job old_job old_path old old_after disk disk_after loads planned loads_after reached output same comes read texts went promise sound = inl (record {
  old_job = old_job;
  planned = planned;
  came = record { comes = record { told = comes; read = read }; texts = texts };
  went = subst (λ (t : Option World). IsAdoption job old_job t planned loads_after old old_after disk disk_after reached output) same went;
  promise = promise;
  sound = subst (λ (t : Option World). disk.tells ≡ true → IfSome t (λ world. IsOldSound old_job world (view_of old.history)) → IsPromised job t disk disk_after reached) same sound;
})

pub job_in : (here told : Option World) (job : JobData) (path old_path : List ℕ) (old old_after disk disk_after : FolderState) (loads planned loads_after : ℕ) (reached : Outcome) (output : List ℕ) → here ≡ told
    → IfSome told (λ world. HasPlanned (file_at world) path (Ok job)) → ByFiles told (λ files. IsByTexts files path (Ok job)) → planned ≡ count_after (2 + cube_count job.parts.project.cube) loads
    → GoesOn job old_path here planned loads_after old old_after disk disk_after reached output
    → IsAdoptReply path old_path told loads loads_after old old_after disk disk_after reached output
job_in here told job path old_path old old_after disk disk_after loads planned loads_after reached output same comes read texts went = inl (record {
  job = job;
  planned = planned;
  came = record { comes = record { told = comes; read = read }; texts = texts };
  went = subst (λ (t : Option World). GoesOn job old_path t planned loads_after old old_after disk disk_after reached output) same went;
})

-- what a job may come to in place of its parts, the command may
pub job_adopts : (found : Outcome) → IsOfJob found → IsOfAdopt found
job_adopts found kind = run_adopts found (of_job found kind)

-- and so it is of the old one
pub old_adopts : (found : Outcome) → IsOfJob found → IsOfAdopt (of_old_project found)
old_adopts (outcome.Refused refusal) kind = tt
old_adopts other kind = job_adopts other kind
