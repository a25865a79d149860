-- The project comes to its job, and to no refusal.
use Rattle.std.proofs.Common.{◌≡◌, ℕ, ◌≤◌, List, refl, ap, ◌∙◌, subst}
use Rattle.std.specs.Prelude.{Option, Some, IfSome, Ok, Err}
use Rattle.scan_source.specs.World.{World, world_of, file_at}
use Rattle.conform_job.specs.Job.{JobData}
use Rattle.outcome.specs.declared.Outcome.{Outcome}
use Rattle.outcome.specs.declared.Outcome.TheVariants as outcome
use Rattle.project_job.specs.Jobs.{HasPlanned}
use Rattle.project_job.specs.Laws.{OneJob}
use Rattle.demo.specs.Files.{File, project_path, demo_files}
use Rattle.demo.specs.Demo.{demo_world, reel_text, IsShown, IsInstead}
use Rattle.demo.proofs.FrameAsks.{parts}
use Rattle.demo.proofs.JobAccepted.{job_accepted}

module _ (events : ℕ) (told : Option World) (files : List File) (tells : told ≡ Some (world_of files)) (made : files ≡ demo_files events) where
  -- the scan tells the files of the demonstration
  world_is : told ≡ Some (demo_world events)
  unfolding demo_world
  world_is = tells ∙ ap (λ (files : List File). Some (world_of files)) made

  holds : (P : World → Type 0) → IfSome told P → P (demo_world events)
  holds P has = let Holds : Option World → Type 0 = λ told. IfSome told P in subst Holds world_is has

  module _ (path : List ℕ) (at : path ≡ project_path) where
    pub is_instead : OneJob → 1 ≤ events → events ≤ 1000 → (reached : Outcome) → IfSome told (λ world. HasPlanned (file_at world) path (Err reached)) → (reached ≡ outcome.SourceFault → ⊥) → IsInstead reached
    is_instead laws some few reached planned never = by reached (subst (λ (path : List ℕ). HasPlanned (file_at (demo_world events)) path (Err reached)) at (holds (λ world. HasPlanned (file_at world) path (Err reached)) planned)) never
      where
        by : (reached : Outcome) → HasPlanned (file_at (demo_world events)) project_path (Err reached) → (reached ≡ outcome.SourceFault → ⊥) → IsInstead reached
        by (outcome.Refused refusal) has never = laws.apart (file_at (demo_world events)) project_path (parts events) refusal (job_accepted events some few) has
        by outcome.NoMemory has never = tt
        by outcome.SourceFault has never = never refl
        by outcome.Done has never = has
        by outcome.Usage has never = has
        by (outcome.OtherJob kept wanted) has never = has
        by (outcome.BadLedger len) has never = has
        by (outcome.OldRefused refusal) has never = has
        by (outcome.OldOtherJob kept wanted) has never = has
        by (outcome.OldBadLedger len) has never = has
        by (outcome.Damaged frame kept found) has never = has
        by (outcome.Changed reel key was now) has never = has
        by outcome.DiskFault has never = has
        by (outcome.SinkFault instead) has never = has

    -- what is printed is of the same files, which are still told when the job was planned
    pub is_shown : (job : JobData) (text : List ℕ) (later : Option World) → IfSome told (λ world. HasPlanned (file_at world) path (Ok job)) → later ≡ told
        → IfSome later (λ world. text ≡ reel_text job (file_at world)) → IsShown (file_at (demo_world events)) text
    is_shown job text later planned stays shown = record {
      job = job;
      comes = subst (λ (path : List ℕ). HasPlanned (file_at (demo_world events)) path (Ok job)) at (holds (λ world. HasPlanned (file_at world) path (Ok job)) planned);
      printed = holds (λ world. text ≡ reel_text job (file_at world))
          (subst (λ (told : Option World). IfSome told (λ world. text ≡ reel_text job (file_at world))) stays shown);
    }
