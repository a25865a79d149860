-- What a run did.
use Rattle.std.specs.Prelude.{◌≡◌, ℕ, ◌≤◌, Bool, List, [], ◌++◌, length, take, drop}
use Rattle.cf_base.specs.declared.key.Key.{Key}
use Rattle.conform_job.specs.Job.{JobData}
use Rattle.frame_share.specs.declared.step.ShareStep.{ShareStep}
use Rattle.run_alone.specs.Asks.{closed_frames, asks_of_frames}
use Rattle.frame_fetch.specs.Sharing.{IsPaired, asks_of}
use Rattle.frame_fetch.specs.declared.run_end.RunEnd.{RunEnd}
use Rattle.frame_fetch.specs.declared.run_end.RunEnd.TheVariants.{Done}

-- The frames of the range whose gate was closed at the opening were finished in order, so many of them, and at
-- Done all. The log has the asks of these, one frame after another, and then asks of the next one;
-- each miss has its put, but for one at the end of a run that is not Done.
pub record WereFinished (job : JobData) (low high : ℕ) (gates : List Bool) (end : RunEnd) (rendered : ℕ)
    (log : List ShareStep) : Type 0 where
  pub few : rendered ≤ length (closed_frames gates low high)
  pub all : end ≡ Done → rendered ≡ length (closed_frames gates low high)
  pub next : List Key
  pub rest : List Key
  pub asked : asks_of log
      ≡ asks_of_frames job (take rendered (closed_frames gates low high)) ++ next
  pub first : asks_of_frames job (take 1 (drop rendered (closed_frames gates low high)))
      ≡ next ++ rest
  pub paired : IsPaired (Unit {0}) log
  pub exact : end ≡ Done → (next ≡ []) × IsPaired ⊥ log
