-- What a frame shows, without what it is called: two frames of one plan in alike jobs look the same. All of it is this
-- project's own rule.
-- * frame plan: what a frame shows, without what it is called: black; one source frame, by its path; or frame `k` of a
--   transition of `d` frames between two sides, each black or a path, by a wipe's code or a dissolve. A cut shows the new side
-- * alike: two jobs of one size, one black and one cube path, or none in both
--     plan_at job i      the plan of record frame i, from 0
--     AreAlike a b      the jobs have one size, one black and one cube
use Rattle.std.specs.Prelude.{◌≡◌, ℕ, List, Option, Some, None, option_and_then}
use Rattle.cf_base.specs.declared.event.Transition.{Transition}
use Rattle.cf_base.specs.declared.event.Transition.TheVariants as transition
use Rattle.cf_base.specs.declared.key.Key.{Key}
use Rattle.record_timeline.specs.declared.Side.{Side}
use Rattle.record_timeline.specs.declared.Side.TheVariants as side
use Rattle.record_timeline.specs.declared.Shot.{Shot}
use Rattle.record_timeline.specs.declared.Shot.TheVariants as shot
use Rattle.source_reels.specs.Reels.{path_of_key}
use Rattle.conform_job.specs.Asks.{shot_of_frame}
use Rattle.conform_job.specs.Job.{JobData}
use Rattle.conform_job.specs.Keys.{key_of_ask}
use Rattle.reconform.specs.declared.plan.PlanSide.{PlanSide}
use Rattle.reconform.specs.declared.plan.PlanSide.TheVariants as plan_side
use Rattle.reconform.specs.declared.plan.FramePlan.{FramePlan}
use Rattle.reconform.specs.declared.plan.FramePlan.TheVariants.{Solid, One, Two}

-- the path of a key's file
abbrev pub key_path : JobData → Option Key → Option (List ℕ)
key_path job key = option_and_then (path_of_key job.parts.reels) key

-- the path of a side's source frame: none where it is black
abbrev pub path_of_side : JobData → Side → Option (List ℕ)
path_of_side job side.Black = None
path_of_side job (side.Frame event source) =
    key_path job (key_of_ask job.parts.reels job.parts.timeline.events (record { event = event; source = source }))

abbrev pub side_by : Option (List ℕ) → PlanSide
side_by None = plan_side.Black
side_by (Some path) = plan_side.Frame path

-- a lone black side is a frame of black
abbrev pub one_by : Option (List ℕ) → FramePlan
one_by None = Solid
one_by (Some path) = One path

-- A transition without its duration: a dissolve has no code. A cut shows the new side alone.
abbrev pub two_by : (old new : Option (List ℕ)) → Transition → (k d : ℕ) → FramePlan
two_by old new transition.Cut k d = one_by new
two_by old new (transition.Dissolve n) k d = Two (side_by old) (side_by new) None k d
two_by old new (transition.Wipe code n) k d = Two (side_by old) (side_by new) (Some code) k d

abbrev pub plan_of : JobData → Shot → FramePlan
plan_of job shot.Gap = Solid
plan_of job (shot.One side) = one_by (path_of_side job side)
plan_of job (shot.Two old new transition k d) = two_by (path_of_side job old) (path_of_side job new) transition k d

abbrev pub plan_at : JobData → ℕ → FramePlan
plan_at job i = plan_of job (shot_of_frame job.parts.timeline i)

pub record AreAlike (a b : JobData) : Type 0 where
  pub width : a.parts.project.width ≡ b.parts.project.width
  pub height : a.parts.project.height ≡ b.parts.project.height
  pub black : a.parts.project.black ≡ b.parts.project.black
  pub cube : a.parts.project.cube ≡ b.parts.project.cube
