-- A frame's plan is made of the paths of what it needs.
use Rattle.std.proofs.Common.{◌≡◌, ℕ, refl, ap, subst}
use Rattle.std.specs.Prelude.{Option, Some, None, IsSome, option_and_then}
use Rattle.std.specs.Option.{option_map}
use Rattle.std.proofs.lemmas.Bool.{false≢true}
use Rattle.cf_base.specs.declared.key.Key.{Key}
use Rattle.dpx_header.specs.declared.info.FrameInfo.{FrameInfo}
use Rattle.record_timeline.specs.declared.Side.{Side}
use Rattle.record_timeline.specs.declared.Side.TheVariants.{Black, Frame}
use Rattle.record_timeline.specs.declared.Shot.{Shot}
use Rattle.record_timeline.specs.declared.Shot.TheVariants.{Two}
use Rattle.conform_job.specs.Asks.{shot_of_frame}
use Rattle.conform_job.specs.Job.{JobData, IsMet, AreMet, info_of_key, need_of_side, need_of_shot, need_at}
use Rattle.conform_job.specs.Keys.{key_of_ask, info_at}
use Rattle.cf_base.specs.declared.event.Transition.{Transition}
use Rattle.reconform.specs.Plan.{key_path, path_of_side, plan_at, plan_of, two_by}

abbrev pub key_of : Option (Key × FrameInfo) → Option Key
key_of need = option_map (λ (n : Key × FrameInfo). n.0) need

module _ (job : JobData) where
  by_info : (key : Key) (info : Option FrameInfo) → IsSome (option_map (λ (info : FrameInfo). let n : Key × FrameInfo = (key, info) in n) info)
      → key_of (option_map (λ (info : FrameInfo). let n : Key × FrameInfo = (key, info) in n) info) ≡ Some key
  by_info key None met = absurd (false≢true met)
  by_info key (Some info) met = refl

  by_key : (key : Option Key) → IsSome (option_and_then (info_of_key job.infos) key) → key_of (option_and_then (info_of_key job.infos) key) ≡ key
  by_key None met = absurd (false≢true met)
  by_key (Some key) met = by_info key (info_at job.infos key) met

  -- the path of a side is that of its need
  pub side_path : (side : Side) → IsMet side (need_of_side job.parts job.infos side) → key_path job (key_of (need_of_side job.parts job.infos side)) ≡ path_of_side job side
  side_path Black met = refl
  side_path (Frame event source) met = ap (key_path job) (by_key (key_of_ask job.parts.reels job.parts.timeline.events (record { event = event; source = source })) met)

-- and so is the plan of a frame with two sides
pub two_plan : (job : JobData) (i : ℕ) (old new : Side) (t : Transition) (k d : ℕ) → Two old new t k d ≡ shot_of_frame job.parts.timeline i
    → AreMet (shot_of_frame job.parts.timeline i) (need_at job i)
    → two_by (key_path job (key_of (need_at job i).old)) (key_path job (key_of (need_at job i).new)) t k d ≡ plan_at job i
two_plan job i old new t k d is met = subst IsTold is told met
  where
    IsTold : Shot → Type 0
    IsTold s = AreMet s (need_of_shot job.parts job.infos s)
        → two_by (key_path job (key_of (need_of_shot job.parts job.infos s).old)) (key_path job (key_of (need_of_shot job.parts job.infos s).new)) t k d ≡ plan_of job s

    told : IsTold (Two old new t k d)
    told met n = two_by (side_path job old met.0 n) (side_path job new met.1 n) t k d
