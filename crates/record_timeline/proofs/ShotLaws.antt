-- The shot of a frame: what its covering event and the one before it give.
use Rattle.std.proofs.Common.{◌≡◌, ℕ, ℤ, zero, suc, ◌-◌, ◌<◌, ◌≤◌, Bool, true, false, cond, List, [], ◌∷◌, length, get_or, refl, ap, sym, ◌∙◌, subst, arith, lit≤, lit<, Option, inl, inr}
use Rattle.std.specs.Prelude.{Some, None, IsSome, slice_get, nat_lt, if◌then◌else◌}
use Rattle.std.proofs.lemmas.Bool.{false≢true, cases_Bool, ltb-true, lt-ltb}
use Rattle.std.proofs.lemmas.Option.{none-some, same_Some, slice_get_read, slice_get_within, get_or_from_slice_get}
use Rattle.cf_base.specs.declared.timing.Rate.{Rate}
use Rattle.cf_base.specs.declared.timing.Rate.TheVariants.{R24, R25, R30}
use Rattle.cf_base.specs.declared.timing.Mode.{Mode}
use Rattle.cf_base.specs.declared.timing.Mode.TheVariants.{NonDrop, Drop}
use Rattle.cf_base.specs.declared.event.Transition.{Transition}
use Rattle.cf_base.specs.declared.event.Transition.TheVariants.{Cut, Dissolve, Wipe}
use Rattle.cf_base.specs.declared.event.EventRec.{EventRec}
use Rattle.cf_base.specs.Timing.{frames_in_day}
use Rattle.cf_base.specs.Events.{IsWellMade, IsWellMadeEvent, AllFollowOn, FollowsOn, FitsTransition, is_black_reel, record_length}
use Rattle.record_timeline.specs.declared.Side.TheVariants.{Black, Frame}
use Rattle.record_timeline.specs.declared.Shot.TheVariants.{One, Two}
use Rattle.record_timeline.specs.Shots.{covering, duration_of, side_of, two_sides, shot_within, shot_in, shot_by, shot_of, event_before, IsSideIn, Lasts, IsShotIn}
use Rattle.record_timeline.proofs.CoverLaws.{covering_in}

pub day_most : (rate : Rate) (mode : Mode) → frames_in_day rate mode ≤ 2592000
day_most R24 mode = lit≤ tt
day_most R25 mode = lit≤ tt
day_most R30 NonDrop = lit≤ tt
day_most R30 Drop = lit≤ tt

pub day_some : (rate : Rate) (mode : Mode) → 0 < frames_in_day rate mode
day_some R24 mode = lit< tt
day_some R25 mode = lit< tt
day_some R30 NonDrop = lit< tt
day_some R30 Drop = lit< tt

-- neighbours in a list
follow_at : (events : List EventRec) (p : ℕ) (old new : EventRec) → AllFollowOn events → slice_get events p ≡ Some old → slice_get events (suc p) ≡ Some new → FollowsOn old new new.transition
follow_at [] p old new h at_old at_new = absurd (none-some old at_old)
follow_at (e ∷ []) p old new h at_old at_new = absurd (none-some new at_new)
follow_at (e ∷ f ∷ more) zero old new h at_old at_new =
    let is_old : e ≡ old = same_Some _ _ at_old in
    let is_new : f ≡ new = same_Some _ _ at_new in
    subst (λ (o : EventRec). FollowsOn o new new.transition) is_old (subst (λ (x : EventRec). FollowsOn e x x.transition) is_new h.0)
follow_at (e ∷ f ∷ more) (suc p) old new h at_old at_new = follow_at (f ∷ more) p old new h.1 at_old at_new

meets : (old new : EventRec) (t : Transition) → FollowsOn old new t → IsSome (duration_of t) → old.rec_out ≡ new.rec_in
meets old new Cut follows lasts = absurd (false≢true lasts)
meets old new (Dissolve d) follows lasts = follows
meets old new (Wipe code d) follows lasts = follows

-- the event that was read at the place of the covering one
pub read_there : (events : List EventRec) (n place : ℕ) → covering events n ≡ Some place → (e : EventRec) → e ≡ get_or events place e → slice_get events place ≡ Some e
read_there events n place found e here =
    let c = covering_in events n place found in
    slice_get_read events (length events) place e refl (slice_get_within events place c.e c.at) here

pub begun_there : (events : List EventRec) (n place : ℕ) → covering events n ≡ Some place → (e : EventRec) → e ≡ get_or events place e → e.rec_in ≤ n
begun_there events n place found e here =
    let c = covering_in events n place found in
    let same : c.e ≡ e = same_Some _ _ (sym c.at ∙ read_there events n place found e here) in
    rw same at c.begun

module _ (rate : Rate) (mode : Mode) (events : List EventRec) (made : IsWellMade rate mode events) where
  pub made_at : (i : ℕ) (e : EventRec) → slice_get events i ≡ Some e → IsWellMadeEvent rate mode e
  made_at i e at = let h = made.each i e (slice_get_within events i e at) in rw (get_or_from_slice_get events i e e at) at h

  pub in_day : (n place : ℕ) → covering events n ≡ Some place → n ≤ 2592000
  in_day n place found =
      let c = covering_in events n place found in
      omega (arith, c.going, (made_at place c.e c.at).record_out, day_most rate mode)

  -- the event before a transition has begun at the frame
  pub old_begun : (n place : ℕ) (e old : EventRec) → slice_get events place ≡ Some e → e.rec_in ≤ n → event_before events place ≡ Some old → IsSome (duration_of e.transition) → old.rec_in ≤ n
  old_begun n zero e old at begun before lasts = absurd (none-some old before)
  old_begun n (suc p) e old at begun before lasts =
      let met = meets old e e.transition (follow_at events p old e made.follow before at) lasts in
      omega (arith, met, (made_at p old before).ordered, begun)

  -- ---- what every shot keeps

  side_by : (b : Bool) (place : ℕ) (source : ℤ) → place < length events → IsSideIn events (cond b Black (Frame place source))
  side_by true place source h = tt
  side_by false place source h = h

  side_in : (place : ℕ) (e : EventRec) (n : ℕ) → place < length events → IsSideIn events (side_of rate place e n)
  side_in place e n h = side_by (is_black_reel e.reel) place _ h

  -- the duration of a transition that fits its event
  lasts_by : (e : EventRec) (t : Transition) (d : ℕ) → FitsTransition e t → duration_of t ≡ Some d → Lasts d t × (d ≤ record_length e)
  lasts_by e Cut d fits is = absurd (none-some d is)
  lasts_by e (Dissolve frames) d fits is = let same : frames ≡ d = same_Some _ _ is in (same, omega (arith, same, fits.1))
  lasts_by e (Wipe code frames) d fits is = let same : frames ≡ d = same_Some _ _ is in ((same, fits.2), omega (arith, same, fits.1))

  module _ (n place : ℕ) (e : EventRec) (at : slice_get events place ≡ Some e) where
    two_in : (old : Option EventRec) (d : ℕ) → n - e.rec_in < d → duration_of e.transition ≡ Some d → IsShotIn events (two_sides rate place e old n d)
    two_in None d within lasts = side_in place e n (slice_get_within events place e at)
    two_in (Some old) d within lasts =
        let here = slice_get_within events place e at in
        let m = made_at place e at in
        let fits = lasts_by e e.transition d m.transition lasts in
        record {
          old_side = side_in (place - 1) old n (omega (arith, here));
          new_side = side_in place e n here;
          lasts = fits.0;
          within = within;
          day = omega (arith, fits.1, m.record_out, day_most rate mode);
        }

    within_in : (old : Option EventRec) (duration : Option ℕ) → duration_of e.transition ≡ duration → IsShotIn events (shot_within rate place e old n duration)
    within_in old None lasts = side_in place e n (slice_get_within events place e at)
    within_in old (Some d) lasts = elim (cases_Bool (nat_lt (n - e.rec_in) d)) [
      | inl within ↦ rw within (two_in old d (ltb-true _ _ within) lasts)
      | inr past ↦ rw past (side_in place e n (slice_get_within events place e at))
    ]

  in_in : (n place : ℕ) (found : Option EventRec) → slice_get events place ≡ found → IsShotIn events (shot_in rate n place found (event_before events place))
  in_in n place None at = tt
  in_in n place (Some e) at = within_in n place e at (event_before events place) (duration_of e.transition) refl

  by_in : (n : ℕ) (found : Option ℕ) → IsShotIn events (shot_by rate events n found)
  by_in n None = tt
  by_in n (Some place) = in_in n place (slice_get events place) refl

  pub shot_fits : (n : ℕ) → IsShotIn events (shot_of rate events n)
  shot_fits n = by_in n (covering events n)

pub shot_is : (rate : Rate) (events : List EventRec) (n place : ℕ) (e : EventRec) (old : Option EventRec) → covering events n ≡ Some place → slice_get events place ≡ Some e → old ≡ event_before events place
    → shot_within rate place e old n (duration_of e.transition) ≡ shot_of rate events n
shot_is rate events n place e old found at before = rw (found, at, before) refl

pub two_shown : (rate : Rate) (place : ℕ) (e old : EventRec) (n d : ℕ) → duration_of e.transition ≡ Some d → n - e.rec_in < d
    → shot_within rate place e (Some old) n (duration_of e.transition) ≡ Two (side_of rate (place - 1) old n) (side_of rate place e n) e.transition (n - e.rec_in) d
two_shown rate place e old n d lasts within =
    rw lasts (ap (λ b. if b then two_sides rate place e (Some old) n d else One (side_of rate place e n)) (lt-ltb (n - e.rec_in) d within))
