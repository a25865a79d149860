-- The reel's frames are those from the first covered one to the end of the last line, and each shows the line that covers it.
use Rattle.std.proofs.Common.{◌≡◌, ℕ, zero, suc, ◌-◌, ◌<◌, ◌≤◌, List, [], ◌∷◌, length, refl, ap, sym, ◌∙◌, arith, Option, inl, inr}
use Rattle.std.specs.Prelude.{Some, None, nat_lt, slice_get}
use Rattle.std.proofs.lemmas.Bool.{cases_Bool, cases_lt, ltb-true}
use Rattle.std.proofs.lemmas.Option.{none-some, same_Some, slice_get_read}
use Rattle.cf_base.specs.declared.event.EventRec.{EventRec}
use Rattle.cf_base.specs.declared.timing.Rate.{Rate}
use Rattle.cf_base.specs.Events.{record_length}
use Rattle.record_timeline.specs.declared.Shot.TheVariants.{Gap}
use Rattle.record_timeline.specs.Accepted.{least, first_frame, end_frame}
use Rattle.record_timeline.specs.Laws.{IsCovered, reel_end, MadeCovers, HoldsCovered, EndsWithin, BeginsCovered, EndsCovered, ReelIsLeast, new_side, ShowsCover, ShowsGap}
use Rattle.record_timeline.specs.Shots.{covering, duration_of, event_before, side_of, two_sides, shot_within, shot_of}
use Rattle.record_timeline.proofs.CoverLaws.{covering_in, covering_some, covering_none, finds_cover}
use Rattle.record_timeline.proofs.EndLaws.{begins_of, begins_has, end_over, first_under}
use Rattle.record_timeline.proofs.OverlapLaws.{option_cases}

-- ---- where the reel begins and ends

least_there : (ns : List ℕ) (k m : ℕ) → slice_get ns k ≡ Some m → (j : ℕ) × (slice_get ns j ≡ Some (least ns))
least_there [] k m at = absurd (none-some m at)
least_there (n ∷ []) k m at = (0, refl)
least_there (n ∷ l ∷ ns) k m at =
    let rest = least_there (l ∷ ns) 0 l refl in
    elim (cases_lt n (least (l ∷ ns))) [
      | inl less ↦ (0, ap Some (omega arith))
      | inr more ↦ (suc rest.0, rest.1 ∙ ap Some (omega arith))
    ]

least_most : (ns : List ℕ) (m : ℕ) → ((k n : ℕ) → slice_get ns k ≡ Some n → n ≤ m) → least ns ≤ m
least_most [] m each = omega arith
least_most (n ∷ []) m each = each 0 n refl
least_most (n ∷ l ∷ ns) m each = let here = each 0 n refl in omega (arith, here)

-- a line that begins at a frame, and has record frames
abbrev Begins : List EventRec → ℕ → Type 0
Begins events n = (i : ℕ) × (e : EventRec) × (slice_get events i ≡ Some e) × (e.rec_in < e.rec_out) × (e.rec_in ≡ n)

begins_from : (events : List EventRec) (k n : ℕ) → slice_get (begins_of events) k ≡ Some n → Begins events n
begins_from [] k n at = absurd (none-some n at)
begins_from (e ∷ events) k n at = elim (cases_Bool (nat_lt 0 (record_length e))) [
  | inr short ↦ let rest = begins_from events k n (rw short at at) in (suc rest.0, rest.1, rest.2, rest.3, rest.4)
  | inl long ↦ by_place k (rw long at at) (ltb-true _ _ long) (λ j at_j. begins_from events j n at_j)
]
  where
    by_place : (k : ℕ) → slice_get (e.rec_in ∷ begins_of events) k ≡ Some n → 0 < record_length e → ((j : ℕ) → slice_get (begins_of events) j ≡ Some n → Begins events n) → Begins (e ∷ events) n
    by_place zero at some later = (0, e, refl, omega arith, same_Some _ _ at)
    by_place (suc k) at some later = let rest = later k at in (suc rest.0, rest.1, rest.2, rest.3, rest.4)

first_begins : (events : List EventRec) (i : ℕ) (e : EventRec) → slice_get events i ≡ Some e → e.rec_in < e.rec_out → Begins events (first_frame events)
first_begins events i e at some =
    let there = begins_has events i e at some in
    let low = least_there (begins_of events) there.0 e.rec_in there.1 in
    begins_from events low.0 (first_frame events) low.1

ends_at : (events : List EventRec) → reel_end events ≡ end_frame events
ends_at events =
    let low : first_frame events ≤ end_frame events = least_most (begins_of events) (end_frame events) (λ k n at.
    let b = begins_from events k n at in
    let over = end_over events b.0 b.1 b.2 in
    omega (arith, b.3, b.4, over)) in
    omega arith

-- some line has the greatest record out
last_ends : (e : EventRec) (events : List EventRec) → (i : ℕ) × (f : EventRec) × (slice_get (e ∷ events) i ≡ Some f) × (f.rec_out ≡ end_frame (e ∷ events))
last_ends e [] = (0, e, refl, omega arith)
last_ends e (f ∷ events) =
    let rest = last_ends f events in
    elim (cases_lt e.rec_out (end_frame (f ∷ events))) [
      | inl less ↦ (suc rest.0, rest.1, rest.2, omega (arith, rest.3))
      | inr more ↦ (0, e, refl, omega arith)
    ]

-- ---- the laws of the reel's frames

pub made_covers : MadeCovers
made_covers rate mode events made =
    let some = made.some_length in
    let e : EventRec = some.1 in
    let at : slice_get events some.0 ≡ Some e = slice_get_read events (length events) some.0 e refl some.2 (sym some.3) in
    (e.rec_in, (some.0, e, at, (omega arith, omega (arith, some.4))))

pub holds_covered : HoldsCovered
holds_covered events n c =
    let low = first_under events c.0 c.1 c.2 (omega (arith, c.3)) in
    let high = end_over events c.0 c.1 c.2 in
    (omega (arith, c.3), omega (arith, c.3, ends_at events))

pub ends_within : EndsWithin
ends_within events i e at = rw (ends_at events) (end_over events i e at)

pub begins_covered : BeginsCovered
begins_covered events n c =
    let b = first_begins events c.0 c.1 c.2 (omega (arith, c.3)) in
    (b.0, b.1, b.2, (omega (arith, b.4), omega (arith, b.3, b.4)))

pub ends_covered : EndsCovered
ends_covered [] last is = absurd (omega arith)
ends_covered (e ∷ events) last is =
    let l = last_ends e events in
    let f : EventRec = l.1 in
    let stop : f.rec_out ≡ reel_end (e ∷ events) = l.3 ∙ sym (ends_at (e ∷ events)) in
    elim (cases_lt f.rec_in f.rec_out) [
      | inl some ↦ inl (l.0, f, l.2, (omega (arith, stop, is), omega (arith, stop, is)))
      | inr none ↦ inr (l.0, f, l.2, none, stop)
    ]

pub reel_is_least : ReelIsLeast
reel_is_least events last from to is covered holds n inside =
    let low = holds (first_frame events) (begins_covered events last covered) in
    let high = holds last covered in
    (omega (arith, low, inside), omega (arith, high, inside, is))

-- ---- the laws of what a frame shows

new_shown : (rate : Rate) (place : ℕ) (e : EventRec) (old : Option EventRec) (n : ℕ) (duration : Option ℕ) → new_side (shot_within rate place e old n duration) ≡ Some (side_of rate place e n)
new_shown rate place e old n None = refl
new_shown rate place e old n (Some d) = elim (cases_Bool (nat_lt (n - e.rec_in) d)) [
  | inl within ↦ rw within (two_shown_by old)
  | inr past ↦ rw past refl
]
  where
    two_shown_by : (old : Option EventRec) → new_side (two_sides rate place e old n d) ≡ Some (side_of rate place e n)
    two_shown_by None = refl
    two_shown_by (Some old) = refl

shows_place : (rate : Rate) (events : List EventRec) (n i : ℕ) (e : EventRec) → covering events n ≡ Some i → slice_get events i ≡ Some e → new_side (shot_of rate events n) ≡ Some (side_of rate i e n)
shows_place rate events n i e found at = rw (found, at) (new_shown rate i e (event_before events i) n (duration_of e.transition))

pub shows_cover : ShowsCover
shows_cover rate events apart i e n at covers = shows_place rate events n i e (covering_some events apart i e n at covers.0 covers.1) at

pub shows_gap : ShowsGap
shows_gap rate events n = (
  (λ (gap : shot_of rate events n ≡ Gap) (c : IsCovered events n). elim (option_cases (covering events n)) [
    | inl none ↦ (rw none at (finds_cover events n)) c.0 c.1 c.2 c.3
    | inr some ↦
        let there = covering_in events n some.0 some.1 in
        none-some _ (sym (ap new_side gap) ∙ shows_place rate events n some.0 there.e some.1 there.at)
  ]),
  (λ (never : IsCovered events n → ⊥).
      let none = covering_none events n (λ i e at begun going. never (i, e, at, (begun, going))) in
      rw none refl),
)
