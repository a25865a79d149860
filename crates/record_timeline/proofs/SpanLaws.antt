-- What sorted spans tell of their events.
use Rattle.std.proofs.Common.{◌≡◌, ℕ, ◌+◌, ◌<◌, ◌≤◌, max, min, List, length, refl, ap, sym, ◌∙◌, arith, inl, inr}
use Rattle.std.specs.Prelude.{Some, slice_get}
use Rattle.std.specs.List.{Contains, All}
use Rattle.std.proofs.lemmas.Bool.{cases_Bool, cases_order, ltb-true, lt-ltb}
use Rattle.std.proofs.lemmas.Option.{slice_get_read, same_Some, cond_some}
use Rattle.std.proofs.lemmas.List.Sorted.{All-permutation, Contains-permutation}
use Rattle.cf_base.specs.declared.event.EventRec.{EventRec}
use Rattle.cf_base.proofs.FirstLaws.{ComesFrom, all_come_from, all_are_there}
use Rattle.record_timeline.specs.declared.spans.RecordSpan.{RecordSpan}
use Rattle.record_timeline.specs.Accepted.{share}
use Rattle.record_timeline.specs.inside.Spans.{span_by, IsSortedSpans, ApartBelow, AreApart, NoOverlapBefore}
use Rattle.record_timeline.proofs.OverlapLaws.{no_overlap_at}

-- a span is that of the event at its place
pub record Owns (events : List EventRec) (s : RecordSpan) : Type 0 where
  pub e : EventRec
  pub at : slice_get events s.place ≡ Some e
  pub begins : s.rec_in ≡ e.rec_in
  pub ends : s.rec_out ≡ e.rec_out
  pub some : s.rec_in < s.rec_out

owns_by : (events : List EventRec) (s : RecordSpan) → ComesFrom (λ (p : ℕ × EventRec). span_by p.0 p.1) 0 events s → Owns events s
owns_by events s w =
    let first : 0 + w.0 ≡ w.0 = omega arith in
    let e : EventRec = w.1 in
    let parts = cond_some _ _ _ (rw first at w.3) in
    let below : e.rec_in < e.rec_out = ltb-true _ _ parts.0 in
    rw (← parts.1) (record { e = e; at = w.2; begins = refl; ends = refl; some = below })

pub all_own : (events : List EventRec) (spans : List RecordSpan) → IsSortedSpans events spans → All (Owns events) spans
all_own events spans h = All-permutation (Owns events) _ _ h.same (λ k d below. owns_by events _ (all_come_from (λ (p : ℕ × EventRec). span_by p.0 p.1) 0 events k d below))

-- an event that has record frames has a span
pub is_there : (events : List EventRec) (spans : List RecordSpan) → IsSortedSpans events spans → (i : ℕ) (e : EventRec) → slice_get events i ≡ Some e → e.rec_in < e.rec_out
    → Contains spans (record { rec_in = e.rec_in; rec_out = e.rec_out; place = i })
is_there events spans h i e at some =
    let first : 0 + i ≡ i = omega arith in
    Contains-permutation _ _ _ h.same (all_are_there (λ (p : ℕ × EventRec). span_by p.0 p.1) 0 events i e (record { rec_in = e.rec_in; rec_out = e.rec_out; place = i }) at (rw (first, lt-ltb e.rec_in e.rec_out some) refl))

-- spans of the first lines that are apart: none of these lines shares a frame with an earlier one
pub apart_shares_none : (events : List EventRec) (spans : List RecordSpan) (front : ℕ) → IsSortedSpans events spans → AreApart spans front → NoOverlapBefore events front
apart_shares_none events spans front h apart i e in_front at_i = no_overlap_at events i e (λ j f below at_j. elim (cases_Bool (share e f)) [
  | inr apart_here ↦ apart_here
  | inl shared ↦
      let met : max e.rec_in f.rec_in < min e.rec_out f.rec_out = ltb-true _ _ shared in
      let some_e : e.rec_in < e.rec_out = omega arith in
      let some_f : f.rec_in < f.rec_out = omega arith in
      absurd (never (record { rec_in = e.rec_in; rec_out = e.rec_out; place = i }) (record { rec_in = f.rec_in; rec_out = f.rec_out; place = j })
      (is_there events spans h i e at_i some_e) (is_there events spans h j f at_j some_f) met below in_front)
])
  where
    never : (s t : RecordSpan) → Contains spans s → Contains spans t → max s.rec_in t.rec_in < min s.rec_out t.rec_out → t.place < s.place → s.place < front → ⊥
    never s t a b met below in_front =
        let at_a : slice_get spans a.0 ≡ Some s = slice_get_read spans (length spans) a.0 s refl a.1 (sym a.2) in
        let at_b : slice_get spans b.0 ≡ Some t = slice_get_read spans (length spans) b.0 t refl b.1 (sym b.2) in
        elim (cases_order a.0 b.0) [
          | inr (inl less) ↦ let far = apart a.0 b.0 s t less b.1 at_a at_b in_front (omega arith) in omega (arith, far, met)
          | inl same ↦
              let one : s ≡ t = same_Some _ _ (sym at_a ∙ ap (slice_get spans) same ∙ at_b) in
              let places : s.place ≡ t.place = ap (λ (x : RecordSpan). x.place) one in
              omega (arith, places, below)
          | inr (inr more) ↦ let far = apart b.0 a.0 t s more a.1 at_b at_a (omega arith) in_front in omega (arith, far, met)
        ]

-- ---- a span more

-- the spans of the first lines that were passed end at a frame, or before
abbrev pub EndBelow : List RecordSpan → ℕ → ℕ → ℕ → Type 0
EndBelow spans front high «end» = (a : ℕ) (s : RecordSpan) → a < high → slice_get spans a ≡ Some s → s.place < front → s.rec_out ≤ «end»

module _ (spans : List RecordSpan) (front i : ℕ) (here : RecordSpan) (at : slice_get spans i ≡ Some here) where
  is_here : (k : ℕ) (s : RecordSpan) → k ≡ i → slice_get spans k ≡ Some s → s ≡ here
  is_here k s same there = same_Some _ _ (sym there ∙ ap (slice_get spans) same ∙ at)

  -- a span of another line changes nothing
  pub apart_passed : (front ≤ here.place) → ApartBelow spans front i → ApartBelow spans front (i + 1)
  apart_passed other apart a b s t before below at_a at_b in_s in_t = elim (cases_order b i) [
    | inl same ↦ let place : t.place ≡ here.place = ap (λ (x : RecordSpan). x.place) (is_here b t same at_b) in absurd (omega (arith, place, in_t, other))
    | inr (inl less) ↦ apart a b s t before less at_a at_b in_s in_t
    | inr (inr more) ↦ absurd (omega arith)
  ]

  pub end_passed : (front ≤ here.place) → («end» : ℕ) → EndBelow spans front i «end» → EndBelow spans front (i + 1) «end»
  end_passed other «end» ends a s below at_a in_s = elim (cases_order a i) [
    | inl same ↦ let place : s.place ≡ here.place = ap (λ (x : RecordSpan). x.place) (is_here a s same at_a) in absurd (omega (arith, place, in_s, other))
    | inr (inl less) ↦ ends a s less at_a in_s
    | inr (inr more) ↦ absurd (omega arith)
  ]

  -- a span that begins behind the end
  pub apart_more : («end» : ℕ) → «end» ≤ here.rec_in → EndBelow spans front i «end» → ApartBelow spans front i → ApartBelow spans front (i + 1)
  apart_more «end» begins ends apart a b s t before below at_a at_b in_s in_t = elim (cases_order b i) [
    | inl same ↦
        let begin : t.rec_in ≡ here.rec_in = ap (λ (x : RecordSpan). x.rec_in) (is_here b t same at_b) in
        let stop = ends a s (omega arith) at_a in_s in
        omega (arith, begin, stop, begins)
    | inr (inl less) ↦ apart a b s t before less at_a at_b in_s in_t
    | inr (inr more) ↦ absurd (omega arith)
  ]

  pub end_more : («end» : ℕ) → EndBelow spans front i «end» → EndBelow spans front (i + 1) (max here.rec_out «end»)
  end_more «end» ends a s below at_a in_s = elim (cases_order a i) [
    | inl same ↦ let stop : s.rec_out ≡ here.rec_out = ap (λ (x : RecordSpan). x.rec_out) (is_here a s same at_a) in omega (arith, stop)
    | inr (inl less) ↦ let stop = ends a s less at_a in_s in omega (arith, stop)
    | inr (inr more) ↦ absurd (omega arith)
  ]
