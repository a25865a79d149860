-- Which event covers a frame, by sorted spans.
use Rattle.std.proofs.Common.{◌≡◌, ℕ, ◌-◌, ◌<◌, ◌≤◌, leb, ltb, Bool, true, false, List, length, get_or, ap, sym, refl, ◌∙◌, arith, inl, inr, Option}
use Rattle.std.specs.Prelude.{Some, None, slice_get, MatchOption}
use Rattle.std.specs.List.{position, position_or_len}
use Rattle.std.specs.List.Sorted.{IsPartitionPoint}
use Rattle.std.proofs.lemmas.Bool.{cases_Bool, cases_lt, ltb-true, lt-ltb, le-leb, leb-true, ltb-false, false≢true, and_parts}
use Rattle.std.proofs.lemmas.Option.{none-some, same_Some, slice_get_within, slice_get_cases, get_or_from_slice_get, cond_some}
use Rattle.std.proofs.lemmas.List.{get_or_default}
use Rattle.std.proofs.lemmas.List.Quantifiers.{position-Some}
use Rattle.std.proofs.lemmas.List.Sums.{fails_before_first}
use Rattle.cf_base.specs.declared.event.EventRec.{EventRec}
use Rattle.record_timeline.specs.declared.spans.RecordSpan.{RecordSpan}
use Rattle.record_timeline.specs.Accepted.{first_overlap}
use Rattle.record_timeline.specs.Laws.{Covers, FindsCover}
use Rattle.record_timeline.specs.Shots.{covers, covering}
use Rattle.record_timeline.specs.inside.Spans.{IsSortedSpans}
use Rattle.record_timeline.proofs.OverlapLaws.{option_cases, one_covers}
use Rattle.record_timeline.proofs.SpanLaws.{Owns, all_own, is_there}

-- the first place at which a test passes, with what stands there
position_in : {X : Type 0} (p : X → Bool) (xs : List X) (i : ℕ) → position p xs ≡ Some i → (x : X) × (slice_get xs i ≡ Some x) × (p x ≡ true)
position_in {X} p xs i e =
    let parts = cond_some (ltb (position_or_len p xs) (length xs)) (position_or_len p xs) i e in
    let below : position_or_len p xs < length xs = ltb-true _ _ parts.0 in
    let within : i < length xs = rw parts.1 at below in
    elim ((slice_get_cases xs i).1) [
      | inl found ↦ let x : X = found.0 in (x, found.2, rw found.3 at (position-Some p xs i x e).1)
      | inr past ↦ absurd (omega (arith, within, past.0))
    ]

position_none : {X : Type 0} (p : X → Bool) (xs : List X) → position p xs ≡ None → (i : ℕ) (x : X) → slice_get xs i ≡ Some x → p x ≡ false
position_none p xs e i x at = elim (cases_Bool (ltb (position_or_len p xs) (length xs))) [
  | inl hit ↦ absurd (none-some (position_or_len p xs) (rw hit at (sym e)))
  | inr miss ↦
      let over : length xs ≤ position_or_len p xs = ltb-false _ _ miss in
      let within : i < length xs = slice_get_within xs i x at in
      rw (get_or_from_slice_get xs i x x at) at (fails_before_first p xs i x (omega arith))
]

covers-true : (e : EventRec) (n : ℕ) → covers e n ≡ true → (e.rec_in ≤ n) × (n < e.rec_out)
covers-true e n h = let parts = and_parts _ _ h in (leb-true _ _ parts.0, ltb-true _ _ parts.1)

covers_by : (e : EventRec) (n : ℕ) → e.rec_in ≤ n → n < e.rec_out → covers e n ≡ true
covers_by e n a b = rw (le-leb e.rec_in n a, lt-ltb n e.rec_out b) refl

-- the covering event stands in the list and covers the frame
pub record Covering (events : List EventRec) (n place : ℕ) : Type 0 where
  pub e : EventRec
  pub at : slice_get events place ≡ Some e
  pub begun : e.rec_in ≤ n
  pub going : n < e.rec_out

pub covering_in : (events : List EventRec) (n place : ℕ) → covering events n ≡ Some place → Covering events n place
covering_in events n place found =
    let here = position_in (λ (e : EventRec). covers e n) events place found in
    let inside = covers-true here.0 n here.2 in
    record { e = here.0; at = here.1; begun = inside.0; going = inside.1 }

pub covering_some : (events : List EventRec) → first_overlap events ≡ None → (i : ℕ) (e : EventRec) (n : ℕ) → slice_get events i ≡ Some e → e.rec_in ≤ n → n < e.rec_out → covering events n ≡ Some i
covering_some events apart i e n at a b = elim (option_cases (covering events n)) [
  | inl none ↦ absurd (false≢true (sym (position_none (λ (e : EventRec). covers e n) events none i e at) ∙ covers_by e n a b))
  | inr some ↦
      let c = covering_in events n some.0 some.1 in
      some.1 ∙ ap Some (one_covers events apart some.0 i c.e e n c.at at (c.begun, c.going) (a, b))
]

pub covering_none : (events : List EventRec) (n : ℕ) → ((i : ℕ) (e : EventRec) → slice_get events i ≡ Some e → e.rec_in ≤ n → n < e.rec_out → ⊥) → covering events n ≡ None
covering_none events n never = elim (option_cases (covering events n)) [
  | inl none ↦ none
  | inr some ↦ let c = covering_in events n some.0 some.1 in absurd (never some.0 c.e c.at c.begun c.going)
]

pub finds_cover : FindsCover
finds_cover events n = by_cases (covering events n) refl
  where
    by_cases : (found : Option ℕ) → covering events n ≡ found
        → MatchOption found ((i : ℕ) (e : EventRec) → slice_get events i ≡ Some e → Covers e n → ⊥) (λ place. (e : EventRec) × (slice_get events place ≡ Some e) × Covers e n)
    by_cases None none = λ i e at covers_e. false≢true (sym (position_none (λ (x : EventRec). covers x n) events none i e at) ∙ covers_by e n covers_e.0 covers_e.1)
    by_cases (Some place) found = let c = covering_in events n place found in (c.e, c.at, (c.begun, c.going))

module _ (events : List EventRec) (spans : List RecordSpan) (h : IsSortedSpans events spans) (none : first_overlap events ≡ None) (n begun : ℕ)
    (splits : IsPartitionPoint (λ (s : RecordSpan). leb s.rec_in n ≡ true) (λ (s : RecordSpan). leb s.rec_in n ≡ false) spans begun) where
  -- no span has begun
  pub nothing_covers : begun ≡ 0 → None ≡ covering events n
  nothing_covers none_yet = sym (covering_none events n (λ i e at a b.
      let s : RecordSpan = record { rec_in = e.rec_in; rec_out = e.rec_out; place = i } in
      let there = is_there events spans h i e at (omega arith) in
      let later : leb s.rec_in n ≡ false = rw there.2 at (splits.1 there.0 s (omega arith) there.1) in
      absurd (false≢true (sym later ∙ le-leb e.rec_in n a))))

  -- the last span that has begun is the only one that can cover the frame
  module _ (d : RecordSpan) (some : begun ≡ 0 → ⊥) (within : begun ≤ length spans) where
    owns : Owns events (get_or spans (begun - 1) d)
    owns = all_own events spans h (begun - 1) d (omega arith)

    has_begun : (get_or spans (begun - 1) d).rec_in ≤ n
    has_begun = leb-true _ _ (splits.0 (begun - 1) d (omega arith) (omega arith))

    pub place_within : (get_or spans (begun - 1) d).place < length events
    place_within = slice_get_within events _ owns.e owns.at

    pub last_covers : n < (get_or spans (begun - 1) d).rec_out → Some (get_or spans (begun - 1) d).place ≡ covering events n
    last_covers below =
        let o = owns in
        let start = has_begun in
        sym (covering_some events none _ o.e n o.at (omega (arith, start, o.begins)) (omega (arith, below, o.ends)))

    pub none_covers : (get_or spans (begun - 1) d).rec_out ≤ n → None ≡ covering events n
    none_covers over = sym (covering_none events n (λ i e at a b.
        let s : RecordSpan = record { rec_in = e.rec_in; rec_out = e.rec_out; place = i } in
        let there = is_there events spans h i e at (omega arith) in
        let o = owns in
        let start = has_begun in
        let inside : begun - 1 < length spans = omega arith in
        elim (cases_lt there.0 begun) [
          | inr after ↦
              let later : leb s.rec_in n ≡ false = rw there.2 at (splits.1 there.0 s after there.1) in
              absurd (false≢true (sym later ∙ le-leb e.rec_in n a))
          | inl before ↦
              let fixed : get_or spans (begun - 1) s ≡ get_or spans (begun - 1) d = get_or_default spans (begun - 1) s d inside in
              let order : e.rec_in ≤ (get_or spans (begun - 1) d).rec_in = rw (there.2, fixed) at (h.sorted there.0 (begun - 1) s (omega arith) inside) in
              let same : i ≡ (get_or spans (begun - 1) d).place
              = one_covers events none i _ e o.e (get_or spans (begun - 1) d).rec_in at o.at (order, omega arith) (omega (arith, o.begins), omega (arith, o.begins, o.ends, o.some)) in
              let one : e ≡ o.e = same_Some _ _ (sym at ∙ ap (slice_get events) same ∙ o.at) in
              let out : e.rec_out ≡ o.e.rec_out = ap (λ (x : EventRec). x.rec_out) one in
              absurd (omega (arith, out, o.ends))
        ]))
