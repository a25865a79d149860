-- Spans in another order hold the same frames.
use Rattle.std.proofs.Common.{ℕ, suc, ◌+◌, ◌*◌, ◌<◌, ◌≤◌, List, [], ◌∷◌, length, get_or, arith, inl, inr}
use Rattle.std.specs.Prelude.{◌↔◌, Result, Ok, Err, IfOk}
use Rattle.std.specs.List.{All}
use Rattle.std.specs.List.Sorted.{IsPermutation, IsNonDecreasingBy}
use Rattle.std.proofs.lemmas.Bool.{cases_lt}
use Rattle.std.proofs.lemmas.List.Elements.{All-cons, All-head, All-tail, All-nil}
use Rattle.std.proofs.lemmas.List.Sorted.{All-permutation, IsPermutation-sym}
use Rattle.pull_list.specs.declared.range.PullRange.{PullRange}
use Rattle.pull_list.specs.Pull.{Holds, HoldsIn, AreRangesOf}
use Rattle.pull_list.specs.inside.Spans.{IsFrom, AreSorted, IsSpan, place_of}
use Rattle.pull_list.proofs.Order.{from_start}

module _ (reel x : ℕ) where
  each : (spans : List PullRange) → All (λ (s : PullRange). Holds s reel x → HoldsIn spans reel x) spans
  each [] = All-nil (λ (s : PullRange). Holds s reel x → HoldsIn [] reel x)
  each (span ∷ spans) =
      let rest = each spans in
      All-cons (λ (s : PullRange). Holds s reel x → HoldsIn (span ∷ spans) reel x) span spans (λ h. inl h) (λ k d lt h. inr (rest k d lt h))

  one_of : (G : Type 0) (spans : List PullRange) → All (λ (s : PullRange). Holds s reel x → G) spans → HoldsIn spans reel x → G
  one_of G [] all h = absurd h
  one_of G (span ∷ spans) all (inl here) = All-head (λ (s : PullRange). Holds s reel x → G) span spans all here
  one_of G (span ∷ spans) all (inr there) = one_of G spans (All-tail (λ (s : PullRange). Holds s reel x → G) span spans all) there

  back : (spans others : List PullRange) → IsPermutation spans others → HoldsIn others reel x → HoldsIn spans reel x
  back spans others moved h = one_of (HoldsIn spans reel x) others (All-permutation (λ (s : PullRange). Holds s reel x → HoldsIn spans reel x) spans others moved (each spans)) h

  pub holds_moved : (spans others : List PullRange) → IsPermutation spans others → HoldsIn others reel x ↔ HoldsIn spans reel x
  holds_moved spans others moved = (back spans others moved, back others spans (IsPermutation-sym spans others moved))

-- places on one line are in the order of reels and frames
placed : (a s b t : ℕ) → s < 4294967296 → t < 4294967296 → a * 4294967296 + s ≤ b * 4294967296 + t → IsFrom a s b t
placed a s b t small fits le = elim (cases_lt a b) [
  | inl lt ↦ inl lt
  | inr ge ↦ inr (omega (arith, ge, small, fits, le), omega (arith, ge, small, fits, le))
]

sorted_on : (q from : ℕ) (spans : List PullRange) → ((d : PullRange) → 0 < length spans → IsFrom q from (get_or spans 0 d).reel (get_or spans 0 d).start)
    → IsNonDecreasingBy place_of spans → All IsSpan spans → AreSorted q from spans
sorted_on q from [] first rises some = tt
sorted_on q from (span ∷ spans) first rises some =
    let here = All-head IsSpan span spans some in
    let others = All-tail IsSpan span spans some in (
      first span (omega arith),
      here.0,
      sorted_on span.reel span.start spans
          (λ d lt. let next = others 0 d lt in placed span.reel span.start (get_or spans 0 d).reel (get_or spans 0 d).start (omega (arith, here.0, here.1)) (omega (arith, next.0, next.1)) (rises 0 1 d (omega arith) (omega (arith, lt))))
          (λ i j d le lt. rises (suc i) (suc j) d (omega (arith, le)) (omega (arith, lt)))
          others,
    )

pub are_sorted : (spans others : List PullRange) → IsPermutation spans others → IsNonDecreasingBy place_of others → All IsSpan spans → AreSorted 0 0 others
are_sorted spans others moved rises some = sorted_on 0 0 others (λ d lt. from_start (get_or others 0 d).reel (get_or others 0 d).start) rises (All-permutation IsSpan spans others moved some)

pub ranges_moved : (spans others ranges : List PullRange) → IsPermutation spans others → AreRangesOf (HoldsIn others) ranges → AreRangesOf (HoldsIn spans) ranges
ranges_moved spans others ranges moved is = record {
  some = is.some;
  order = is.order;
  exact = λ reel x. let same = holds_moved reel x spans others moved in (λ h. same.0 ((is.exact reel x).0 h), λ h. (is.exact reel x).1 (same.1 h));
}

pub ok_then : {T E : Type 0} (r : Result T E) (P Q : T → Type 0) → IfOk r P → ((v : T) → P v → Q v) → IfOk r Q
ok_then (Ok v) P Q h f = f v h
ok_then (Err e) P Q h f = tt
