-- No list of ranges with the same frames is shorter than a pull list.
use Rattle.std.proofs.Common.{◌≡◌, ℕ, ◌+◌, ◌≤◌, List, [], ◌∷◌, length, refl, sym, ◌∙◌, arith, inl, inr}
use Rattle.std.specs.Prelude.{◌⊎◌}
use Rattle.pull_list.specs.declared.range.PullRange.{PullRange}
use Rattle.pull_list.specs.Laws.{FewestRanges}
use Rattle.pull_list.specs.Pull.{Holds, HoldsIn}
use Rattle.pull_list.specs.inside.Spans.{IsFrom}
use Rattle.pull_list.proofs.Order.{AreApart, apart_of, behind, end_free, from_here, from_lower, from_on, from_trans, past_of}

-- one of the ranges holds the frame, and the rest are one fewer
record IsTaken (reel y : ℕ) (ranges : List PullRange) : Type 0 where
  pub one : PullRange
  pub rest : List PullRange
  pub here : Holds one reel y
  pub size : length ranges ≡ length rest + 1
  pub part : (a x : ℕ) → HoldsIn ranges a x → Holds one a x ⊎ HoldsIn rest a x
  pub back : (a x : ℕ) → HoldsIn rest a x → HoldsIn ranges a x
  pub of_one : (a x : ℕ) → Holds one a x → HoldsIn ranges a x

take_one : (reel y : ℕ) (ranges : List PullRange) → HoldsIn ranges reel y → IsTaken reel y ranges
take_one reel y [] h = absurd h
take_one reel y (r ∷ rs) (inl here) = record { one = r; rest = rs; here = here; size = omega arith; part = λ a x h. h; back = λ a x h. inr h; of_one = λ a x h. inl h }
take_one reel y (r ∷ rs) (inr there) =
    let t = take_one reel y rs there in
    record {
      one = t.one;
      rest = r ∷ t.rest;
      here = t.here;
      size = let e = t.size in omega arith;
      part = λ a x h. elim h [
        | inl first ↦ inr (inl first)
        | inr more ↦ elim (t.part a x more) [ inl b ↦ inl b | inr c ↦ inr (inr c) ]
      ];
      back = λ a x h. elim h [ inl first ↦ inl first | inr more ↦ inr (t.back a x more) ];
      of_one = λ a x h. inr (t.of_one a x h);
    }

-- a range that holds the start and a frame behind the end of another holds that end
ends : (r one : PullRange) (reel x : ℕ) → r.start ≤ r.end → Holds one r.reel r.start → Holds one reel x → IsFrom r.reel (r.end + 1) reel x → Holds one r.reel r.end
ends r one reel x le here held on =
    let past = past_of r.reel (r.end + 1) reel x on (sym here.0 ∙ held.0) in
    (here.0, omega (arith, here.1, le), omega (arith, held.2, past))

fewest : (q from : ℕ) (ranges others : List PullRange) → AreApart q from ranges → ((reel x : ℕ) → HoldsIn ranges reel x → HoldsIn others reel x)
    → ((reel x : ℕ) → IsFrom q from reel x → HoldsIn others reel x → HoldsIn ranges reel x) → length ranges ≤ length others
fewest q from [] others apart into back = omega arith
fewest q from (r ∷ rs) others apart into back =
    let t = take_one r.reel r.start others (into r.reel r.start (inl (refl, omega arith, apart.1))) in
    let rest = fewest r.reel (r.end + 1) rs t.rest apart.2
    (λ reel x h. elim (t.part reel x (into reel x (inr h))) [
      | inl held ↦
          let holds = ends r t.one reel x (omega (arith, apart.1)) t.here held (from_on r.reel (r.end + 1) rs reel x apart.2 h) in
          let on = from_trans q from r.reel r.start r.end r.reel r.end apart.0 (omega (arith, apart.1)) (from_here r.reel r.reel r.end r.end refl (omega arith)) in
          absurd (end_free q from r rs apart (back r.reel r.end on (t.of_one r.reel r.end holds)))
      | inr other ↦ other
    ])
    (λ reel x on h.
    let later = from_lower r.reel r.end (r.end + 1) reel x (omega arith) on in
    behind q from r rs reel x later (back reel x (from_trans q from r.reel r.start r.end reel x apart.0 (omega (arith, apart.1)) later) (t.back reel x h))) in
    let size = t.size in
    omega (arith, rest, size)

pub fewest_ranges : FewestRanges
fewest_ranges p margin ranges others is same = fewest 0 0 ranges others (apart_of ranges is.some is.order) (λ reel x. (same reel x).0) (λ reel x on. (same reel x).1)
