-- There is one pull list.
use Rattle.std.proofs.Common.{◌≡◌, ℕ, ◌+◌, ◌≤◌, List, [], ◌∷◌, refl, sym, arith, inl, inr}
use Rattle.std.specs.Prelude.{◌↔◌}
use Rattle.std.proofs.lemmas.Bool.{cases_lt}
use Rattle.pull_list.specs.declared.range.PullRange.{PullRange}
use Rattle.pull_list.specs.Laws.{OnePullList}
use Rattle.pull_list.specs.Pull.{HoldsIn}
use Rattle.pull_list.specs.inside.Spans.{IsFrom}
use Rattle.pull_list.proofs.Order.{AreApart, apart_of, behind, end_free, first_on, from_both, from_here, from_on, from_trans}

-- two ends: the lower one would be held by the other list
ends_lower : (a b : ℕ) (q p : ℕ) (r s : PullRange) (rs ss : List PullRange) → AreApart q a (r ∷ rs) → AreApart p b (s ∷ ss) → r.reel ≡ s.reel → r.start ≡ s.start
    → ((reel x : ℕ) → HoldsIn (s ∷ ss) reel x → HoldsIn (r ∷ rs) reel x) → s.end ≤ r.end
ends_lower a b q p r s rs ss ar bs reels starts into = elim (cases_lt r.end s.end) [
  | inl lt ↦ absurd (end_free q a r rs ar (into r.reel r.end (inl (sym reels, omega (arith, starts, ar.1), lt))))
  | inr ge ↦ ge
]

-- from the end of a range on, by the end of the other
moved : (r s : PullRange) (reel x : ℕ) → r.reel ≡ s.reel → r.end ≡ s.end → IsFrom r.reel (r.end + 1) reel x → IsFrom s.reel s.end reel x
moved r s reel x reels ends on = from_trans s.reel s.end r.reel s.end (r.end + 1) reel x (from_here s.reel r.reel s.end s.end (sym reels) (omega arith)) (omega (arith, ends)) on

same_lists : (q a p b : ℕ) (ranges others : List PullRange) → AreApart q a ranges → AreApart p b others → ((reel x : ℕ) → HoldsIn ranges reel x ↔ HoldsIn others reel x) → ranges ≡ others
same_lists q a p b [] [] ar bs same = refl
same_lists q a p b [] (s ∷ ss) ar bs same = absurd ((same s.reel s.start).1 (inl (refl, omega arith, bs.1)))
same_lists q a p b (r ∷ rs) [] ar bs same = absurd ((same r.reel r.start).0 (inl (refl, omega arith, ar.1)))
same_lists q a p b (r ∷ rs) (s ∷ ss) ar bs same =
    let low = first_on p b s ss r.reel r.start bs ((same r.reel r.start).0 (inl (refl, omega arith, ar.1))) in
    let high = first_on q a r rs s.reel s.start ar ((same s.reel s.start).1 (inl (refl, omega arith, bs.1))) in
    let both = from_both r.reel r.start s.reel s.start high low in
    let one = ends_lower a b q p r s rs ss ar bs both.0 both.1 (λ reel x. (same reel x).1) in
    let two = ends_lower b a p q s r ss rs bs ar (sym both.0) (sym both.1) (λ reel x. (same reel x).0) in
    let ends : r.end ≡ s.end = omega (arith, one, two) in
    let rest = same_lists r.reel (r.end + 1) s.reel (s.end + 1) rs ss ar.2 bs.2 (λ reel x. (
      λ h. behind p b s ss reel x (moved r s reel x both.0 ends (from_on r.reel (r.end + 1) rs reel x ar.2 h)) ((same reel x).0 (inr h)),
      λ h. behind q a r rs reel x (moved s r reel x (sym both.0) (sym ends) (from_on s.reel (s.end + 1) ss reel x bs.2 h)) ((same reel x).1 (inr h)),
    )) in
    let reels = both.0 in
    let starts = both.1 in
    λ i. record { reel = reels i; start = starts i; end = ends i } ∷ rest i

pub one_pull_list : OnePullList
one_pull_list p margin a b one two =
    same_lists 0 0 0 0 a b (apart_of a one.some one.order) (apart_of b two.some two.order)
    (λ reel x. (λ h. (two.exact reel x).1 ((one.exact reel x).0 h), λ h. (one.exact reel x).1 ((two.exact reel x).0 h)))
