-- One pass over sorted spans.
use Rattle.std.proofs.Common.{◌≡◌, ℕ, ◌+◌, ◌<◌, ◌≤◌, Bool, true, false, max, List, [], ◌∷◌, refl, sym, ap, subst, ◌∙◌, arith, inl, inr}
use Rattle.std.specs.Prelude.{◌⊎◌, ◌↔◌, ◌==◌, ◌&&◌, nat_le, cond}
use Rattle.std.proofs.lemmas.Bool.{cases_lt}
use Rattle.std.proofs.lemmas.Bool.Decides.{nat_tests}
use Rattle.pull_list.specs.declared.range.PullRange.{PullRange}
use Rattle.pull_list.specs.Pull.{Holds, HoldsIn, AreRangesOf}
use Rattle.pull_list.specs.inside.Spans.{IsFrom, AreSorted, touches, joined}
use Rattle.pull_list.proofs.Order.{AreApart, apart_order, apart_some, from_trans, past_of}

-- what becomes of a range that the spans behind it may still join
abbrev pub merge_on : PullRange → List PullRange → List PullRange
merge_on current [] = current ∷ []
merge_on current (next ∷ spans) = cond (touches current next) (merge_on (joined current next) spans) (current ∷ merge_on next spans)

-- the two ways of a step
pub merge_joined : (current next : PullRange) (spans : List PullRange) → touches current next ≡ true → merge_on current (next ∷ spans) ≡ merge_on (joined current next) spans
merge_joined current next spans is = ap (λ b. cond b (merge_on (joined current next) spans) (current ∷ merge_on next spans)) is

pub merge_apart : (current next : PullRange) (spans : List PullRange) → touches current next ≡ false → merge_on current (next ∷ spans) ≡ current ∷ merge_on next spans
merge_apart current next spans is = ap (λ b. cond b (merge_on (joined current next) spans) (current ∷ merge_on next spans)) is

-- what the test says
touch_reel : (a b s e : ℕ) → (a == b && nat_le s e) ≡ true → a ≡ b
touch_reel a b s e h = grind (arith, nat_tests)

touch_start : (a b s e : ℕ) → (a == b && nat_le s e) ≡ true → s ≤ e
touch_start a b s e h = grind (arith, nat_tests)

untouched : (a b s e : ℕ) → (a == b && nat_le s e) ≡ false → a ≡ b → e + 1 ≤ s
untouched a b s e h same = grind (arith, nat_tests)

apart_by : (current next : PullRange) → touches current next ≡ false → IsFrom current.reel current.start next.reel next.start → IsFrom current.reel (current.end + 1) next.reel next.start
apart_by current next is (inl lt) = inl lt
apart_by current next is (inr on) = inr (on.0, untouched current.reel next.reel next.start current.end is on.0)

sorted_from : (q a p b : ℕ) (spans : List PullRange) → IsFrom q a p b → AreSorted p b spans → AreSorted q a spans
sorted_from q a p b [] on sorted = tt
sorted_from q a p b (span ∷ spans) on sorted = (from_trans q a p b b span.reel span.start on (omega arith) sorted.0, sorted.1, sorted.2)

apart_on : (q from : ℕ) (current : PullRange) (spans : List PullRange) → IsFrom q from current.reel current.start → current.start < current.end → AreSorted current.reel current.start spans → AreApart q from (merge_on current spans)
apart_on q from current [] on some sorted = (on, some, tt)
apart_on q from current (next ∷ spans) on some sorted =
    let most : current.start < max current.end next.end = omega (arith, some) in
    go (touches current next) refl
    (apart_on q from (joined current next) spans on most (sorted_from current.reel current.start next.reel next.start spans sorted.0 sorted.2))
    (λ past. apart_on current.reel (current.end + 1) next spans past sorted.1 sorted.2)
  where
    go : (b : Bool) → touches current next ≡ b → AreApart q from (merge_on (joined current next) spans)
        → (IsFrom current.reel (current.end + 1) next.reel next.start → AreApart current.reel (current.end + 1) (merge_on next spans)) → AreApart q from (merge_on current (next ∷ spans))
    go true is one two = subst (AreApart q from) (sym (merge_joined current next spans is)) one
    go false is one two = subst (AreApart q from) (sym (merge_apart current next spans is)) (on, some, two (apart_by current next is sorted.0))

holds_joined : (current next : PullRange) (reel x : ℕ) → current.reel ≡ next.reel → current.start ≤ next.start → next.start ≤ current.end → Holds (joined current next) reel x ↔ (Holds current reel x ⊎ Holds next reel x)
holds_joined current next reel x same le touch = (into, back)
  where
    into : Holds (joined current next) reel x → Holds current reel x ⊎ Holds next reel x
    into h = elim (cases_lt x current.end) [
      | inl lt ↦ inl (h.0, h.1, lt)
      | inr ge ↦ inr (sym same ∙ h.0, omega (arith, ge, touch), omega (arith, ge, h.2))
    ]

    back : (Holds current reel x ⊎ Holds next reel x) → Holds (joined current next) reel x
    back (inl h) = (h.0, h.1, omega (arith, h.2))
    back (inr h) = (same ∙ h.0, omega (arith, h.1, le), omega (arith, h.2))

exact_on : (current : PullRange) (spans : List PullRange) (reel x : ℕ) → AreSorted current.reel current.start spans → HoldsIn (merge_on current spans) reel x ↔ (Holds current reel x ⊎ HoldsIn spans reel x)
exact_on current [] reel x sorted = (λ h. h, λ h. h)
exact_on current (next ∷ spans) reel x sorted =
    go (touches current next) refl
    (exact_on (joined current next) spans reel x (sorted_from current.reel current.start next.reel next.start spans sorted.0 sorted.2))
    (exact_on next spans reel x sorted.2)
  where
    go : (b : Bool) → touches current next ≡ b
        → (HoldsIn (merge_on (joined current next) spans) reel x ↔ (Holds (joined current next) reel x ⊎ HoldsIn spans reel x))
        → (HoldsIn (merge_on next spans) reel x ↔ (Holds next reel x ⊎ HoldsIn spans reel x))
        → (HoldsIn (merge_on current (next ∷ spans)) reel x ↔ (Holds current reel x ⊎ HoldsIn (next ∷ spans) reel x))
    go true is one two =
        let same = touch_reel current.reel next.reel next.start current.end is in
        let touch = touch_start current.reel next.reel next.start current.end is in
        let both = holds_joined current next reel x same (past_of current.reel current.start next.reel next.start sorted.0 same) touch in
        subst (λ (l : List PullRange). HoldsIn l reel x ↔ (Holds current reel x ⊎ HoldsIn (next ∷ spans) reel x)) (sym (merge_joined current next spans is)) (
          λ h. elim (one.0 h) [
            | inl a ↦ elim (both.0 a) [ inl c ↦ inl c | inr d ↦ inr (inl d) ]
            | inr more ↦ inr (inr more)
          ],
          λ h. one.1 (elim h [
            | inl a ↦ inl (both.1 (inl a))
            | inr t ↦ elim t [ inl d ↦ inl (both.1 (inr d)) | inr more ↦ inr more ]
          ]),
        )
    go false is one two =
        subst (λ (l : List PullRange). HoldsIn l reel x ↔ (Holds current reel x ⊎ HoldsIn (next ∷ spans) reel x)) (sym (merge_apart current next spans is)) (
          λ h. elim h [ inl a ↦ inl a | inr more ↦ inr (two.0 more) ],
          λ h. elim h [ inl a ↦ inl a | inr more ↦ inr (two.1 more) ],
        )

-- a pass over sorted spans gives their ranges
pass_is : (first : PullRange) (rest : List PullRange) → AreSorted 0 0 (first ∷ rest) → AreRangesOf (HoldsIn (first ∷ rest)) (merge_on first rest)
pass_is first rest sorted =
    let apart = apart_on 0 0 first rest sorted.0 sorted.1 sorted.2 in
    record {
      some = apart_some (merge_on first rest) apart;
      order = apart_order (merge_on first rest) apart;
      exact = λ reel x. exact_on first rest reel x sorted.2;
    }

pub none_is : (spans : List PullRange) → spans ≡ [] → AreRangesOf (HoldsIn spans) []
none_is spans none = record {
  some = apart_some [] tt;
  order = apart_order [] tt;
  exact = λ reel x. subst (λ (l : List PullRange). ⊥ ↔ HoldsIn l reel x) (sym none) (λ h. h, λ h. h);
}

pub pass_of : (spans : List PullRange) (first : PullRange) (rest : List PullRange) → spans ≡ first ∷ rest → AreSorted 0 0 spans → AreRangesOf (HoldsIn spans) (merge_on first rest)
pass_of spans first rest is sorted =
    subst (λ (l : List PullRange). AreRangesOf (HoldsIn l) (merge_on first rest)) (sym is) (pass_is first rest (subst (AreSorted 0 0) is sorted))
