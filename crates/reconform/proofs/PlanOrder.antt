-- Plans that tie in their order are equal.
use Rattle.std.proofs.Common.{◌≡◌, ℕ, true, refl, ap, arith, ◌∙◌, List}
use Rattle.std.proofs.lemmas.Bool.Decides.{nat_tests}
use Rattle.std.proofs.lemmas.Slice.Eq.{bytes_eq-Decides}
use Rattle.std.proofs.lemmas.Bool.{false≢true}
use Rattle.std.specs.Prelude.{Option, Some, None}
use Rattle.std.specs.Option.{option_cmp}
use Rattle.std.specs.Ordering.{is_eq, nat_cmp, ordering_then}
use Rattle.std.specs.declared.cmp.Ordering.{Ordering}
use Rattle.std.specs.declared.cmp.Ordering.TheVariants.{Less, Equal, Greater}
use Rattle.std.specs.Cmp.Lexicographic.{slice_cmp}
use Rattle.std.proofs.lemmas.Map.Lookups.{exact_unsigned, exact_bytes}
use Rattle.std.proofs.lemmas.Map.Text.{is_eq-slice_cmp}
use Rattle.reconform.specs.declared.plan.PlanSide.{PlanSide}
use Rattle.reconform.specs.declared.plan.PlanSide.TheVariants.{Black, Frame}
use Rattle.reconform.specs.contracts.plan.PlanSideOrd.TheImpl.{cmp-value}
use Rattle.reconform.specs.declared.plan.FramePlan.{FramePlan}
use Rattle.reconform.specs.declared.plan.FramePlan.TheVariants.{Solid, One, Two}
use Rattle.reconform.specs.inside.Donor.{plan_cmp}

abbrev side_cmp : PlanSide → PlanSide → Ordering
side_cmp = cmp-value.it

tied : (o : Ordering) → is_eq o ≡ true → o ≡ Equal
tied Less h = absurd (false≢true h)
tied Equal h = refl
tied Greater h = absurd (false≢true h)

both : (r s : Ordering) → is_eq (ordering_then r s) ≡ true → (is_eq r ≡ true) × (is_eq s ≡ true)
both Less s h = absurd (false≢true h)
both Equal s h = (refl, h)
both Greater s h = absurd (false≢true h)

same_path : (a b : List ℕ) → is_eq (slice_cmp nat_cmp a b) ≡ true → a ≡ b
same_path a b h = exact_bytes a b (tied (slice_cmp nat_cmp a b) h)

same_number : (a b : ℕ) → is_eq (nat_cmp a b) ≡ true → a ≡ b
same_number a b h = exact_unsigned a b (tied (nat_cmp a b) h)

same_side : (a b : PlanSide) → is_eq (side_cmp a b) ≡ true → a ≡ b
same_side Black Black h = refl
same_side Black (Frame q) h = absurd (false≢true h)
same_side (Frame p) Black h = absurd (false≢true h)
same_side (Frame p) (Frame q) h = ap Frame (same_path p q h)

same_wipe : (a b : Option ℕ) → is_eq (option_cmp nat_cmp a b) ≡ true → a ≡ b
same_wipe None None h = refl
same_wipe None (Some n) h = absurd (false≢true h)
same_wipe (Some m) None h = absurd (false≢true h)
same_wipe (Some m) (Some n) h = ap Some (same_number m n h)

same_two : (o1 o2 n1 n2 : PlanSide) (w1 w2 : Option ℕ) (k1 k2 d1 d2 : ℕ) → o1 ≡ o2 → n1 ≡ n2 → w1 ≡ w2 → k1 ≡ k2 → d1 ≡ d2 → Two o1 n1 w1 k1 d1 ≡ Two o2 n2 w2 k2 d2
same_two o1 o2 n1 n2 w1 w2 k1 k2 d1 d2 o n w k d i = Two (o i) (n i) (w i) (k i) (d i)

pub same_plan : (a b : FramePlan) → is_eq (plan_cmp a b) ≡ true → a ≡ b
same_plan Solid Solid h = refl
same_plan Solid (One q) h = absurd (false≢true h)
same_plan Solid (Two o2 n2 t2 k2 d2) h = absurd (false≢true h)
same_plan (One p) Solid h = absurd (false≢true h)
same_plan (One p) (One q) h = ap One (same_path p q h)
same_plan (One p) (Two o2 n2 t2 k2 d2) h = absurd (false≢true h)
same_plan (Two o1 n1 t1 k1 d1) Solid h = absurd (false≢true h)
same_plan (Two o1 n1 t1 k1 d1) (One q) h = absurd (false≢true h)
same_plan (Two o1 n1 t1 k1 d1) (Two o2 n2 t2 k2 d2) h =
    let o = both (side_cmp o1 o2) _ h in
    let n = both (side_cmp n1 n2) _ o.1 in
    let t = both (option_cmp nat_cmp t1 t2) _ n.1 in
    let k = both (nat_cmp k1 k2) _ t.1 in
    same_two o1 o2 n1 n2 t1 t2 k1 k2 d1 d2 (same_side o1 o2 o.0) (same_side n1 n2 n.0) (same_wipe t1 t2 t.0) (same_number k1 k2 k.0) (same_number d1 d2 k.1)

joined : (r s : Ordering) → is_eq r ≡ true → is_eq s ≡ true → is_eq (ordering_then r s) ≡ true
joined Less s h k = absurd (false≢true h)
joined Equal s h k = k
joined Greater s h k = absurd (false≢true h)

self_path : (p : List ℕ) → is_eq (slice_cmp nat_cmp p p) ≡ true
self_path p = is_eq-slice_cmp p p ∙ (bytes_eq-Decides p p).1 refl

self_number : (n : ℕ) → is_eq (nat_cmp n n) ≡ true
self_number n = grind (arith, nat_tests)

self_side : (a : PlanSide) → is_eq (side_cmp a a) ≡ true
self_side Black = refl
self_side (Frame p) = self_path p

self_wipe : (a : Option ℕ) → is_eq (option_cmp nat_cmp a a) ≡ true
self_wipe None = refl
self_wipe (Some n) = self_number n

-- each plan ties with itself
pub self_plan : (a : FramePlan) → is_eq (plan_cmp a a) ≡ true
self_plan Solid = refl
self_plan (One p) = self_path p
self_plan (Two o n t k d) =
    joined (side_cmp o o) _ (self_side o)
    (joined (side_cmp n n) _ (self_side n)
    (joined (option_cmp nat_cmp t t) _ (self_wipe t)
    (joined (nat_cmp k k) _ (self_number k) (self_number d))))
