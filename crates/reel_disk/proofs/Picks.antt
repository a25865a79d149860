-- The loose places by test, the bytes of earlier moments, and what a pick leaves.
use Rattle.std.proofs.Common.{◌≡◌, ◌≢◌, inl, inr, ℕ, ◌-◌, ◌<◌, ◌≤◌, Bool, true, false, List, [], ◌∷◌, refl, sym, ◌∙◌, ap, subst, arith}
use Rattle.std.specs.Prelude.{◌||◌}
use Rattle.std.specs.List.{list_any}
use Rattle.std.proofs.lemmas.Bool.{cases_Bool}
use Rattle.std.proofs.lemmas.Bool.Decides.{nat_tests}
use Rattle.cf_base.specs.declared.file.FileId.{FileId}
use Rattle.cf_base.specs.FileId.{same_id, decide_id}
use Rattle.cf_base.proofs.FileIdLaws.{same_id_self, same_id_other}
use Rattle.reel_disk.specs.declared.disk.Place.{Place}
use Rattle.reel_disk.specs.declared.disk.Place.TheVariants.{Whole, Range}
use Rattle.reel_disk.specs.Disk.{IsLoose, IsLooseAt}
use Rattle.reel_disk.specs.inside.Memory.{is_whole_of, has_byte, is_whole_loose, is_byte_loose}

-- a test that holds of one of the places
any_here : (test : Place → Bool) (places : List Place) (p : Place) → IsLoose places p → test p ≡ true → list_any test places ≡ true
any_here test [] p there holds = absurd there
any_here test (q ∷ places) p (inl is) holds = ap (λ b. b || list_any test places) (ap test (sym is) ∙ holds)
any_here test (q ∷ places) p (inr there) holds = elim (cases_Bool (test q)) [
  | inl first ↦ ap (λ b. b || list_any test places) first
  | inr other ↦ ap (λ b. b || list_any test places) other ∙ any_here test places p there holds
]

-- one of the places has it
any_where : (test : Place → Bool) (places : List Place) → list_any test places ≡ true → (p : Place) × IsLoose places p × (test p ≡ true)
any_where test [] holds = let e : false ≡ true = holds in cc
any_where test (q ∷ places) holds = elim (cases_Bool (test q)) [
  | inl first ↦ (q, inl refl, first)
  | inr other ↦ let rest = any_where test places (sym (ap (λ b. b || list_any test places) other) ∙ holds) in (rest.0, inr rest.1, rest.2)
]

pub same_is : (a b : FileId) → same_id a b ≡ true → a ≡ b
same_is a b is = elim (decide_id a b) [ inl same ↦ same | inr other ↦ let no = same_id_other a b other in cc ]

pub apart_is : (a b : FileId) → same_id a b ≡ false → b ≢ a
apart_is a b not same = let is : same_id a b ≡ true = ap (same_id a) same ∙ same_id_self a in cc

whole_is : (id : FileId) (p : Place) → is_whole_of id p ≡ true → p ≡ Whole id
whole_is id (Whole file) is = ap Whole (same_is file id is)
whole_is id (Range file start len) is = let e : false ≡ true = is in cc

pub whole_loose_is : (loose : List Place) (id : FileId) → is_whole_loose loose id ≡ true → IsLoose loose (Whole id)
whole_loose_is loose id holds = let some = any_where (is_whole_of id) loose holds in subst (λ (p : Place). IsLoose loose p) (whole_is id some.0 some.2) some.1

pub whole_loose_not : (loose : List Place) (id : FileId) → is_whole_loose loose id ≡ false → IsLoose loose (Whole id) → ⊥
whole_loose_not loose id fails there = let holds = any_here (is_whole_of id) loose (Whole id) there (same_id_self id) in cc

covers_is : (id : FileId) (k : ℕ) (p : Place) (loose : List Place) → IsLoose loose p → has_byte id k p ≡ true → IsLooseAt loose id k
covers_is id k (Whole file) loose there holds = let e : false ≡ true = holds in cc
covers_is id k (Range file start len) loose there holds =
    let same : same_id file id ≡ true = grind (arith, nat_tests) in
    let from : start ≤ k = grind (arith, nat_tests) in
    let below : k - start < len = grind (arith, nat_tests) in
    (start, len, subst (λ (f : FileId). IsLoose loose (Range f start len)) (same_is file id same) there, from, omega (arith, from, below))

pub byte_loose_is : (loose : List Place) (id : FileId) (k : ℕ) → is_byte_loose loose id k ≡ true → IsLooseAt loose id k
byte_loose_is loose id k holds = let some = any_where (has_byte id k) loose holds in covers_is id k some.0 loose some.1 some.2

pub byte_loose_not : (loose : List Place) (id : FileId) (k : ℕ) → is_byte_loose loose id k ≡ false → IsLooseAt loose id k → ⊥
byte_loose_not loose id k fails at =
    let self = same_id_self id in
    let from = at.3 in
    let below = at.4 in
    let covered : has_byte id k (Range id at.0 at.1) ≡ true = grind (arith, nat_tests) in
    let holds = any_here (has_byte id k) loose (Range id at.0 at.1) at.2 covered in cc
