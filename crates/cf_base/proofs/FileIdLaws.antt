-- The test for one name holds of the same name alone.
use Rattle.std.proofs.Common.{◌≡◌, ◌≢◌, true, false, refl, inl, inr, arith}
use Rattle.std.proofs.lemmas.Bool.Decides.{nat_tests}
use Rattle.std.proofs.lemmas.Bool.{cases_eq}
use Rattle.cf_base.specs.declared.file.FileId.{FileId}
use Rattle.cf_base.specs.declared.file.FileId.TheVariants.{Seal, Body, Seal2, Body2, Sheet, Frame}
use Rattle.cf_base.specs.FileId.{same_id}

pub same_id_self : (a : FileId) → same_id a a ≡ true
same_id_self Seal = refl
same_id_self Body = refl
same_id_self Seal2 = refl
same_id_self Body2 = refl
same_id_self Sheet = refl
same_id_self (Frame r f) = grind (arith, nat_tests)

-- the test tells two names apart
pub same_id_other : (a b : FileId) → a ≢ b → same_id a b ≡ false
same_id_other Seal Seal other = absurd (other refl)
same_id_other Body Body other = absurd (other refl)
same_id_other Seal2 Seal2 other = absurd (other refl)
same_id_other Body2 Body2 other = absurd (other refl)
same_id_other Sheet Sheet other = absurd (other refl)
same_id_other (Frame r f) (Frame s g) other = elim (cases_eq r s) [
  | inl same_reel ↦ elim (cases_eq f g) [
    | inl same_frame ↦ absurd (other (λ i. Frame (same_reel i) (same_frame i)))
    | inr apart ↦ grind (arith, nat_tests)
  ]
  | inr apart ↦ grind (arith, nat_tests)
]
same_id_other a b other = refl
