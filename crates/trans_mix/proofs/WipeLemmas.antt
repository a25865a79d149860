-- Two tests of a shape, of which the second is made where the first has passed.
use Rattle.std.proofs.Common.{◌≡◌, refl, Bool, true, false}
use Rattle.std.specs.Prelude.{◌&&◌}

pub both_tested : (p q a b : Bool) → p ≡ true → p ≡ a → q ≡ b → q ≡ (a && b)
both_tested p q a b passed first second = rw (← first, passed) second

pub first_failed : (p a b : Bool) → p ≡ false → p ≡ a → p ≡ (a && b)
first_failed p a b failed first = rw (← first, failed) refl
