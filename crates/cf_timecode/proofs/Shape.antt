-- What the test for a label's shape says.
use Rattle.std.proofs.Common.{◌≡◌, ℕ, List, true}
use Rattle.std.proofs.lemmas.Bool.{and_parts}
use Rattle.cf_timecode.specs.Spelling.{has_shape, has_digits}

pub last_digits : (t : List ℕ) → has_shape t ≡ true → has_digits t 9 ≡ true
last_digits t e = (and_parts _ _ e).1

pub third_digits : (t : List ℕ) → has_shape t ≡ true → has_digits t 6 ≡ true
third_digits t e = (and_parts _ _ (and_parts _ _ (and_parts _ _ e).0).0).1

pub second_digits : (t : List ℕ) → has_shape t ≡ true → has_digits t 3 ≡ true
second_digits t e = (and_parts _ _ (and_parts _ _ (and_parts _ _ (and_parts _ _ (and_parts _ _ e).0).0).0).0).1
