-- Numbers of a few digits.
use Rattle.std.proofs.Common.{◌≡◌, ℕ, zero, suc, ◌+◌, ◌*◌, ◌^◌, ◌<◌, ◌≤◌, true, List, [], ◌∷◌, length, take, get_or, arith, lit<, length-take}
use Rattle.std.specs.Char.{is_ascii_digit, digit_value}
use Rattle.std.specs.List.{list_all}
use Rattle.std.specs.Str.Parse.{digits_value, AllDigits}
use Rattle.std.proofs.Math.Seq.{take-length}
use Rattle.std.proofs.Math.Nat.{pow-le-pow_right}
use Rattle.std.proofs.lemmas.Bool.{and_parts}
use Rattle.std.proofs.lemmas.Bool.Decides.{nat_tests}
use Rattle.std.proofs.lemmas.Int.Digits.{digits_value-lt, digits_value_more}

pub digit_is : (b : ℕ) → is_ascii_digit b ≡ true → (48 ≤ b) × (b ≤ 57) × (digit_value b + 48 ≡ b)
digit_is b e = grind (arith, nat_tests)

pub digits_front : (bs : List ℕ) → list_all is_ascii_digit bs ≡ true → (i : ℕ) → AllDigits 10 (take i bs)
digits_front [] e zero = tt
digits_front [] e (suc i) = tt
digits_front (b ∷ bs) e zero = tt
digits_front (b ∷ bs) e (suc i) = let h = and_parts (is_ascii_digit b) (list_all is_ascii_digit bs) e in (omega (arith, (digit_is b h.0).1, (digit_is b h.0).2), digits_front bs h.1 i)

pub digit_here : (bs : List ℕ) → list_all is_ascii_digit bs ≡ true → (i : ℕ) → i < length bs → is_ascii_digit (get_or bs i 0) ≡ true
digit_here [] e i h = absurd (omega arith)
digit_here (b ∷ bs) e zero h = (and_parts _ _ e).0
digit_here (b ∷ bs) e (suc i) h = digit_here bs (and_parts _ _ e).1 i (omega arith)

pub small_value : (bs : List ℕ) → list_all is_ascii_digit bs ≡ true → (i : ℕ) → i ≤ 8 → digits_value 10 (take i bs) < 10 ^ 8
small_value bs e i h =
    let some : length (take i bs) ≤ 8 = omega (arith, lit<, length-take i bs) in
    let grows : 10 ^ length (take i bs) ≤ 10 ^ 8 = pow-le-pow_right {n = 10} (lit< tt) some in
    let here : digits_value 10 (take i bs) < 10 ^ length (take i bs) = digits_value-lt 10 (take i bs) (digits_front bs e i) in
    omega arith

pub value_below : (bs : List ℕ) → list_all is_ascii_digit bs ≡ true → digits_value 10 bs < 10 ^ length bs
value_below bs e = digits_value-lt 10 bs (rw take-length at (digits_front bs e (length bs)))

pub below_most : (bs : List ℕ) (v most : ℕ) → v < 10 ^ length bs → length bs ≤ most → v < 10 ^ most
below_most bs v most small few = let grows : 10 ^ length bs ≤ 10 ^ most = pow-le-pow_right {n = 10} (lit< tt) few in omega arith

pub one_digit_more : (bs : List ℕ) → list_all is_ascii_digit bs ≡ true → (i v d : ℕ) → i < length bs → v ≡ digits_value 10 (take i bs) → d + 48 ≡ get_or bs i 0 → v * 10 + d ≡ digits_value 10 (take (i + 1) bs)
one_digit_more bs e i v d h is digit =
    let more = digits_value_more 10 bs i h in
    let which = digit_is (get_or bs i 0) (digit_here bs e i h) in
    omega (arith, more, which.2)
