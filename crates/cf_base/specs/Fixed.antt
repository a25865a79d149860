-- A decimal number of a text, in units of 10^-9.
-- * decimal number: a token's value in units of 10^-9, rounded half away from zero, at most 1000 in size
--
-- A token is a sign, a mantissa and an exponent: the sign is a + or - at its front, the exponent is what
-- follows the first e or E, and the mantissa stands between them. Its size is the digits on both sides of
-- the mantissa's point, read as one whole number, times ten to the exponent less the number of those
-- after the point.
use Rattle.std.specs.Prelude.{ℕ, ◌+◌, ◌*◌, ◌/◌, ◌^◌, Bool, not, ◌&&◌, ◌||◌, ◌==◌, if◌then◌else◌, nat_lt, min, List, ◌++◌, length, ℤ, pos, neg_ℤ, Result, Ok, Err}
use Rattle.std.specs.List.{before_first, after_first, list_any, list_all}
use Rattle.std.specs.Char.{is_ascii_digit}
use Rattle.std.specs.Str.Parse.{digits_value, starts_with_minus, without_leading_sign}
use Rattle.cf_base.specs.declared.fixed.Fixed.{Fixed}
use Rattle.cf_base.specs.declared.fixed.FixedFault.{FixedFault}
use Rattle.cf_base.specs.declared.fixed.FixedFault.TheVariants.{NotNumber, Exponent}

-- e or E
abbrev pub is_exponent_mark : ℕ → Bool
is_exponent_mark c = c == 101 || c == 69

abbrev pub is_point : ℕ → Bool
is_point c = c == 46

abbrev pub mantissa : (token : List ℕ) → List ℕ
mantissa token = before_first is_exponent_mark (without_leading_sign token)

-- with its sign; nothing where there is no mark
abbrev pub exponent : (token : List ℕ) → List ℕ
exponent token = after_first is_exponent_mark (without_leading_sign token)

-- what stands before the point, and what stands after it: nothing where there is no point
abbrev pub whole_part : (token : List ℕ) → List ℕ
whole_part token = before_first is_point (mantissa token)

abbrev pub decimals : (token : List ℕ) → List ℕ
decimals token = after_first is_point (mantissa token)

-- one digit or more, and nothing else
abbrev pub is_numeral : List ℕ → Bool
is_numeral ds = nat_lt 0 (length ds) && list_all is_ascii_digit ds

-- digits around at most one point, and digits after a mark
abbrev pub is_number : (token : List ℕ) → Bool
is_number token =
    is_numeral (whole_part token ++ decimals token)
    && (is_numeral (without_leading_sign (exponent token)) || not (list_any is_exponent_mark (without_leading_sign token)))

-- how far the exponent moves the point
abbrev pub exponent_size : (token : List ℕ) → ℕ
exponent_size token = digits_value 10 (without_leading_sign (exponent token))

-- The size is numerator / denominator units, exactly.
abbrev pub numerator : (token : List ℕ) → ℕ
numerator token = digits_value 10 (whole_part token ++ decimals token) * 10 ^
    (9 + (if starts_with_minus (exponent token) then 0 else exponent_size token))

abbrev pub denominator : (token : List ℕ) → ℕ
denominator token = 10 ^ (length (decimals token) + (if starts_with_minus (exponent token) then exponent_size token else 0))

-- the whole number nearest to a / b, a half going upward
abbrev pub nearest : (a b : ℕ) → ℕ
nearest a b = (2 * a + b) / (2 * b)

-- 1000 in units
abbrev pub greatest_size : ℕ
greatest_size = 1000000000000

-- rounded, a half away from zero, and at most 1000 in size
abbrev pub fixed_units : (token : List ℕ) → ℤ
fixed_units token =
    let size = min (nearest (numerator token) (denominator token)) greatest_size in
    if starts_with_minus token then neg_ℤ (pos size) else pos size

-- what is read of a token
abbrev pub fixed_of : (token : List ℕ) → Result Fixed FixedFault
fixed_of token =
    if not (is_number token) then Err NotNumber
    else if nat_lt 99 (exponent_size token) then Err Exponent
    else Ok (record { 0 = fixed_units token })
