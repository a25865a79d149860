-- The size of a decimal number, from the digits before and after its point and from how far its exponent moves the point.
use Rattle.std.specs.Prelude.{ℕ, ◌+◌, ◌*◌, ◌^◌, List, ◌++◌, length}
use Rattle.std.specs.Str.Parse.{digits_value}
use Rattle.cf_base.specs.Fixed.{nearest}

-- in units of 10^-9, to the nearest, where the point goes so many places up and so many down
abbrev pub moved_size : (whole decimals : List ℕ) (up down : ℕ) → ℕ
moved_size whole decimals up down = nearest (digits_value 10 (whole ++ decimals) * 10 ^ (9 + up)) (10 ^ (length decimals + down))
