-- Which columns of a line pass a test, where they lie side by side; and the tests of one line of a wipe: words of private clauses.
use Rattle.std.specs.Prelude.{ℕ, ◌+◌, ◌-◌, ◌*◌, Bool, nat_lt}
use Rattle.std.specs.Int.{abs_diff}

-- whether a column's centre lies, from the left, from the right or from the middle, below a reach when it is taken so many times
abbrev pub from_left : (by reach x : ℕ) → Bool
from_left by reach x = nat_lt ((2 * x + 1) * by) reach

abbrev pub from_right : (by reach w x : ℕ) → Bool
from_right by reach w x = nat_lt ((2 * w - (2 * x + 1)) * by) reach

abbrev pub from_middle : (by reach w x : ℕ) → Bool
from_middle by reach w x = nat_lt (abs_diff (2 * x + 1) w * by) reach
