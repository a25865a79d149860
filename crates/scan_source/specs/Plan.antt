-- Counts of a scan's calls, and which of its calls fail.
-- * plan [Planned]: which calls of a scan in memory fail, by their numbers from 1; a call follows it where it is told
use Rattle.std.specs.Prelude.{◌≡◌, ◌↔◌, ℕ, ◌+◌, ◌-◌, ◌^◌, min, List, Contains, Option, Some}

-- a count after one more: it is kept in 64 bits and stays at its last value
abbrev pub one_more : ℕ → ℕ
one_more count = min (count + 1) (2 ^ 64 - 1)

-- how many calls were made, and the numbers of the calls that fail, counted from 1
pub record Plan : Type 0 where
  pub calls : ℕ
  pub fails : List ℕ

-- a call has the next number, and fails exactly where that number is one of those that fail
pub record FollowsPlan (before : Plan) (now : Option Plan) (Failed : Type 0) : Type 0 where
  pub failed : Failed ↔ Contains before.fails (one_more before.calls)
  pub counted : now ≡ Some (record before { calls = one_more before.calls })
