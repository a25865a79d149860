-- Files that change: calls with numbers below a bound go to one scan in memory, and all later ones to another.
-- * turning: the calls with numbers below a bound go to one scan in memory, and all later ones to another
--     serving turning      the scan in memory that answers the next call
--     next_turning turning      what there is after that call
--     faults_in scan      how often it has failed
use Rattle.std.specs.Prelude.{ℕ, ◌+◌, ◌-◌, ◌^◌, min, Bool, cond, nat_lt}
use Rattle.scan_source.specs.declared.turning.TurningScans.{TurningScans}
use Rattle.scan_source.specs.Memory.{Memory, memory_of, one_call}
use Rattle.scan_source.specs.Plan.{one_more}

-- the two scans, the number of the first call that goes to the second, and how many calls were made
pub record Turning : Type 0 where
  pub first : Memory
  pub later : Memory
  pub at : ℕ
  pub calls : ℕ

abbrev pub turning_of : TurningScans → Turning
turning_of scan = record { first = memory_of scan.first; later = memory_of scan.later; at = scan.at; calls = scan.calls }

-- whether the number of the next call, counted from 1, is below the bound
abbrev pub is_before : Turning → Bool
is_before turning = nat_lt (one_more turning.calls) turning.at

abbrev pub serving : Turning → Memory
serving turning = cond (is_before turning) turning.first turning.later

-- the call is counted here, and by the scan that answered it
abbrev pub next_turning : Turning → Turning
next_turning turning = record turning {
  first = cond (is_before turning) (one_call turning.first) turning.first;
  later = cond (is_before turning) turning.later (one_call turning.later);
  calls = one_more turning.calls;
}

-- two counts as one, which is kept in 64 bits and stays at its last value
abbrev pub both_counts : ℕ → ℕ → ℕ
both_counts first later = min (first + later) (2 ^ 64 - 1)

-- each of the two may fail, and nothing else does
abbrev pub faults_in : TurningScans → ℕ
faults_in scan = both_counts scan.first.faults scan.later.faults
