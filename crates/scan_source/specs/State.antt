-- What a scan is at a moment, and what a call leaves of it. All of it is this project's own rule.
-- * state of a scan: the files that it tells, its counts of failures, loads and heads, which of its calls fail, and how it is lent
-- * what a call leaves [reel_disk/specs/State.antt, reconform/specs/Adopt.antt]: of a scan: the same files, and the scan lent as
--   it was, and a count of faults that rose where the call failed for one, and else stays, and the call that failed is the last
--   that was made; of a disk, or of both: the count, and that it is lent as it was
--     ScanState      what it tells, its counts, and how it is lent
--     HasFailedLast      the last call that was made of it failed, and none before
--     LeavesScan      what a call leaves of it, whatever it comes to
use Rattle.std.specs.Prelude.{◌≡◌, ℕ, List, [], ◌∷◌, Contains, Option, None, IfSome}
use Rattle.cf_base.specs.Count.{CountsFaults, HasRisenByOne}
use Rattle.cf_base.specs.Loan.{Loan}
use Rattle.scan_source.specs.Plan.{Plan}
use Rattle.scan_source.specs.World.{World}

-- The files are told or not, and so is which calls fail. All counts stay at 2^64 - 1 once they are there. The outermost loan comes
-- first; a scan that isn't lent has none.
pub record ScanState : Type 0 where
  pub world : Option World
  pub faults : ℕ
  pub loads : ℕ
  pub heads : ℕ
  pub plan : Option Plan
  pub loans : List Loan

-- a scan that tells neither its files nor its plan, and isn't lent
abbrev pub untold : (faults loads heads : ℕ) → ScanState
untold faults loads heads = record { world = None; faults = faults; loads = loads; heads = heads; plan = None; loans = [] }

-- the same, lent once more
abbrev pub lent_by : Loan → ScanState → ScanState
lent_by loan scan = record scan { loans = loan ∷ scan.loans }

-- One call since then failed, and it is the last that was made, as far as it is told which calls fail.
pub record HasFailedLast (before after : ScanState) : Type 0 where
  pub once : HasRisenByOne before.faults after.faults
  pub last : IfSome after.plan (λ plan. Contains plan.fails plan.calls)

-- The scan tells the same files, and is lent as it was. A call of it that failed is the last that was made.
pub record LeavesScan (Failed : Type 0) (before after : ScanState) : Type 0 where
  pub counts : CountsFaults Failed before.faults after.faults
  pub ends : Failed → HasFailedLast before after
  pub told : after.world ≡ before.world
  pub lent : after.loans ≡ before.loans
