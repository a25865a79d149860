use Rattle.std.proofs.Common.{◌≡◌, ℕ, ◌<◌, ◌≤◌, true, false, get_or}
use Rattle.std.specs.Prelude.{None, ◌⊎◌}
use Rattle.reconform.specs.Plan.{plan_at}
use Rattle.reconform.specs.inside.Donor.{donor_in}
use Rattle.reconform.proofs.takeover.Takeover.next_wanted.Given as goal

-- the frames before i are acknowledged or have no donor
abbrev pub invariant-loop-i : goal.invariant-loop-i
invariant-loop-i g l = (k : ℕ) → l.from ≤ k → k < l.i → (get_or l.reel.ledger.gates k false ≡ true) ⊎ (donor_in l.self.donors.now.by_plan (plan_at g.N.Work.job k) ≡ None)
