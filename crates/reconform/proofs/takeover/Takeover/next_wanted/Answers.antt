use Rattle.std.proofs.Common.{◌≡◌, inl, inr, true, false, get_or, sym, ap, ◌∙◌, subst, arith}
use Rattle.std.specs.Prelude.{None, ◌⊎◌}
use Rattle.std.proofs.lemmas.Bool.{cases_eq}
use Rattle.conform_job.specs.Job.{JobData}
use Rattle.reel_writer.specs.Reel.{frames_of}
use Rattle.reconform.specs.inside.Donor.{donor_in}
use Rattle.reconform.specs.Plan.{plan_at}
use Rattle.reconform.proofs.takeover.Takeover.next_wanted.Goals as goal

-- one frame more was passed over
pub loop-i-preserved : goal.loop-i-preserved
loop-i-preserved g c k above below = elim (cases_eq k c.loop-i.i) [
  | inl same ↦ subst (λ n. (get_or c.args.reel.now.ledger.gates n false ≡ true) ⊎ (donor_in c.args.self.now.donors.now.by_plan (plan_at g.N.Work.job n) ≡ None)) (sym same) (c.wanted.ensures.none c.in_default.is)
  | inr other ↦ c.loop-i.invariant k above (omega (arith, below, other))
]
