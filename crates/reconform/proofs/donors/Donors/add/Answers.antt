use Rattle.std.proofs.Common.{sym, ◌∙◌}
use Rattle.reconform.specs.inside.Donor.{donor_in}
use Rattle.reconform.proofs.Donating.{kept_donor, new_donor}
use Rattle.reconform.proofs.donors.Donors.add.Goals as goal

pub returns-then-contains_key : goal.returns-then-contains_key
returns-then-contains_key c = record { first = λ q. kept_donor (donor_in c.args.self.now.by_plan) c.args.plan c.args.j (sym c.contains_key.ensures ∙ c.if-contains_key.true) q }

pub returns : goal.returns
returns c = record {
  first = λ q.
      new_donor (donor_in c.args.self.now.by_plan) (donor_in c.set_number.new.numbers) c.args.plan c.args.j (sym c.contains_key.ensures ∙ c.if-contains_key.false) c.in_ok-set_number.ensures.0 q;
}
