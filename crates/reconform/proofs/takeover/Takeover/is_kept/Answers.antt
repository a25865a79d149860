use Rattle.std.proofs.Common.{◌≡◌, List, ℕ, Bool, Option, true, nat_eq, refl, sym, ap, ◌∙◌, subst}
use Rattle.std.specs.Prelude.{IfSome, Some}
use Rattle.std.specs.Cmp.Lexicographic.{pointwise, same_text}
use Rattle.std.proofs.lemmas.Cmp.{nat_list_eq_equiv}
use Rattle.conform_job.specs.Job.{JobData}
use Rattle.resume_ledger.specs.Look.{hash_at}
use Rattle.reconform.specs.inside.Ahead.{IsKept}
use Rattle.reconform.specs.inside.Donor.{donor_in}
use Rattle.reconform.specs.Plan.{plan_at}
use Rattle.reconform.proofs.Holding.{none_some, some_same}
use Rattle.reconform.proofs.takeover.Takeover.is_kept.Goals as goal

pub returns-in-Some-hash_of : goal.returns-in-Some-hash_of
returns-in-Some-hash_of g c =
    let asked : c.plan_at.result ≡ plan_at g.N.Work.job c.args.i = c.plan_at.ensures ∙ ap (λ (job : JobData). plan_at job c.args.i) c.requires.new_job in
    let is : donor_in c.args.self.now.donors.now.by_plan (plan_at g.N.Work.job c.args.i) ≡ Some c.in-Some.j = sym (sym c.in-Some.is ∙ c.get.ensures ∙ ap (donor_in c.args.self.now.donors.now.by_plan) asked) in
    let hash : Some c.in-Some-hash_of.kept ≡ hash_at c.args.self.now.view.now c.in-Some.j = sym c.in-Some-hash_of.is ∙ c.hash_of.ensures in
    record {
      kept = (
        λ yes. record {
          donor = c.in-Some.j;
          is = is;
          kept = subst (λ (kept : Option (List ℕ)). IfSome kept (λ hash. hash ≡ c.args.digest.now)) hash
              (same_text c.in-Some-hash_of.kept c.args.digest.now (sym yes ∙ c.eq.ensures));
        },
        λ kept.
            let same : kept.donor ≡ c.in-Some.j = some_same kept.donor c.in-Some.j _ kept.is is in
            let one : c.in-Some-hash_of.kept ≡ c.args.digest.now = subst (λ (kept : Option (List ℕ)). IfSome kept (λ hash. hash ≡ c.args.digest.now)) (sym hash)
            (subst (λ d. IfSome (hash_at c.args.self.now.view.now d) (λ hash. hash ≡ c.args.digest.now)) same kept.kept) in
            c.eq.ensures ∙ ap (λ l. pointwise nat_eq l c.args.digest.now) one ∙ nat_list_eq_equiv.refl c.args.digest.now,
      );
    }

pub returns-in-None-hash_of : goal.returns-in-None-hash_of
returns-in-None-hash_of g c =
    let asked : c.plan_at.result ≡ plan_at g.N.Work.job c.args.i = c.plan_at.ensures ∙ ap (λ (job : JobData). plan_at job c.args.i) c.requires.new_job in
    record {
      kept = (
        λ yes. record {
          donor = c.in-Some.j;
          is = sym (sym c.in-Some.is ∙ c.get.ensures ∙ ap (donor_in c.args.self.now.donors.now.by_plan) asked);
          kept = subst (λ (kept : Option (List ℕ)). IfSome kept (λ hash. hash ≡ c.args.digest.now)) (sym c.in-None-hash_of.is ∙ c.hash_of.ensures) tt;
        },
        λ kept. refl,
      );
    }

pub returns-in-None : goal.returns-in-None
returns-in-None g c =
    let asked : c.plan_at.result ≡ plan_at g.N.Work.job c.args.i = c.plan_at.ensures ∙ ap (λ (job : JobData). plan_at job c.args.i) c.requires.new_job in
    record {
      kept = (
        λ yes. cc,
        λ kept. absurd (none_some kept.donor _ (sym (sym c.in-None.is ∙ c.get.ensures ∙ ap (donor_in c.args.self.now.donors.now.by_plan) asked)) kept.is),
      );
    }
