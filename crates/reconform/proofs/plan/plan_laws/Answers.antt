use Rattle.reconform.proofs.Painting.{equal_plans}
use Rattle.reconform.proofs.plan.plan_laws.Goals as goal

pub returns : goal.returns
returns c = equal_plans
