use Rattle.project_file.proofs.Laws.{one_meaning}
use Rattle.project_file.proofs.project_laws.Goals as goal

pub returns : goal.returns
returns c = record { one = one_meaning }
