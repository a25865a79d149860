use Rattle.pull_list.proofs.Fewest.{fewest_ranges}
use Rattle.pull_list.proofs.Unique.{one_pull_list}
use Rattle.pull_list.proofs.laws.pull_laws.Goals as goal

pub returns-clause-one : goal.returns-clause-one
returns-clause-one c = one_pull_list

pub returns-clause-fewest : goal.returns-clause-fewest
returns-clause-fewest c = fewest_ranges
