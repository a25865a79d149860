use Rattle.std.proofs.Common.{rules}
use Rattle.conform_tool.proofs.top.crew_of.Goals as goal

-- a crew has two workers or more
pub returns-else-workers-lt2 : goal.returns-else-workers-lt2
returns-else-workers-lt2 c = search rules
