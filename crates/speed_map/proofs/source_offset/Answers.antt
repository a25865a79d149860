-- The quotient toward minus infinity.
use Rattle.std.proofs.Common.{arith}
use Rattle.std.proofs.lemmas.Grind.{common_steps}
use Rattle.speed_map.proofs.source_offset.Goals as goal

pub returns : goal.returns
returns c = grind (arith, common_steps)
