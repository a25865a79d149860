use Rattle.cf_base.proofs.Marks.{mantissa_all}
use Rattle.cf_base.proofs.fixed.units_of.Goals as goal

pub size_of-requires-else-is_negative-clause-decimals : goal.size_of-requires-else-is_negative-clause-decimals
size_of-requires-else-is_negative-clause-decimals c = rw c.decimals_of-decimals.ensures (mantissa_all c.args.token.now c.requires.number).1
