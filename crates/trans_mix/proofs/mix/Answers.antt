-- The code is the definition's, of the values that were widened.
use Rattle.std.proofs.Common.{refl}
use Rattle.trans_mix.proofs.mix.Goals as goal

pub returns-clause-mixed : goal.returns-clause-mixed
returns-clause-mixed c = rw (c.from.ensures, c.from-2.ensures, c.from-k.ensures, c.from-d.ensures) refl
