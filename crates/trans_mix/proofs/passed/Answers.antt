-- The test is the definition's, of the values that were widened.
use Rattle.std.proofs.Common.{refl}
use Rattle.trans_mix.proofs.passed.Goals as goal

pub returns : goal.returns
returns c = rw (c.from.ensures, c.from-2.ensures) refl
