-- The weights give the code exactly.
use Rattle.std.proofs.Common.{arith}
use Rattle.trans_mix.proofs.WeightLemmas.{weighted_code_of}
use Rattle.trans_mix.proofs.weights.Weights.code.Goals as goal

pub returns-clause-mixed : goal.returns-clause-mixed
returns-clause-mixed c =
    weighted_code_of _ _ c.args.a c.args.b c.args.self.k c.args.self.d c.args.self.by_new c.args.self.by_old c.from.ensures c.from-2.ensures
    c.requires.old c.requires.new c.args.self.frame c.args.self.short (omega arith) c.args.self.nearest
