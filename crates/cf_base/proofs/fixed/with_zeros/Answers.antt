use Rattle.std.proofs.Common.{◌≡◌, ◌*◌, min, arith}
use Rattle.std.proofs.lemmas.Grind.{common_steps}
use Rattle.cf_base.specs.declared.fixed.TheConstants.{GREATEST}
use Rattle.cf_base.proofs.Capped.{zeros_more}
use Rattle.cf_base.proofs.fixed.with_zeros.Goals as goal

pub loop-preserved : goal.loop-preserved
loop-preserved c =
    let step : c.min-sum.result ≡ min GREATEST (c.loop.sum * 10) = grind (arith, common_steps) in
    zeros_more GREATEST c.args.value c.loop.counter c.loop.sum c.min-sum.result c.loop.invariant step
