-- One count after another is added.
use Rattle.std.proofs.Common.{arith, refl}
use Rattle.reel_qc.proofs.Adds.{all_added, none_added, one_added}
use Rattle.reel_qc.proofs.table.blocks.add_row.Goals as goal

pub loop-k-init : goal.loop-k-init
loop-k-init c = none_added c.args.row.now c.args.counts.now

pub loop-k-preserved : goal.loop-k-preserved
loop-k-preserved c = one_added _ _ c.loop-k.counts c.loop-k.k _ (omega (arith, c.loop-k-test.true, c.requires, c.loop-k.auto.counts)) refl c.loop-k.invariant

pub returns : goal.returns
returns c = all_added _ _ _ _ c.requires (omega (arith, c.requires, c.loop-k-test.false)) c.loop-k.invariant
