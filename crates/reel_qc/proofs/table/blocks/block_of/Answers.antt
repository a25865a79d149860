-- A range of the words.
use Rattle.std.proofs.Common.{arith}
use Rattle.reel_qc.proofs.Adds.{range_is_block}
use Rattle.reel_qc.proofs.table.blocks.block_of.Goals as goal

pub returns-clause-block : goal.returns-clause-block
returns-clause-block c =
    range_is_block c.args.words.now c.args.n c.min-start.result c.min-end.result (omega (arith, c.min-start.ensures, c.saturating_mul.ensures)) c.min-end.ensures c.requires
