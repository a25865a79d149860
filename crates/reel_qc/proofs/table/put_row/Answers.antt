-- The counts make up the line.
use Rattle.std.specs.Prelude.{decimal}
use Rattle.reel_qc.proofs.Lines.{made}
use Rattle.reel_qc.proofs.table.put_row.Goals as goal

pub returns : goal.returns
returns c = made decimal _ (decimal c.args.frame) _ _ _ _ c.loop-count.invariant c.loop-count-test.false c.in_ok-put_bytes.ensures
