-- The words make up the line.
use Rattle.reel_qc.proofs.Lines.{kinds_made}
use Rattle.reel_qc.proofs.table.put_kinds.Goals as goal

pub returns : goal.returns
returns g c = kinds_made _ _ _ _ _ _ c.loop-probe.invariant c.loop-probe-test.false c.in_ok-put_bytes-2.ensures
