-- The copied front and the zeros behind it are the head.
use Rattle.scan_source.proofs.Heads.{head_filled}
use Rattle.scan_source.proofs.first.head_of.Goals as goal

pub returns : goal.returns
returns c = head_filled 2048 c.min-len.result c.args.bytes.now c.copy_from_slice.new.self c.min-len.ensures c.copy_from_slice.ensures.after
