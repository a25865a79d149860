-- Each pixel's word stands in its place.
use Rattle.std.proofs.Common.{true, false}
use Rattle.dpx_pack.proofs.Lines.{has_pixels}
use Rattle.dpx_pack.proofs.file.unpack.Goals as goal

pub returns-then-info-clause-places : goal.returns-then-info-clause-places
returns-then-info-clause-places c = has_pixels c.args.info.now true c.args.bytes.now c.unpack_as.new.out c.if-info.true c.unpack_as.ensures

pub returns-else-info-clause-places : goal.returns-else-info-clause-places
returns-else-info-clause-places c = has_pixels c.args.info.now false c.args.bytes.now c.unpack_as-else-info.new.out c.if-info.false c.unpack_as-else-info.ensures
