-- The pieces make up the line.
use Rattle.std.proofs.Common.{refl}
use Rattle.printed_lines.proofs.cut_line.Goals as goal

pub returns : goal.returns
returns c = rw (c.in_ok-put_bytes-2.ensures, c.in_ok-put_number.ensures, c.in_ok-put_bytes.ensures, c.new-text.ensures.items) refl
