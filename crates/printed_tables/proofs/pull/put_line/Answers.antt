-- The pieces make up the line.
use Rattle.printed_tables.proofs.Pulls.{range_joined}
use Rattle.printed_tables.proofs.pull.put_line.Goals as goal

pub returns : goal.returns
returns c =
    rw (
      c.in_ok-put_bytes-3.ensures,
      c.in_ok-put_number.ensures,
      c.in_ok-put_label-2.ensures,
      c.in_ok-put_label.ensures,
      c.in_ok-put_bytes-2.ensures,
      c.in_ok-put_bytes.ensures,
      c.bytes.ensures.text,
    )
    (range_joined c.args.text.now.items c.args.rate c.mode_of-mode.result c.args.e.now c.args.range.now c.mode_of-mode.ensures)
