-- The pieces make up the three lines.
use Rattle.demo.proofs.Printing.{text_joined}
use Rattle.demo.proofs.shown.text_of.Goals as goal

pub returns : goal.returns
returns c =
    rw (
      c.in_ok-put_bytes-4.ensures,
      c.in_ok-put_digest.ensures,
      c.in_ok-put_bytes-3.ensures,
      c.in_ok-put_number-2.ensures,
      c.in_ok-put_bytes-2.ensures,
      c.in_ok-put_number.ensures,
      c.in_ok-put_bytes.ensures,
      c.new-text.ensures.items,
    )
    (text_joined c.args.frames c.args.acknowledged c.args.digest.now)
