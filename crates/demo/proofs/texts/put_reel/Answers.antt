use Rattle.demo.proofs.Joins.{reel_joined}
use Rattle.demo.proofs.texts.put_reel.Goals as goal

pub returns : goal.returns
returns c =
    rw (
      c.in_ok-put_line-5.ensures,
      c.in_ok-put_number.ensures,
      c.in_ok-put_bytes-5.ensures,
      c.in_ok-put_line-4.ensures,
      c.in_ok-put_line-3.ensures,
      c.in_ok-put_bytes-4.ensures,
      c.in_ok-put_bytes-3.ensures,
      c.in_ok-put_line-2.ensures,
      c.in_ok-put_bytes-2.ensures,
      c.in_ok-put_bytes.ensures,
      c.in_ok-put_line.ensures,
      c.last_digits-digit.ensures,
    )
    (reel_joined c.args.project.now.items c.args.frames c.args.reel)
