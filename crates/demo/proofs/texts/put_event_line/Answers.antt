use Rattle.demo.proofs.Joins.{event_joined}
use Rattle.demo.proofs.texts.put_event_line.Goals as goal

pub returns : goal.returns
returns c =
    rw (
      c.in_ok-put_line.ensures,
      c.in_ok-put_label-4.ensures,
      c.in_ok-put_label-3.ensures,
      c.in_ok-put_label-2.ensures,
      c.in_ok-put_label.ensures,
      c.in_ok-put_bytes-5.ensures,
      c.in_ok-put_bytes-4.ensures,
      c.in_ok-put_bytes-3.ensures,
      c.in_ok-put_bytes-2.ensures,
      c.in_ok-put_bytes.ensures,
      c.transition.ensures,
      c.source_in.ensures,
      c.source_in-2.ensures,
      c.record_in.ensures,
      c.record_in-2.ensures,
      c.last_digits-number.ensures,
      c.last_digits-digit.ensures,
    )
    (event_joined c.args.list.now.items c.args.group c.args.reel)
