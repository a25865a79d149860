-- The pieces make up the line.
use Rattle.std.proofs.Common.{refl}
use Rattle.printed_tables.proofs.Tables.{event_joined, label_put}
use Rattle.printed_tables.proofs.table.put_event.Goals as goal

pub returns : goal.returns
returns c =
    let record_in = label_put _ _ c.args.rate c.args.mode _ c.args.event.now.rec_in c.in_ok-put_label-3.ensures refl in
    rw (
      c.in_ok-put_bytes-5.ensures,
      c.in_ok-put_speed.ensures,
      c.in_ok-put_bytes-4.ensures,
      c.in_ok-put_transition.ensures,
      c.in_ok-put_label-4.ensures,
      record_in,
      c.in_ok-put_label-2.ensures,
      c.in_ok-put_label.ensures,
      c.in_ok-put_bytes-3.ensures,
      c.in_ok-put_bytes-2.ensures,
      c.bytes.ensures.text,
      c.in_ok-put_bytes.ensures,
      c.in_ok-put_number.ensures,
    )
    (event_joined c.args.table.now.items c.args.rate c.args.mode c.args.event.now)
