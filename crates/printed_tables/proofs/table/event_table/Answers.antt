-- The lines of all events stand between the head and the number of the events.
use Rattle.std.proofs.Common.{◌∙◌}
use Rattle.std.proofs.lemmas.List.{take_all}
use Rattle.printed_tables.proofs.Tables.{table_joined}
use Rattle.printed_tables.proofs.table.event_table.Goals as goal

pub returns : goal.returns
returns c =
    rw (c.in_ok-put_bytes-2.ensures, c.in_ok-put_number.ensures, c.in_ok-put_bytes.ensures, c.loop-event.invariant)
    (table_joined c.args.rate c.args.list.now _ c.items.result.now
    (take_all c.loop-event.event-index c.items-event-items.result.now c.loop-event-test.false ∙ c.items-event-items.ensures) c.items.ensures)
