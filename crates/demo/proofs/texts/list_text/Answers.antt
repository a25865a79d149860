use Rattle.std.proofs.Common.{codes}
use Rattle.printed_text.specs.Text.{ended}
use Rattle.demo.specs.Texts.{event_text}
use Rattle.demo.proofs.Loops.{piece_more}
use Rattle.demo.proofs.texts.list_text.Goals as goal

pub loop-event-preserved : goal.loop-event-preserved
loop-event-preserved c = piece_more event_text (ended (codes "TITLE: DEMO")) c.loop-event.list.items c.put_event.new.list.items c.loop-event.event c.loop-event.invariant c.in_ok-put_event.ensures
