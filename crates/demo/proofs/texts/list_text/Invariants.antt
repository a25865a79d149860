use Rattle.std.proofs.Common.{◌≡◌, ◌++◌, codes}
use Rattle.std.specs.List.{flat_map, range_with_len}
use Rattle.printed_text.specs.Text.{ended}
use Rattle.demo.specs.Texts.{event_text}
use Rattle.demo.proofs.texts.list_text.Given as goal

-- the events so far stand behind the title
abbrev pub invariant-loop-event : goal.invariant-loop-event
invariant-loop-event l = l.list.items ≡ ended (codes "TITLE: DEMO") ++ flat_map event_text (range_with_len 0 l.event)
