use Rattle.std.proofs.Common.{◌≡◌, ◌++◌, ◌∷◌, [], codes, take}
use Rattle.std.specs.List.{flat_map}
use Rattle.printed_text.specs.Text.{spaced_line}
use Rattle.printed_tables.specs.Table.{event_line, rate_word, mode_word}
use Rattle.printed_tables.proofs.table.event_table.Given as goal

-- the lines of the first events stand behind the head
abbrev pub invariant-loop-event : goal.invariant-loop-event
invariant-loop-event l = l.table.items ≡ spaced_line (codes "rate" ∷ rate_word l.rate ∷ mode_word l.list.mode ∷ []) ++ flat_map (event_line l.rate l.list.mode) (take l.event-index l.event-items)
