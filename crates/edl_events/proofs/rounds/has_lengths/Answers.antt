-- Without motion, and where the event isn't black, the lengths decide.
use Rattle.std.proofs.Common.{sym, ◌∙◌}
use Rattle.std.proofs.lemmas.Bool.{false≢true}
use Rattle.edl_events.proofs.rounds.has_lengths.Goals as goal
use Rattle.edl_events.proofs.rounds.has_lengths.Goals.{then-is_some, else-is_some}

pub returns-else-is_black : goal.returns-else-is_black
returns-else-is_black c = elim c.if-is_some.branch [
  | then-is_some w ↦ absurd (false≢true (sym c.if-is_black.false ∙ w.value-is ∙ w.if-is_some.true))
  | else-is_some w ↦ rw (sym c.is_some.ensures ∙ w.if-is_some.false, sym w.is_black.ensures ∙ sym w.value-is ∙ c.if-is_black.false) c.has_equal_lengths.ensures
]
