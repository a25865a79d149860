-- The transition lasts no longer than its event.
use Rattle.std.proofs.Common.{sym, ◌∙◌}
use Rattle.edl_events.proofs.PictureSteps.{led}
use Rattle.edl_events.proofs.steps.leads.Goals as goal

pub returns-then-d-times : goal.returns-then-d-times
returns-then-d-times c = led c.args.before c.args.times c.args.d (sym c.is_at.ensures ∙ c.if-not-is_at.false) c.if-d-ge1.true c.if-d-times.true
