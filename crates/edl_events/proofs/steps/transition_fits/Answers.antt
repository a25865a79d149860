-- A wipe's code is looked at before the rest.
use Rattle.std.proofs.Common.{sym, ◌∙◌}
use Rattle.edl_events.proofs.PictureSteps.{known_first, unknown_first}
use Rattle.edl_events.proofs.steps.transition_fits.Goals as goal

pub returns-then-known_wipe : goal.returns-then-known_wipe
returns-then-known_wipe c =
    rw c.in-Wipe.is
    (c.leads-then-known_wipe.ensures ∙ known_first c.args.before c.args.times c.in-Wipe.code c.in-Wipe.d (sym c.known_wipe.ensures.known ∙ c.if-known_wipe.true))

pub returns-else-known_wipe : goal.returns-else-known_wipe
returns-else-known_wipe c =
    rw c.in-Wipe.is (unknown_first c.args.before c.args.times c.in-Wipe.code c.in-Wipe.d (sym c.known_wipe.ensures.known ∙ c.if-known_wipe.false))
