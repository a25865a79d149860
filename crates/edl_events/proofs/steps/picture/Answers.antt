-- A picture line's first fault, or its event.
use Rattle.std.proofs.Common.{sym, ◌∙◌}
use Rattle.edl_events.proofs.PictureSteps.{times_fault, backwards, too_many, unfitting, fitting}
use Rattle.edl_events.proofs.steps.picture.Goals as goal

pub returns-in-Err-clause-value : goal.returns-in-Err-clause-value
returns-in-Err-clause-value c =
    times_fault c.args.rate c.args.state.now c.args.line.now c.args.number c.args.reel.now c.args.transition c.args.spans c.in-Err.kind
    (sym (rw c.unwrap_or-record_mode.ensures at c.times_of.ensures.value) ∙ c.in-Err.is)

pub returns-then-times-clause-value : goal.returns-then-times-clause-value
returns-then-times-clause-value c =
    backwards c.args.rate c.args.state.now c.args.line.now c.args.number c.args.reel.now c.args.transition c.args.spans c.in-Ok.times
    (sym (rw c.unwrap_or-record_mode.ensures at c.times_of.ensures.value) ∙ c.in-Ok.is) c.if-times.true

pub returns-then-state-ge-MOST_PICTURES-clause-value : goal.returns-then-state-ge-MOST_PICTURES-clause-value
returns-then-state-ge-MOST_PICTURES-clause-value c =
    too_many c.args.rate c.args.state.now c.args.line.now c.args.number c.args.reel.now c.args.transition c.args.spans c.in-Ok.times
    (sym (rw c.unwrap_or-record_mode.ensures at c.times_of.ensures.value) ∙ c.in-Ok.is) c.if-times.false c.if-state-ge-MOST_PICTURES.true

pub returns-in-Err-transition_fits-clause-value : goal.returns-in-Err-transition_fits-clause-value
returns-in-Err-transition_fits-clause-value c =
    unfitting c.args.rate c.args.state.now c.args.line.now c.args.number c.args.reel.now c.args.transition c.args.spans c.in-Ok.times c.in-Err-transition_fits.kind
    (sym (rw c.unwrap_or-record_mode.ensures at c.times_of.ensures.value) ∙ c.in-Ok.is) c.if-times.false c.if-state-ge-MOST_PICTURES.false
    (sym c.transition_fits.ensures ∙ c.in-Err-transition_fits.is)

pub returns-clause-value : goal.returns-clause-value
returns-clause-value c =
    fitting c.args.rate c.args.state.now c.args.line.now c.args.number c.args.reel.now c.args.transition c.args.spans c.in-Ok.times
    (sym (rw c.unwrap_or-record_mode.ensures at c.times_of.ensures.value) ∙ c.in-Ok.is) c.if-times.false c.if-state-ge-MOST_PICTURES.false
    (sym c.transition_fits.ensures ∙ c.in_default.is)

pub returns-clause-day : goal.returns-clause-day
returns-clause-day c = let day = rw c.unwrap_or-record_mode.ensures at c.in-Ok.ensures.day in (day.0, day.1, day.3)
