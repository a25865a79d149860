-- The events are those of the job's list.
use Rattle.std.proofs.Common.{◌∙◌, ◌<◌, ap, length, subst, sym}
use Rattle.record_timeline.specs.Accepted.{RecordReel}
use Rattle.reel_qc.proofs.Begins.{frames_of_list, some_begin, within_list}
use Rattle.reel_qc.proofs.sheet.cells.first_frames.Goals as goal

pub returns-clause-frames : goal.returns-clause-frames
returns-clause-frames c = frames_of_list _ _ _ (c.events.ensures.events ∙ ap (λ (t : RecordReel). t.events) c.timeline-timeline.ensures) c.in_ok-frames.ensures.frames

pub returns-clause-within : goal.returns-clause-within
returns-clause-within c = within_list _ _ _ (c.events.ensures.events ∙ ap (λ (t : RecordReel). t.events) c.timeline-timeline.ensures) c.in_ok-frames.ensures.within

pub returns-clause-some : goal.returns-clause-some
returns-clause-some c =
    let frames = frames_of_list _ _ _ c.events.ensures.events c.in_ok-frames.ensures.frames in
    subst (λ l. 0 < length l) (sym frames) (some_begin _ _ c.timeline-timeline.result.now.events c.events.ensures.accepted.made)
