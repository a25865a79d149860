-- The pieces make up the line.
use Rattle.std.proofs.Common.{ap, ◌∙◌}
use Rattle.record_timeline.specs.Accepted.{RecordReel, first_frame}
use Rattle.printed_tables.proofs.Plans.{frame_joined}
use Rattle.printed_tables.proofs.plan.put_frame.Goals as goal

pub returns : goal.returns
returns c =
    let timeline = c.timeline-timeline.ensures in
    rw (c.in_ok-put_bytes.ensures, c.in_ok-put_shot.ensures, c.in_ok-put_label.ensures)
    (frame_joined c.args.text.now.items c.args.job.now.parts.timeline c.args.i c.first.result.0 c.rate.result c.mode.result c.events.result.now c.shot.result
    (c.first.ensures.first ∙ ap (λ (t : RecordReel). first_frame t.events) timeline)
    c.rate.ensures.timeline
    (c.mode.ensures.mode ∙ ap (λ (t : RecordReel). t.mode) timeline)
    (c.events.ensures.events ∙ ap (λ (t : RecordReel). t.events) timeline)
    c.shot.ensures.shot)
