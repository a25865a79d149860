-- The place in the record reel, and how many frames that has.
use Rattle.std.proofs.Common.{◌≡◌, ◌+◌, ◌-◌, ap, ◌∙◌, Some}
use Rattle.record_timeline.specs.Accepted.{RecordReel, first_frame}
use Rattle.conform_job.specs.Cuts.{reel_span}
use Rattle.frame_render.specs.Frame.{number_of, own_span, timecode_of}
use Rattle.frame_render.proofs.file.out_head.Goals as goal

pub returns-clause-head : goal.returns-clause-head
returns-clause-head c =
    let job = c.args.job.now in
    let span : c.reel_span-span.result ≡ own_span job c.args.i = c.reel_span-span.ensures.span ∙ ap (reel_span job.parts) c.reel_of-reel.ensures.reel in
    let number : c.first.result.0 + c.args.i ≡ number_of job c.args.i = ap (λ n. n + c.args.i) (c.first.ensures.first ∙ ap (λ (t : RecordReel). first_frame t.events) c.timeline.ensures) in
    let timecode = c.timecode_of.ensures ∙ ap (timecode_of job) number in
    λ t. record {
      width = c.width.ensures t;
      height = c.height.ensures t;
      reel = c.reel_of-reel.ensures.reel t;
      frame = number t;
      position = c.args.i - (span t).start;
      length = (span t).end - (span t).start;
      timecode = Some (timecode t);
      title = (c.project.ensures t).title;
    }
