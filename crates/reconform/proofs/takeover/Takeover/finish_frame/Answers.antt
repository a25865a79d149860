use Rattle.std.proofs.Common.{ap, ◌∙◌}
use Rattle.conform_job.specs.Job.{file_of}
use Rattle.frame_render.specs.Frame.{FrameBytes}
use Rattle.reconform.proofs.Going.{part_finished}
use Rattle.reconform.proofs.Taking.{finish_makes, making_wider}
use Rattle.reconform.proofs.takeover.Takeover.finish_frame.Goals as goal

pub returns-in-Ok-clause-part : goal.returns-in-Ok-clause-part
returns-in-Ok-clause-part g c =
    let index = ap (λ (f : FrameBytes). f.index) c.with-hashed.ensures ∙ c.of_file.ensures.index in
    let bytes = ap (λ (f : FrameBytes). f.bytes) c.with-hashed.ensures ∙ c.of_file.ensures.bytes ∙ ap (λ v. v.items) c.replace-bytes.ensures.value ∙ ap (λ v. v.items) c.digest-digest.ensures.bytes in
    record {
      part = part_finished c.args.i c.with-hashed.result.index index c.requires.index c.requires.fresh c.in-Ok.ensures.safe c.in-Ok.ensures.own;
      made = making_wider (λ q written is. (is.0 ∙ ap (file_of g.N.Work.job) index, is.1 ∙ bytes))
          (finish_makes c.with-hashed.result.index (file_of g.N.Work.job c.with-hashed.result.index) c.with-hashed.result.bytes c.finish.result c.finish.ensures.calls);
    }

pub returns-in-Err-clause-part : goal.returns-in-Err-clause-part
returns-in-Err-clause-part g c =
    let index = ap (λ (f : FrameBytes). f.index) c.with-hashed.ensures ∙ c.of_file.ensures.index in
    let bytes = ap (λ (f : FrameBytes). f.bytes) c.with-hashed.ensures ∙ c.of_file.ensures.bytes ∙ ap (λ v. v.items) c.replace-bytes.ensures.value ∙ ap (λ v. v.items) c.digest-digest.ensures.bytes in
    record {
      part = part_finished c.args.i c.with-hashed.result.index index c.requires.index c.requires.fresh c.in-Err.ensures.safe c.in-Err.ensures.own;
      made = making_wider (λ q written is. (is.0 ∙ ap (file_of g.N.Work.job) index, is.1 ∙ bytes))
          (finish_makes c.with-hashed.result.index (file_of g.N.Work.job c.with-hashed.result.index) c.with-hashed.result.bytes c.finish.result c.finish.ensures.calls);
    }
