use Rattle.std.proofs.Common.{ap, ◌∙◌}
use Rattle.std.specs.Option.{option_copied}
use Rattle.conform_job.specs.Job.{JobData, file_of}
use Rattle.frame_render.proofs.HandedIn.{rendered}
use Rattle.frame_render.proofs.file.record_frame.Goals as goal

pub invariant_of-result : goal.invariant_of-result
invariant_of-result g c =
    let sides = c.requires.sides in
    let needs = rw c.requires.job at c.recall.ensures.needs in (
      sides.index,
      c.file_of.ensures ∙ ap (λ (job : JobData). file_of job c.args.i) c.requires.job,
      c.requires.size,
      rendered g.N.Work.job g.N.Work.files c.args.i (option_copied c.args.old) (option_copied c.args.new) c.args.bytes.items (needs c.args.i sides.index) sides c.requires.old c.requires.new c.requires.bytes,
    )
