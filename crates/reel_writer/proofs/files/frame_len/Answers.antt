use Rattle.std.proofs.Common.{rules, ◌≤◌, length}
use Rattle.frame_render.proofs.Sizes.{length-frame_file}
use Rattle.reel_writer.proofs.files.frame_len.Goals as goal

pub returns-clause-each : goal.returns-clause-each
returns-clause-each c =
    let fits : length c.args.job.now.parts.project.title ≤ 199 = search rules in
    length-frame_file c.args.job.now fits
