use Rattle.std.proofs.Common.{◌++◌, ap, ◌∙◌}
use Rattle.std.specs.Option.{option_copied}
use Rattle.dpx_header.specs.Writing.{header_of}
use Rattle.record_timeline.specs.declared.Shot.{Shot}
use Rattle.frame_render.specs.Frame.{out_head, picture}
use Rattle.frame_render.proofs.Filled.{file_joined}
use Rattle.frame_render.proofs.file.render_file.Goals as goal

pub returns : goal.returns
returns c =
    file_joined 2048 c.put_header.new.out _ _ c.render_bands.new.out c.put_header.ensures.header c.render_bands.ensures
    ∙ ap (λ (s : Shot). header_of (out_head c.args.job.now c.args.i) ++ picture c.args.job.now s (option_copied c.args.old) (option_copied c.args.new)) c.shot-shot.ensures.shot
