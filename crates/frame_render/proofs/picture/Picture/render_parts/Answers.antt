-- Its places are those of the picture, and they are as many.
use Rattle.std.proofs.Common.{arith}
use Rattle.std.proofs.lemmas.Grind.{same_number_lists}
use Rattle.std.specs.Option.{option_copied}
use Rattle.frame_render.specs.Frame.{picture}
use Rattle.frame_render.proofs.Lines.{picture_long}
use Rattle.frame_render.proofs.picture.Picture.render_parts.Goals as goal

pub returns : goal.returns
returns g c =
    let job = c.args.self.now.job.now in
    let long = picture_long job c.args.self.now.shot (option_copied c.args.self.now.old) (option_copied c.args.self.now.new) in
    same_number_lists c.fork_lines.new.out (picture job c.args.self.now.shot (option_copied c.args.self.now.old) (option_copied c.args.self.now.new))
    (omega (arith, long, c.fork_lines.auto.out, c.requires.room)) c.fork_lines.ensures
