use Rattle.std.proofs.Common.{◌≡◌, length, arith}
use Rattle.frame_render.proofs.Lines.{seen_line}
use Rattle.frame_render.proofs.line.fill_transition.Goals as goal

pub returns : goal.returns
returns c =
    let long : length c.look_band.new.words ≡ c.args.job.now.parts.project.width = omega (arith, c.look_band.auto.words, c.join_sides.auto.out, c.requires.room) in
    seen_line c.args.job.now _ c.join_sides.new.out c.look_band.new.words c.join_sides.ensures long (λ x lt. rw c.look-look.ensures at (c.look_band.ensures x lt))
