use Rattle.std.proofs.Common.{◌≡◌, ℕ, List, length, arith}
use Rattle.std.specs.Prelude.{Some}
use Rattle.frame_render.specs.Frame.{side_colour}
use Rattle.frame_render.proofs.Lines.{seen_line}
use Rattle.frame_render.proofs.line.fill_side.Goals as goal

pub returns-in-Some : goal.returns-in-Some
returns-in-Some c =
    let job = c.args.job.now in
    let colour : ℕ → List ℕ = λ x. side_colour job (Some c.in-Some.words.now) x c.args.y in
    let long : length c.seen_band.new.out ≡ job.parts.project.width = omega (arith, c.seen_band.auto.out, c.requires.room) in
    rw c.in-Some.is (seen_line job colour c.line_at.result.now c.seen_band.new.out c.line_at.ensures long (λ x lt. rw c.look.ensures at (c.seen_band.ensures x lt)))
