-- Each turn writes one line more.
use Rattle.std.proofs.Common.{◌≡◌, ℕ, ◌*◌, length, length-append, length-drop, refl, arith, rules}
use Rattle.std.specs.Option.{option_copied}
use Rattle.frame_render.proofs.Colours.{black_colours}
use Rattle.frame_render.proofs.Lines.{no_lines, line_written, all_lines, room_for}
use Rattle.frame_render.proofs.picture.Picture.render_lines.Goals as goal

pub render_line-requires-clause-black : goal.render_line-requires-clause-black
render_line-requires-clause-black c =
    black_colours c.args.self.now.job.now _ c.word_of-black.result c.project.result.now.black c.word_of-black.ensures.comes_back (search rules) c.width-width.ensures (omega arith)

pub loop-n-init : goal.loop-n-init
loop-n-init c = record {
  written = no_lines c.args.self.now.job.now c.args.self.now.shot (option_copied c.args.self.now.old) (option_copied c.args.self.now.new) c.args.first _ c.args.out.now;
  line = refl;
}

pub loop-n-preserved : goal.loop-n-preserved
loop-n-preserved c =
    let w : ℕ = c.width-width.result in
    let made : length c.render_line.new.out ≡ 4 * w = search rules in
    let line : length c.render_line.new.line ≡ w = search rules in
    let long : length c.loop-n.out ≡ c.args.count * (4 * w) = search rules in
    record {
      written =
          line_written c.args.self.now.job.now c.args.self.now.shot (option_copied c.args.self.now.old) (option_copied c.args.self.now.new) c.args.first c.loop-n.n (4 * w) _ c.loop-n.out c.render_line.new.out
          c.loop-n.invariant.written c.render_line.ensures made (room_for c.loop-n.n w c.args.count _ c.loop-n-test.true long);
      line = simp (length-append, length-drop) (omega (arith, line, c.loop-n.invariant.line, c.width-width.ensures));
    }

pub returns : goal.returns
returns c =
    let w : ℕ = c.width-width.result in
    let long : length c.loop-n.out ≡ c.args.count * (4 * w) = search rules in
    all_lines c.args.self.now.job.now c.args.self.now.shot (option_copied c.args.self.now.old) (option_copied c.args.self.now.new) c.args.first c.loop-n.n c.args.count (4 * w) c.loop-n.out c.loop-n.invariant.written (omega arith) long
