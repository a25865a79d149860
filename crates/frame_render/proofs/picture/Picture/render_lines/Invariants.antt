-- The lines so far are written.
use Rattle.std.proofs.Common.{◌≡◌, ◌*◌, length, take}
use Rattle.std.specs.Option.{option_copied}
use Rattle.frame_render.specs.inside.Lines.{lines_from}
use Rattle.frame_render.proofs.picture.Picture.render_lines.Given as goal

abbrev pub invariant-loop-n : goal.invariant-loop-n
invariant-loop-n l = record {
  written : take (l.n * l.stride) l.out ≡ lines_from l.self.job.now l.self.shot (option_copied l.self.old) (option_copied l.self.new) l.first l.n;
  line : length l.line ≡ 4096;
}
