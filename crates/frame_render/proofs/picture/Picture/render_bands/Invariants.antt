-- The bands so far are written.
use Rattle.std.proofs.Common.{◌≡◌, ◌*◌, ◌/◌, take}
use Rattle.std.specs.Option.{option_copied}
use Rattle.frame_render.specs.inside.Lines.{lines_from}
use Rattle.frame_render.proofs.picture.Picture.render_bands.Given as goal

abbrev pub invariant-loop-n : goal.invariant-loop-n
invariant-loop-n l =
    take (l.n * l.height / l.bands * l.stride) l.out
    ≡ lines_from l.self.job.now l.self.shot (option_copied l.self.old) (option_copied l.self.new) 0 (l.n * l.height / l.bands)
