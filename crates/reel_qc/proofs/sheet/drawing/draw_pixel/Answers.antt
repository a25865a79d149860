-- The pixel is one colour more.
use Rattle.reel_qc.proofs.Drawn.{drawn_one}
use Rattle.reel_qc.proofs.sheet.drawing.draw_pixel.Goals as goal

pub returns : goal.returns
returns g c pictures are =
    drawn_one c.args.tone.now.table c.pixel_colour-colour.result _ _ _ _ _ (c.pixel_colour-colour.ensures pictures are) c.in_ok-draw_colour.ensures.bytes c.in_ok-draw_colour.ensures.greatest
