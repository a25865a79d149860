use Rattle.std.proofs.Common.{refl, ◌∙◌}
use Rattle.frame_render.proofs.Lines.{same_line}
use Rattle.frame_render.proofs.picture.Picture.fill_line.Goals as goal

pub returns-in-Two : goal.returns-in-Two
returns-in-Two c =
    c.fill_transition.ensures
    ∙ same_line c.args.self.now.job.now _ _ (λ x lt. rw c.in-Two.is (rw (c.side_line-old.ensures.each x lt, c.side_line-new.ensures.each x lt) refl))
