-- The box of a picture has its mean.
use Rattle.std.proofs.Common.{◌∙◌, ◌+◌, ◌*◌, ap, sym, subst}
use Rattle.reel_qc.specs.inside.Boxes.{IsBoxAt, mean_at}
use Rattle.reel_qc.specs.Sheet.{boxes_of}
use Rattle.reel_qc.proofs.Adding.{box_there, means_are}
use Rattle.reel_qc.proofs.sheet.boxes.mean_in.Goals as goal

pub mean-requires : goal.mean-requires
mean-requires c =
    let place = c.place_of.ensures ∙ ap (λ n. c.args.v * n + c.args.u) (c.boxes_of.ensures.boxes ∙ ap boxes_of c.width.ensures) in
    let words = c.requires.picture.0 in
    let has = c.requires.picture.1 in
    let planned = c.recall.ensures.job.planned in
    subst (IsBoxAt c.args.boxes.now) (sym place)
    (box_there words c.args.job.now.parts.project.width c.args.job.now.parts.project.height c.args.boxes.now has.0 has.1 planned.most_width planned.most_height c.args.u c.args.v c.requires.column c.requires.line)

pub returns : goal.returns
returns c words has =
    let place = c.place_of.ensures ∙ ap (λ n. c.args.v * n + c.args.u) (c.boxes_of.ensures.boxes ∙ ap boxes_of c.width.ensures) in
    let planned = c.recall.ensures.job.planned in
    c.mean.ensures ∙ ap (mean_at c.args.boxes.now) place
    ∙ means_are words c.args.job.now.parts.project.width c.args.job.now.parts.project.height c.args.boxes.now has.0 has.1 planned.most_width planned.most_height c.args.u c.args.v c.requires.column c.requires.line
