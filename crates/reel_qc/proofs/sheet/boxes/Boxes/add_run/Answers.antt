-- The run is added to its box.
use Rattle.std.proofs.Common.{◌∙◌, ◌+◌, ◌*◌, ap, w32}
use Rattle.std.proofs.Math.Facts.{Fits-lt-pow}
use Rattle.reel_qc.proofs.Adding.{all_added, room_there}
use Rattle.reel_qc.proofs.sheet.boxes.Boxes.add_run.Goals as goal

pub add_sums-requires : goal.add_sums-requires
add_sums-requires c =
    room_there c.args.words.now c.args.width c.args.height c.args.u c.args.y c.place_of.result c.boxes_of.result c.args.self.now c.place_of.ensures c.boxes_of.ensures.boxes
    c.requires.column c.requires.line c.requires.whole c.requires.sums (λ k. Fits-lt-pow {w = w32} (c.type_inv.words k)) c.requires.most_width c.requires.most_height

pub returns : goal.returns
returns c =
    all_added c.args.words.now c.args.width c.args.height c.args.u c.args.y c.place_of.result c.boxes_of.result c.args.self.now c.place_of.ensures c.boxes_of.ensures.boxes
    c.requires.column c.requires.line c.requires.whole c.requires.sums c.sums_of-run.result c.add_sums.new.self c.place_of-start.result c.place_of-end.result
    (c.place_of-start.ensures ∙ ap (λ n. c.args.y * c.args.width + n) c.run_start.ensures.start)
    (c.place_of-end.ensures ∙ ap (λ n. c.args.y * c.args.width + n) c.run_start-2.ensures.start)
    c.sums_of-run.ensures.red c.sums_of-run.ensures.green c.sums_of-run.ensures.blue c.sums_of-run.ensures.pixels
    c.add_sums.ensures.red c.add_sums.ensures.green c.add_sums.ensures.blue c.add_sums.ensures.pixels
