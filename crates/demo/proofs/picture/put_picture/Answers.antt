use Rattle.std.proofs.Common.{◌≡◌, ◌++◌, ap, ◌∙◌, arith}
use Rattle.std.specs.List.{flat_map, range_with_len}
use Rattle.demo.specs.Pictures.{source_line, picture}
use Rattle.demo.proofs.Loops.{piece_more}
use Rattle.demo.proofs.picture.put_picture.Goals as goal

pub loop-y-preserved : goal.loop-y-preserved
loop-y-preserved c = piece_more (source_line c.args.reel c.args.frame) _ c.loop-y.file.items c.put_line.new.file.items c.loop-y.y c.loop-y.invariant c.in_ok-put_line.ensures

pub returns : goal.returns
unfolding picture
returns c =
    let all : c.loop-y.y ≡ 18 = omega arith in
    c.loop-y.invariant ∙ ap (λ n. c.args.file.now.items ++ flat_map (source_line c.args.reel c.args.frame) (range_with_len 0 n)) all
