use Rattle.std.proofs.Common.{rules, ◌≡◌, ◌<◌, ◌∷◌, ◌∙◌, List, length, get_or, sym, subst}
use Rattle.std.proofs.lemmas.List.{get_or_default}
use Rattle.frame_hash.specs.declared.Room.{Room}
use Rattle.reel_writer.specs.inside.Ahead.{IsOnceSoFar}
use Rattle.reel_writer.proofs.Once.{swapped_once}
use Rattle.reel_writer.proofs.ahead.make_way.Goals as goal

-- the same files lie in the rooms
pub returns-then-is_none-2-clause-once : goal.returns-then-is_none-2-clause-once
returns-then-is_none-2-clause-once c job from next before now sofar =
    let n = c.loop-n.n in
    let lt : n < length c.loop-n.others = search rules in
    let at : (d : Room) → get_or c.loop-n.others n d ≡ c.swap.new.x = λ d. get_or_default c.loop-n.others n d _ lt ∙ sym c.swap.ensures.x_after in
    let is : c.swap.new.y ≡ c.args.first.now = search rules in
    let same : c.loop-n.others ≡ c.args.others.now = c.loop-n.invariant.others in
    swapped_once c.args.first.now c.swap.new.x c.swap.new.y c.loop-n.others n lt at is job from next before now
    (subst (λ (rooms : List Room). IsOnceSoFar job from next before now (c.args.first.now ∷ rooms)) (sym same) sofar)
