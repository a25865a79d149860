use Rattle.std.proofs.Common.{rules, ◌≡◌, ◌<◌, ◌∙◌, length, sym, ap, arith, subst}
use Rattle.std.specs.Prelude.{Some, None}
use Rattle.std.proofs.lemmas.List.{get_or_default}
use Rattle.frame_hash.specs.declared.Room.{Room}
use Rattle.reel_writer.specs.inside.Ahead.{IsOnceSoFar}
use Rattle.reel_writer.proofs.Once.{set_once}
use Rattle.reel_writer.proofs.ahead.take_digest.Goals as goal

-- the frame's room is free
pub returns-then-eq-clause-once : goal.returns-then-eq-clause-once
returns-then-eq-clause-once c job next before now sofar =
    let rooms = c.loop-n.rooms in
    let n = c.loop-n.n in
    let lt : n < length rooms = search rules in
    let one : c.index-rooms-n.result.frame ≡ Some c.args.i = search rules in
    let free : c.digest.new.self.frame ≡ None = search rules in
    set_once rooms n c.args.i _ c.digest.new.self lt (λ d. ap (λ (room : Room). room.frame) (get_or_default rooms n d c.index-rooms-n.result lt ∙ sym c.index-rooms-n.is) ∙ one) free job next before now
    (subst (IsOnceSoFar job c.args.i next before now) (sym c.loop-n.invariant.rooms) sofar)

-- no room has the frame's file
pub returns-clause-once : goal.returns-clause-once
returns-clause-once c job next before now sofar = (
  subst (IsOnceSoFar job c.args.i next before now) (sym c.loop-n.invariant.rooms) sofar,
  λ k d lt. c.loop-n.invariant.none k d (let count = c.loop-n.auto.rooms in let all = c.loop-n-test.false in omega (arith, lt, count, all)),
)
