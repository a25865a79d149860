use Rattle.std.proofs.Common.{◌∷◌, ◌∙◌, ℕ, sym, ap, subst}
use Rattle.frame_hash.specs.declared.Room.{Room}
use Rattle.reel_writer.specs.inside.Ahead.{IsOnceSoFar}
use Rattle.reel_writer.proofs.Once.{same_first}
use Rattle.reel_writer.proofs.ahead.read_on.Goals as goal

-- no file was read twice, whether one was read now or not
pub returns-clause-once : goal.returns-clause-once
returns-clause-once g c low before held le sofar =
    let job = c.args.job.now in
    let after = c.hash_part.new.self in
    elim c.if-is_none.branch [
      | goal.then-is_none+in_ok-next w ↦
          let room = w.read_next.new.room in
          let new = (g.D.Disk.state w.read_next.new.disk).calls in
          let led = w.in_ok-next.ensures.once low before held le sofar in
          subst (λ (d : _). IsOnceSoFar job low c.if-is_none.next before (g.D.Disk.state d).calls (after ∷ held)) (sym w.disk-is)
          (subst (λ (n : ℕ). IsOnceSoFar job low n before new (after ∷ held)) (sym w.next-is)
          (same_first room after held (c.hash_part.ensures.frame ∙ ap (λ (r : Room). r.frame) w.room-is) job low w.in_ok-next.next before new led))
      | goal.else-is_none w ↦
          let new = (g.D.Disk.state c.args.disk.now).calls in
          subst (λ (d : _). IsOnceSoFar job low c.if-is_none.next before (g.D.Disk.state d).calls (after ∷ held)) (sym w.disk-is)
          (subst (λ (n : ℕ). IsOnceSoFar job low n before new (after ∷ held)) (sym w.next-is)
          (same_first c.args.room.now after held (c.hash_part.ensures.frame ∙ ap (λ (r : Room). r.frame) w.room-is) job low c.args.from before new sofar))
    ]
