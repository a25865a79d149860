use Rattle.std.proofs.Common.{rules, ◌≡◌, inl, inr, ℕ, ◌+◌, ◌∙◌, subst, arith}
use Rattle.std.specs.Prelude.{Ok, Err}
use Rattle.reconform.specs.inside.Parts.{HasServedTo}
use Rattle.reconform.proofs.Ranges.{failed_before, none_served, one_served, served_along}
use Rattle.reconform.proofs.takeover.Takeover.adopt_frames.Goals as goal

pub loop-i-init : goal.loop-i-init
loop-i-init g c = record {
  first = omega arith;
  within = c.requires.order.0;
  done = none_served g.N.Work.job g.O.Work.job g.N.Work.files g.D.Disk.tells g.D.Disk.state g.E.Disk.tells g.E.Disk.state c.args.self.now.view.now c.args.from c.args._old.now c.args.reel.now c.requires.is_open;
  is_open = c.requires.is_open;
  rooms = c.requires.rooms;
  left = λ k late has. has;
}

pub adopt_frame-requires-clause-size : goal.adopt_frame-requires-clause-size
adopt_frame-requires-clause-size g c = c.loop-i.invariant.done.stays.size ∙ c.requires.size

pub adopt_frame-requires-clause-held : goal.adopt_frame-requires-clause-held
adopt_frame-requires-clause-held g c told has = elim (c.requires.held told c.loop-i.i c.loop-i.invariant.first c.loop-i-test.true has) [
  | inl acked ↦ inl (c.loop-i.invariant.done.stays.grows c.loop-i.i acked)
  | inr room ↦ inr (c.loop-i.invariant.left c.loop-i.i (omega arith) room)
]

pub loop-i-preserved : goal.loop-i-preserved
loop-i-preserved g c =
    let inv = c.loop-i.invariant in
    let step = c.adopt_frame.ensures.done in
    record {
      first = let first = inv.first in omega (arith, first);
      within = let lt = c.loop-i-test.true in omega (arith, lt);
      done = served_along g.N.Work.job g.O.Work.job g.N.Work.files g.D.Disk.tells g.D.Disk.state g.E.Disk.tells g.E.Disk.state c.args.self.now.view.now c.args.from c.loop-i.i (c.loop-i.i + 1) tt (Ok (tt {0})) c.args._old.now c.args._old.now c.args._old.now c.args.reel.now c.loop-i.reel c.adopt_frame.new.reel inv.done
          (one_served g.N.Work.job g.O.Work.job g.N.Work.files g.D.Disk.tells g.D.Disk.state g.E.Disk.tells g.E.Disk.state c.args.self.now.view.now c.loop-i.i (Ok (tt {0})) c.args._old.now c.args._old.now c.loop-i.reel c.adopt_frame.new.reel c.in-Ok.ensures.done);
      is_open = c.in-Ok.ensures.done.stays_open;
      rooms = c.in-Ok.ensures.rooms;
      left = λ k late has. c.in-Ok.ensures.left k (λ same. absurd (omega (arith, same, late))) (inv.left k (omega (arith, late)) has);
    }

-- a disk failed
pub returns-in-Err-clause-done : goal.returns-in-Err-clause-done
returns-in-Err-clause-done g c =
    failed_before g.N.Work.job g.O.Work.job g.N.Work.files g.D.Disk.tells g.D.Disk.state g.E.Disk.tells g.E.Disk.state c.args.self.now.view.now c.args.from (c.loop-i.i + 1) c.args.to _ c.args._old.now c.args._old.now c.args.reel.now c.adopt_frame.new.reel
    (served_along g.N.Work.job g.O.Work.job g.N.Work.files g.D.Disk.tells g.D.Disk.state g.E.Disk.tells g.E.Disk.state c.args.self.now.view.now c.args.from c.loop-i.i (c.loop-i.i + 1) tt (Err _) c.args._old.now c.args._old.now c.args._old.now c.args.reel.now c.loop-i.reel c.adopt_frame.new.reel c.loop-i.invariant.done
    (one_served g.N.Work.job g.O.Work.job g.N.Work.files g.D.Disk.tells g.D.Disk.state g.E.Disk.tells g.E.Disk.state c.args.self.now.view.now c.loop-i.i (Err _) c.args._old.now c.args._old.now c.loop-i.reel c.adopt_frame.new.reel c.in-Err.ensures.done))

-- all are served
pub returns-clause-done : goal.returns-clause-done
returns-clause-done g c =
    let late = c.loop-i-test.false in
    let within = c.loop-i.invariant.within in
    subst (λ n. HasServedTo g.N.Work.job g.O.Work.job g.N.Work.files g.D.Disk.tells g.D.Disk.state g.E.Disk.tells g.E.Disk.state c.args.self.now.view.now c.args.from n (Ok (tt {0})) c.args._old.now c.args._old.now c.args.reel.now c.loop-i.reel) (omega (arith, late, within)) c.loop-i.invariant.done

pub returns-clause-left : goal.returns-clause-left
returns-clause-left g c k late has = let within = c.loop-i.invariant.within in c.loop-i.invariant.left k (omega (arith, late, within)) has
