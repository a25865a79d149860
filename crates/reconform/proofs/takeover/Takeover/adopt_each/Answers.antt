use Rattle.std.proofs.Common.{rules, ◌≡◌, inl, inr, get_or, ap, sym, ◌∙◌, subst, arith}
use Rattle.std.specs.Prelude.{Ok, Err}
use Rattle.std.proofs.lemmas.Bool.{cases_lt}
use Rattle.reel_disk.specs.Disk.{view_of}
use Rattle.reel_writer.specs.Reel.{frames_of}
use Rattle.reconform.specs.inside.Parts.{HasServedTo, IsUnderWay}
use Rattle.reconform.proofs.Asking.{asks_along, asks_none, asks_wider}
use Rattle.reconform.proofs.Dressing.{free_can_finish, free_donor, same_view}
use Rattle.reconform.proofs.Going.{looked_along}
use Rattle.reconform.proofs.Holding.{held_none}
use Rattle.reconform.proofs.Ranges.{failed_before, none_served, served_along, served_as}
use Rattle.reconform.proofs.Stepping.{under_way_along}
use Rattle.reconform.proofs.takeover.Takeover.adopt_each.Goals as goal

pub loop-at-init : goal.loop-at-init
loop-at-init g c =
    let held = g.D.Disk.state c.args.old.now in
    record {
      under_way = record {
        order = record { adopted = omega arith; made = omega arith; read = omega arith };
        made_held = λ told. held_none g.N.Work.job g.O.Work.job c.args.self.now.view.now _ 0 _ _;
        read_held = λ told. held_none g.N.Work.job g.O.Work.job c.args.self.now.view.now _ 0 _ _;
      };
      asks = asks_none;
      done = none_served g.N.Work.job g.O.Work.job g.N.Work.files g.D.Disk.tells g.D.Disk.state g.E.Disk.tells g.E.Disk.state c.args.self.now.view.now 0 c.args.old.now c.args.reel.now c.requires.is_open;
      is_open = c.requires.is_open;
      made = λ k d lt. free_can_finish g.N.Work.job g.O.Work.job g.N.Work.files g.D.Disk.tells c.args.self.now.view.now held (get_or c.args.some.now k d) (c.requires.some.1 k d lt);
      read = λ k d lt. free_donor g.N.Work.job g.O.Work.job g.D.Disk.tells held c.args.self.now.donors.now.by_plan (get_or c.args.others.now k d) (c.requires.others.1 k d lt);
      full = (c.requires.some.0, c.requires.others.0);
    }

pub go_on_twice-requires-clause-can : goal.go_on_twice-requires-clause-can
go_on_twice-requires-clause-can g c = record {
  new_is = c.requires.can.new_is;
  old_is = c.requires.can.old_is;
  looked = looked_along g.N.Work.job g.O.Work.job g.D.Disk.tells (g.D.Disk.state c.args.old.now).history (g.D.Disk.state c.loop-at.old).history c.loop-at.invariant.done.reads.still g.N.Work.files c.args.self.now.view.now c.requires.can.looked;
  donors = c.requires.can.donors;
}

pub go_on_twice-requires-clause-under_way : goal.go_on_twice-requires-clause-under_way
go_on_twice-requires-clause-under_way g c = under_way_along (same_view c.loop-at.invariant.done.reads) c.loop-at.invariant.under_way

pub go_on_twice-requires-clause-size : goal.go_on_twice-requires-clause-size
go_on_twice-requires-clause-size g c = c.loop-at.invariant.done.stays.size ∙ c.requires.size

pub loop-at-preserved : goal.loop-at-preserved
loop-at-preserved g c =
    let inv = c.loop-at.invariant in
    let step = c.in-Ok.ensures in
    record {
      under_way = under_way_along (λ told. sym (same_view inv.done.reads told)) step.to.2;
      asks = asks_along (omega arith) (omega (arith, step.to.0, step.to.2.order.adopted, step.to.2.order.made)) inv.asks step.asks;
      done = served_along g.N.Work.job g.O.Work.job g.N.Work.files g.D.Disk.tells g.D.Disk.state g.E.Disk.tells g.E.Disk.state c.args.self.now.view.now 0 c.loop-at.at.adopted c.in-Ok.to.adopted tt (Ok (tt {0})) c.args.old.now c.loop-at.old c.go_on_twice.new.old c.args.reel.now c.loop-at.reel c.go_on_twice.new.reel inv.done
          (served_as g.N.Work.job g.O.Work.job g.N.Work.files g.D.Disk.tells g.D.Disk.state g.E.Disk.tells g.E.Disk.state c.args.self.now.view.now c.loop-at.at.adopted c.in-Ok.to.adopted c.in-Ok.to tt c.loop-at.old c.go_on_twice.new.old c.loop-at.reel c.go_on_twice.new.reel
          (subst (λ n. HasServedTo g.N.Work.job g.O.Work.job g.N.Work.files g.D.Disk.tells g.D.Disk.state g.E.Disk.tells g.E.Disk.state c.args.self.now.view.now c.loop-at.at.adopted n (Ok c.in-Ok.to) c.loop-at.old c.go_on_twice.new.old c.loop-at.reel c.go_on_twice.new.reel) (sym step.to.0) step.done));
      is_open = step.done.stays_open;
      made = step.made;
      read = step.read;
      full = search rules;
    }

-- each step adopts a frame, or reads a donor
pub loop-at-smaller : goal.loop-at-smaller
loop-at-smaller g c =
    let end = c.count-end.ensures.count ∙ ap frames_of c.requires.can.new_is in
    let test = c.loop-at-test.true in
    let was = c.loop-at.invariant.under_way.order in
    let step = c.in-Ok.ensures.to in
    let is = step.2.order in
    elim (cases_lt c.loop-at.at.read (frames_of g.N.Work.job)) [
      | inl before ↦ let more = step.1 before in omega (arith, end, test, was.adopted, was.made, was.read, step.0, more, is.adopted, is.made, is.read)
      | inr late ↦ omega (arith, end, test, was.adopted, was.made, was.read, step.0, late, is.adopted, is.made, is.read)
    ]

-- a disk failed
pub returns-in-Err : goal.returns-in-Err
returns-in-Err g c =
    let inv = c.loop-at.invariant in
    record {
      asks = asks_along (omega arith) inv.under_way.order.read inv.asks c.in-Err.ensures.asks;
      done = failed_before g.N.Work.job g.O.Work.job g.N.Work.files g.D.Disk.tells g.D.Disk.state g.E.Disk.tells g.E.Disk.state c.args.self.now.view.now 0 c.loop-at.at.read (frames_of g.N.Work.job) _ c.args.old.now c.go_on_twice.new.old c.args.reel.now c.go_on_twice.new.reel
          (served_along g.N.Work.job g.O.Work.job g.N.Work.files g.D.Disk.tells g.D.Disk.state g.E.Disk.tells g.E.Disk.state c.args.self.now.view.now 0 c.loop-at.at.adopted c.loop-at.at.read tt (Err _) c.args.old.now c.loop-at.old c.go_on_twice.new.old c.args.reel.now c.loop-at.reel c.go_on_twice.new.reel inv.done c.in-Err.ensures.done);
    }

-- all are served
pub returns : goal.returns
returns g c =
    let inv = c.loop-at.invariant in
    let end = c.count-end.ensures.count ∙ ap frames_of c.requires.can.new_is in
    let late = c.loop-at-test.false in
    let order = inv.under_way.order in
    record {
      asks = asks_wider order.read inv.asks;
      done = subst (λ n. HasServedTo g.N.Work.job g.O.Work.job g.N.Work.files g.D.Disk.tells g.D.Disk.state g.E.Disk.tells g.E.Disk.state c.args.self.now.view.now 0 n (Ok (tt {0})) c.args.old.now c.loop-at.old c.args.reel.now c.loop-at.reel) (omega (arith, end, late, order.adopted, order.made, order.read)) inv.done;
    }
