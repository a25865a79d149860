use Rattle.std.proofs.Common.{◌≡◌, ◌∙◌, All, true, Vec, length, map, sum_by, rules, arith, refl, sym, ap, subst}
use Rattle.std.specs.declared.alloc.Global.{Global}
use Rattle.conform_job.specs.Names.{Tells}
use Rattle.render_board.specs.Board.{has_stop, is_done, is_in}
use Rattle.render_board.specs.History.{first_why, is_changed, is_source, stops_of}
use Rattle.frame_fetch.specs.Ends.{IsChange}
use Rattle.frame_share.specs.Share.{IsLegal, ShareView, misses_of}
use Rattle.frame_share.specs.Units.{Tally}
use Rattle.crew_seat.specs.Stepped.{IsFresh, WasCounted}
use Rattle.station.specs.Needed.{needed_by}
use Rattle.station.specs.Station.{StationView}
use Rattle.station.specs.StationSteps.{IsBeginning}
use Rattle.run_crew.specs.Crews.{AreShared}
use Rattle.run_crew.proofs.Gathering.{changed_seat, end_changed, end_source, gathered}
use Rattle.crew_seat.proofs.Seating.{all_after, all_at, refilled, was_counted}
use Rattle.crew_seat.specs.Worked.{seat_loads}
use Rattle.run_crew.proofs.crew.run_opened.Goals as goal

pub new-station-requires-clause-beginning : goal.new-station-requires-clause-beginning
new-station-requires-clause-beginning g c =
    subst (IsBeginning g.N.Work.job g.N.Work.files g.N.Start.start g.D.Disk.tells g.D.Disk.state c.args.reel) (sym c.in-Some.ensures.board) c.requires.beginning

pub work_all-station-requires-clause-ready : goal.work_all-station-requires-clause-ready
work_all-station-requires-clause-ready g c κs within =
    let fresh : All (λ s. IsFresh s) c.deref_mut.result.now = rw c.deref_mut.ensures.value c.seat_all-seats.ensures.fresh in
    let tells = all_at _ _ (λ s. s.loader.scan) (λ s. Tells g.N.Work.files (g.S.Scans.state s).world) c.deref_mut.result.now c.args.scans.items (search rules) c.requires.files in
    λ k d lt.
    let is = fresh k d lt in
    record { tells = tells k d lt; none = is.none; unfailed = is.unfailed; closed = ap (λ (u : Tally). u.pending) is.units }

pub unseat-scans-requires-clause-counted : goal.unseat-scans-requires-clause-counted
unseat-scans-requires-clause-counted g c =
    let fresh : All (λ s. IsFresh s) c.deref_mut.result.now = rw c.deref_mut.ensures.value c.seat_all-seats.ensures.fresh in
    all_after (λ s. WasCounted s) c.deref_mut.result.now c.work_all-station.new.seats c.seat_all-seats.result.items c.seat_all-seats.result.len c.work_all-station.ensures.size (search rules)
    (λ k d lt. was_counted g.N.Work.files g.S.Scans.state _ _ (fresh k d lt) (c.work_all-station.ensures.worked k d lt))

-- all is finished, and no more was loaded than the claimed frames need
pub closing-requires-clause-finished : goal.closing-requires-clause-finished
closing-requires-clause-finished g c =
    let needed = c.unseat-scans.ensures.needed in
    let none = c.seat_all-seats.ensures.given.claims.1 ∙ c.new-station.ensures.marks.claims.1 in
    let settled = c.settle.ensures.needed ∙ ap (λ (v : StationView _). needed_by g.N.Work.job v.log.steps) (sym c.settle.ensures.same) in (
      (λ none i lt inside.
          subst (λ (v : StationView _). is_done v.log i ≡ true) (sym c.settle.ensures.same) (c.work_all-station.ensures.whole (ap (λ (v : StationView _). has_stop v.log.steps) (sym c.settle.ensures.same) ∙ none) i lt
          (subst (λ (v : StationView _). is_in v.log i ≡ true) c.settle.ensures.same inside))),
      omega (arith, needed, none, settled),
    )

pub returns-clause-scans : goal.returns-clause-scans
returns-clause-scans g c =
    let xs = c.deref_mut.result.now in
    let ys = c.work_all-station.new.seats in
    let steps = c.settle.new.self.log.steps in
    let idle : All (λ s. IsFresh s) xs = rw c.deref_mut.ensures.value c.seat_all-seats.ensures.fresh in
    let full : c.seat_all-seats.result.len ≡ length c.deref_mut.result.now = search rules in
    let back = refilled ys c.seat_all-seats.result.items c.seat_all-seats.result.len (omega (arith, c.work_all-station.ensures.size, full)) in
    let settled = c.settle.ensures.settled.source ∙ ap (λ (v : StationView _). stops_of is_source v.log.steps) (sym c.settle.ensures.same) in
    let counted = c.unseat-scans.ensures.source in
    let none = c.seat_all-seats.ensures.given.source.1 ∙ c.new-station.ensures.marks.source.1 in
    let sum = ap (sum_by (λ s. s.marks.source.amount)) back in
    gathered g.N.Work.files g.S.Scans.state
    xs ys c.args.workers seat_loads c.work_all-station.ensures.size c.work_all-station.ensures.worked idle
    c.args.scans.items c.closing.result.scans.items c.closing.result.report.loads _
    (search rules)
    (ap (λ (v : Vec _ Global). v.items) c.closing.ensures.handed.1 ∙ c.unseat-scans.ensures.scans ∙ ap (map (λ s. s.loader.scan)) back)
    (c.closing.ensures.loads.0 ∙ c.unseat-scans.ensures.loads ∙ ap (sum_by (λ s. s.loader.loads)) back)
    (λ k d late. let is = c.from-threads.ensures in c.work_all-station.ensures.unused k d (omega (arith, is, late)))
    (λ failed. let stops = end_source steps (first_why steps) refl (sym c.closing.ensures.end ∙ failed) in omega (arith, stops, settled, counted, none, sum))

pub returns-clause-ran : goal.returns-clause-ran
returns-clause-ran g c = record {
  reported = record {
    frames = c.closing.ensures.frames;
    misses = c.closing.ensures.loads.1 ∙ sym c.closing.ensures.loads.0;
    changed = λ change.
        let xs = c.deref_mut.result.now in
        let ys = c.work_all-station.new.seats in
        let steps = c.settle.new.self.log.steps in
        let idle : All (λ s. IsFresh s) xs = rw c.deref_mut.ensures.value c.seat_all-seats.ensures.fresh in
        let full : c.seat_all-seats.result.len ≡ length c.deref_mut.result.now = search rules in
        let back = refilled ys c.seat_all-seats.result.items c.seat_all-seats.result.len (omega (arith, c.work_all-station.ensures.size, full)) in
        let stops = end_changed steps (first_why steps) refl (subst IsChange c.closing.ensures.end change) in
        let settled = c.settle.ensures.settled.changed ∙ ap (λ (v : StationView _). stops_of is_changed v.log.steps) (sym c.settle.ensures.same) in
        let counted = c.unseat-scans.ensures.changed in
        let none = c.seat_all-seats.ensures.given.changed.1 ∙ c.new-station.ensures.marks.changed.1 in
        let sum = ap (sum_by (λ s. s.marks.changed.amount)) back in
        let loaded = changed_seat g.N.Work.files g.S.Scans.state
        xs ys c.from-threads.result seat_loads c.work_all-station.ensures.size c.work_all-station.ensures.worked idle (omega (arith, stops, settled, counted, none, sum)) in
        let total = c.closing.ensures.loads.0 ∙ c.unseat-scans.ensures.loads ∙ ap (sum_by (λ s. s.loader.loads)) back in
        omega (arith, loaded, total);
  };
  shared =
      let kept = c.into_log.ensures.kept in
      let steps : c.closing.result.log ≡ c.settle-2.new.self.steps = c.closing.ensures.handed.0 ∙ c.into_log.ensures.steps in
      let counted = c.unseat-scans.ensures.amount in
      let none = c.seat_all-seats.ensures.units.1 ∙ ap (λ (u : Tally). u.amount) c.in-Some.ensures.units in
      let all : c.unseat-scans.result.1 ≡ c.unseat-scans.new.units.amount = omega (arith, counted, none) in
      subst (λ n. AreShared n c.closing.result.log c.closing.result.report) (c.into_log.ensures.capacity ∙ sym c.requires.task.shared) (record {
        some = kept.some;
        most = kept.most;
        legal = subst (IsLegal c.settle-2.new.self.capacity) (sym steps) kept.legal;
        misses = c.closing.ensures.loads.1 ∙ all ∙ c.settle-2.ensures.settled ∙ ap (λ (v : ShareView). misses_of v.steps) (sym c.settle-2.ensures.same) ∙ ap misses_of (sym steps);
        loads = c.closing.ensures.loads.0 ∙ sym c.closing.ensures.loads.1;
      });
  some = search rules;
  made = search rules;
  acked = c.closing.ensures.acked;
  lent = c.closing.ensures.lent;
  own = c.closing.ensures.own;
}
