use Rattle.std.proofs.Common.{rules, ◌≡◌, inl, inr, List, ℕ, Bool, Option, true, false, get_or, subst, sym, ap, ◌∙◌, arith}
use Rattle.std.specs.Prelude.{IfSome}
use Rattle.std.proofs.lemmas.Bool.{false≢true}
use Rattle.conform_job.specs.Job.{file_of}
use Rattle.reel_disk.specs.Disk.{view_of}
use Rattle.resume_ledger.proofs.Reading.{reads_none}
use Rattle.reconform.specs.Donor.{HasIntactDonor}
use Rattle.reconform.specs.Taken.{IsTakenOver}
use Rattle.reconform.specs.inside.Adopt.{IsServed}
use Rattle.reconform.proofs.Dressing.{freed}
use Rattle.reconform.proofs.Going.{new_asked}
use Rattle.reconform.proofs.Holding.{room_other}
use Rattle.reconform.proofs.Serving.{nothing_done, on_any, on_ok, served_already, served_by, served_set}
use Rattle.reconform.proofs.Taking.{some_finish}
use Rattle.reconform.proofs.takeover.Takeover.adopt_frame.Goals as goal

-- it is acknowledged
pub returns-then-is_acked-clause-done : goal.returns-then-is_acked-clause-done
returns-then-is_acked-clause-done g c =
    nothing_done g.N.Work.job g.O.Work.job g.N.Work.files g.D.Disk.tells g.D.Disk.state g.E.Disk.tells g.E.Disk.state
    c.args.self.now.view.now c.args.i c.args._old.now c.args.reel.now c.requires.is_open
    (λ told. served_already g.N.Work.job g.O.Work.job c.args.self.now.view.now (view_of (g.D.Disk.state c.args._old.now).history) c.args.i c.args.reel.now.ledger.gates (sym c.is_acked.ensures.acked ∙ c.if-is_acked.true))

-- it has no room, as there is nothing to be taken over
pub returns-in-None-clause-done : goal.returns-in-None-clause-done
returns-in-None-clause-done g c =
    nothing_done g.N.Work.job g.O.Work.job g.N.Work.files g.D.Disk.tells g.D.Disk.state g.E.Disk.tells g.E.Disk.state
    c.args.self.now.view.now c.args.i c.args._old.now c.args.reel.now c.requires.is_open
    (λ told. served_by g.N.Work.job g.O.Work.job c.args.self.now.view.now (view_of (g.D.Disk.state c.args._old.now).history) c.args.i c.args.reel.now.ledger.gates (
      λ yes. absurd (false≢true yes),
      λ has. elim (c.requires.held told has) [
        | inl acked ↦ sym c.if-is_acked.false ∙ c.is_acked.ensures.acked ∙ acked
        | inr room ↦ absurd (c.place_of.ensures.none c.in-None.is room)
      ],
    ))

-- its file lies in a room
pub returns-in-Some-clause-rooms : goal.returns-in-Some-clause-rooms
returns-in-Some-clause-rooms g c =
    on_ok c.finish_frame.result _ _ (λ free. freed g.N.Work.job g.O.Work.job g.N.Work.files g.D.Disk.tells c.args.self.now.view.now (g.D.Disk.state c.args._old.now) c.args.rooms.now c.in-Some.n _ free c.requires.rooms) c.finish_frame.ensures.free

pub returns-in-Some-clause-left : goal.returns-in-Some-clause-left
returns-in-Some-clause-left g c =
    on_any c.finish_frame.result _ (λ k other has. room_other c.args.rooms.now c.in-Some.n c.finish_frame.new.room c.args.i k (c.in-Some.ensures.holds c.finish_frame.new.room) other has)

pub returns-in-Some-clause-done : goal.returns-in-Some-clause-done
returns-in-Some-clause-done g c =
    let files = view_of (g.D.Disk.state c.args._old.now).history in
    let gates = c.args.reel.now.ledger.gates in
    let index = c.requires.index in
    let size = c.requires.size in
    let can = c.requires.rooms c.in-Some.n c.finish_frame.new.room c.in-Some.ensures.within in
    let donor = subst (λ (frame : Option ℕ). IfSome frame (λ i. g.D.Disk.tells ≡ true → HasIntactDonor g.N.Work.job g.O.Work.job c.args.self.now.view.now files i)) (c.in-Some.ensures.holds c.finish_frame.new.room) can.holds.donor in
    let done = c.finish_frame.ensures in
    record {
      served = on_ok c.finish_frame.result _ _ (λ finished told. subst (λ (gs : List Bool). IsServed g.N.Work.job g.O.Work.job c.args.self.now.view.now files c.args.i gates gs) (sym finished.0)
          (served_set g.N.Work.job g.O.Work.job c.args.self.now.view.now files c.args.i gates (omega (arith, index, size)) (donor told))) done.finished;
      stays = done.stays;
      stays_open = on_ok c.finish_frame.result _ _ (λ finished. finished.1) done.finished;
      part = done.part.part;
      taken = some_finish (file_of g.N.Work.job c.args.i) _
          (subst (λ (frame : Option ℕ). IfSome frame (λ i. IsTakenOver g.N.Work.job g.O.Work.job c.args.self.now.view.now (g.D.Disk.state c.args._old.now).calls (file_of g.N.Work.job i) (get_or c.args.rooms.now c.in-Some.n c.index-rooms-n.result).bytes.items))
          (c.in-Some.ensures.holds c.index-rooms-n.result) (c.requires.rooms c.in-Some.n c.index-rooms-n.result c.in-Some.ensures.within).holds.taken) done.part.made;
      reads = reads_none;
      disks = new_asked done.disk;
    }
