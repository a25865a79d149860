use Rattle.std.proofs.Common.{rules, ◌≡◌, inl, inr, ℕ, ◌+◌, ◌<◌, ◌≤◌, length, get_or, set, refl, sym, ap, ◌∙◌, subst, arith}
use Rattle.std.specs.Prelude.{Some}
use Rattle.std.proofs.lemmas.Bool.{cases_lt}
use Rattle.std.proofs.lemmas.List.{get_or-set_other, get_or-set_same}
use Rattle.std.proofs.lemmas.List.Elements.{All-set}
use Rattle.frame_hash.specs.declared.Room.{Room}
use Rattle.frame_render.specs.Frame.{frame_size}
use Rattle.resume_ledger.proofs.Reading.{reads_along}
use Rattle.reel_writer.specs.Reel.{frames_of}
use Rattle.reconform.specs.inside.Ahead.{HoldsDonor}
use Rattle.reconform.proofs.Asking.{asks_along, asks_none, from_failed, from_made}
use Rattle.reconform.proofs.Dressing.{donor_later, more_rooms, same_view}
use Rattle.reconform.proofs.Going.{looked_along}
use Rattle.reconform.proofs.Holding.{held_along, held_later, held_none, held_still}
use Rattle.reconform.proofs.takeover.Takeover.read_ahead.Goals as goal

pub loop-n-init : goal.loop-n-init
loop-n-init g c = record {
  asks = asks_none;
  reads = search rules;
  read = λ k d lt. absurd (omega (arith, lt));
  held = λ told. held_none g.N.Work.job g.O.Work.job c.args.self.now.view.now _ c.args.from c.args.reel.now.ledger.gates _;
  size = c.requires.rooms.1;
  next = (omega arith, c.requires.from);
  more = λ none lt. absurd (omega (arith, none));
  count = refl;
  within = omega arith;
  ending = search rules;
  same = refl;
  faults = refl;
}

pub read_next-requires-clause-can : goal.read_next-requires-clause-can
read_next-requires-clause-can g c = record {
  new_is = c.requires.can.new_is;
  old_is = c.requires.can.old_is;
  looked = looked_along g.N.Work.job g.O.Work.job g.D.Disk.tells (g.D.Disk.state c.args.old.now).history (g.D.Disk.state c.loop-n.old).history c.loop-n.invariant.reads.still g.N.Work.files c.args.self.now.view.now c.requires.can.looked;
  donors = c.requires.can.donors;
}

pub returns-in_err-next-clause-asks : goal.returns-in_err-next-clause-asks
returns-in_err-next-clause-asks g c =
    from_failed g.N.Work.job g.O.Work.job c.args.self.now.view.now (λ n. n) c.args.from c.from_residual.result _ _ c.from_residual.ensures.0
    (asks_along c.loop-n.invariant.next.0 c.loop-n.invariant.next.1 c.loop-n.invariant.asks c.in_err-next.ensures.asks)

pub loop-n-preserved : goal.loop-n-preserved
loop-n-preserved g c =
    let inv = c.loop-n.invariant in
    let step = c.read_next.ensures in
    let done = c.in_ok-next.ensures in
    let test = c.loop-n-test.true in
    let ending = inv.ending in
    let n = c.loop-n.n in
    let rooms = c.loop-n.rooms in
    let room = c.read_next.new.room in
    let lt : n < length rooms = omega (arith, test, ending) in
    let from = inv.next.0 in
    let later = done.next.later in
    record {
      asks = asks_along inv.next.0 done.next.later inv.asks done.asks;
      reads = reads_along inv.reads step.reads;
      read = more_rooms (HoldsDonor g.N.Work.job g.O.Work.job g.D.Disk.tells (g.D.Disk.state c.read_next.new.old) c.args.self.now.donors.now.by_plan) rooms n room lt
          (λ k d before. donor_later step.reads (from_made g.N.Work.job g.O.Work.job c.args.self.now.view.now (λ n. n) _ c.read_next.result _ _ step.asks) _ (inv.read k d before)) done.read;
      held = λ told. held_along g.N.Work.job g.O.Work.job c.args.self.now.view.now _ c.args.from c.loop-n.next _ c.args.reel.now.ledger.gates _
          (held_still g.N.Work.job g.O.Work.job c.args.self.now.view.now _ c.args.from c.loop-n.next _ _ _ _ (λ k is. is)
          (λ k above has was. let before = was.1 in (was.0, omega (arith, before), λ d. ap (λ (r : Room). r.frame) (get_or-set_other rooms n was.0 room d (λ same. absurd (omega (arith, same, before)))) ∙ was.2 d)) (inv.held told))
          (held_still g.N.Work.job g.O.Work.job c.args.self.now.view.now _ c.loop-n.next _ _ _ _ _ (λ k is. is)
          (λ k above has is. (n, omega arith, λ d. ap (λ (r : Room). r.frame) (get_or-set_same rooms n room d lt) ∙ is))
          (held_later g.N.Work.job g.O.Work.job c.args.self.now.view.now _ _ c.loop-n.next _ _ _ (same_view inv.reads told) (done.held told)));
      size = All-set (λ (room : Room). length room.bytes.items ≡ frame_size g.N.Work.job) rooms n room done.read.size inv.size;
      next = (omega (arith, from, later), done.next.within);
      more = λ some lt. elim (cases_lt c.args.from c.loop-n.next) [
        | inl passed ↦ omega (arith, passed, later)
        | inr here ↦ let more = done.next.more (omega (arith, here, lt)) in omega (arith, here, more)
      ];
      count = search rules;
      within = search rules;
      ending = search rules;
      same = search rules;
      faults = search rules;
    }

-- all rooms are tried
pub returns-clause-held : goal.returns-clause-held
returns-clause-held g c told =
    let within = c.loop-n.invariant.within in
    held_still g.N.Work.job g.O.Work.job c.args.self.now.view.now _ c.args.from c.loop-n.next _ _ _ _ (λ k is. is)
    (λ k above has was. let lt = was.1 in (was.0, omega (arith, lt, within), was.2)) (c.loop-n.invariant.held told)
