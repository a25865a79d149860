use Rattle.std.proofs.Common.{[], ◌∷◌, ◌++◌, ◌∙◌, ap, arith, length, refl, rules, subst, sym}
use Rattle.std.proofs.lemmas.List.{length_push, map-append}
use Rattle.std.proofs.lemmas.List.Elements.{All-push}
use Rattle.crew_seat.specs.Seats.{HasGiven}
use Rattle.crew_seat.specs.Stepped.{IsFresh}
use Rattle.crew_seat.proofs.Seating.{all_came, given_more, has_room, more_came, more_left, next_number, not_all_came, numbered_more, units_amount, units_closed, units_left}
use Rattle.crew_seat.proofs.seats.seat_all.Goals as goal

pub loop-scan-preserved : goal.loop-scan-preserved
loop-scan-preserved g c =
    let more = length_push c.loop-scan.yielded c.in-Some.scan in
    record {
      can = tt;
      ends = tt;
      left = more_came _ c.loop-scan.yielded _ _ c.in-Some.scan c.loop-scan.invariant.left c.in-Some.ensures.steps.0;
      number = omega (arith, more, c.loop-scan.invariant.number);
      capacity = search rules;
      len = omega (arith, more, c.loop-scan.invariant.len, c.push_reserved.ensures.len);
      scans = rw (c.push_reserved.ensures.items, map-append, c.loop-scan.invariant.scans) (ap (λ (scan : _). c.loop-scan.yielded ++ scan ∷ []) c.new.ensures.scan);
      fresh = rw c.push_reserved.ensures.items (All-push (λ s. IsFresh s) c.loop-scan.seats.items _ c.loop-scan.invariant.fresh (record { marks = c.split.ensures.new; units = c.new.ensures.units ∙ c.split-in-loop-scan.ensures.new; none = c.new.ensures.none; unfailed = refl }));
      numbers = rw (c.push_reserved.ensures.items, more) (numbered_more (λ s. s.number) c.loop-scan.seats.items _ _ (search rules) c.loop-scan.invariant.number c.loop-scan.invariant.numbers);
      given = given_more _ _ _ _ _ _ c.loop-scan.invariant.given c.split.ensures.new c.split.ensures.all more;
      shares = units_left _ _ _ _ _ c.split-in-loop-scan.ensures.new c.split-in-loop-scan.ensures.all c.loop-scan.invariant.shares more;
      amount = units_amount _ _ _ c.split-in-loop-scan.ensures.new c.split-in-loop-scan.ensures.all ∙ c.loop-scan.invariant.amount;
      closed = units_closed _ _ _ c.split-in-loop-scan.ensures.all c.loop-scan.invariant.closed;
    }

pub overflow_add-number : goal.overflow_add-number
overflow_add-number g c =
    let inv = c.loop-scan.invariant in
    let whole = inv.left ∙ c.into_iter-scan-iterator.ensures.into_iter_gives.0 in
    let fits = next_number _ _ _ _ inv.number (not_all_came _ c.loop-scan.yielded _ _ c.in-Some.scan whole c.in-Some.ensures.steps.0) c.args.scans.ok.0 c.requires.few in
    omega (arith, fits)

pub push_reserved-requires : goal.push_reserved-requires
push_reserved-requires g c =
    let inv = c.loop-scan.invariant in
    let whole = inv.left ∙ c.into_iter-scan-iterator.ensures.into_iter_gives.0 in
    has_room _ _ _ _ _ _ inv.len inv.capacity (not_all_came _ c.loop-scan.yielded _ _ c.in-Some.scan whole c.in-Some.ensures.steps.0) c.args.scans.ok.0 c.requires.room

pub split-requires : goal.split-requires
split-requires g c =
    let inv = c.loop-scan.invariant in
    let whole = inv.left ∙ c.into_iter-scan-iterator.ensures.into_iter_gives.0 in
    record { more = more_left _ _ _ _ _ inv.given c.requires.parts (not_all_came _ c.loop-scan.yielded _ _ c.in-Some.scan whole c.in-Some.ensures.steps.0) c.args.scans.ok.0 }

pub returns : goal.returns
returns g c =
    let inv = c.loop-scan.invariant in
    let whole = inv.left ∙ c.into_iter-scan-iterator.ensures.into_iter_gives.0 in
    let is = all_came _ _ _ _ whole c.loop-scan.scan-iterator.rest.ok.0 c.in-None.ensures.steps.0 in
    let size = ap length is ∙ sym c.args.scans.ok.0 in
    record {
      scans = inv.scans ∙ is;
      len = inv.len ∙ size;
      numbers = λ k d lt. inv.numbers k d (omega (arith, lt, size));
      fresh = inv.fresh;
      given = subst (λ n. HasGiven c.args.marks.now n c.loop-scan.marks) size inv.given;
      units = (let shares = inv.shares in omega (arith, shares, size), inv.amount);
    }
