use Rattle.std.proofs.Common.{[], ◌∷◌, ◌++◌, ◌+◌, ◌≤◌, ◌∙◌, ap, arith, length, map, subst, sym}
use Rattle.std.proofs.lemmas.List.{length_push, map-append}
use Rattle.std.proofs.lemmas.List.Sums.{sum_by_push}
use Rattle.std.specs.Prelude.{sum_by}
use Rattle.frame_share.specs.Units.{Tally}
use Rattle.station.specs.Marks.{Tallies}
use Rattle.crew_seat.specs.Seats.{HasTaken}
use Rattle.crew_seat.specs.Stepped.{WasCounted}
use Rattle.crew_seat.proofs.Seating.{all_came, few_loads, has_room, item_of, more_came, not_all_came, taken_more}
use Rattle.crew_seat.proofs.seats.unseat.Goals as goal

pub loop-seat-preserved : goal.loop-seat-preserved
loop-seat-preserved g c =
    let came = c.loop-seat.yielded in
    let seat = c.in-Some.seat in
    let inv = c.loop-seat.invariant in
    let whole = inv.left ∙ c.into_iter-seat-iterator.ensures.into_iter_gives.0 in
    let more = length_push came seat in
    let counted : WasCounted seat = item_of (λ s. WasCounted s) _ came _ _ seat whole c.in-Some.ensures.steps.0 c.requires.counted in
    let lent = counted.few in
    let parts = c.into_parts-scan.ensures in
    record {
      can = tt;
      ends = tt;
      left = more_came _ came _ _ seat inv.left c.in-Some.ensures.steps.0;
      capacity = c.push_reserved.ensures.capacity ∙ inv.capacity;
      len = c.push_reserved.ensures.len ∙ ap (λ n. n + 1) inv.len ∙ sym more;
      scans = rw (c.push_reserved.ensures.items, map-append, inv.scans) (ap (λ (scan : _). map (λ s. s.loader.scan) came ++ scan ∷ []) parts.scan);
      loads = ap (λ n. c.loop-seat.loads + n) parts.loads ∙ ap (λ n. n + seat.loader.loads) inv.loads ∙ sym (sum_by_push (λ s. s.loader.loads) came seat);
      few = let before = inv.few in omega (arith, before, lent, more, parts.loads);
      source = let before = inv.source in omega (arith, before, ap (λ (t : Tallies). t.source.amount) c.join.ensures.all, sum_by_push (λ s. s.marks.source.amount) came seat);
      changed = let before = inv.changed in omega (arith, before, ap (λ (t : Tallies). t.changed.amount) c.join.ensures.all, sum_by_push (λ s. s.marks.changed.amount) came seat);
      taken = taken_more _ _ _ seat.marks _ _ inv.taken counted.marks c.join.ensures.all more;
      shares = let was = inv.shares in omega (arith, was, ap (λ (u : Tally). u.parts) c.join-in-loop-seat.ensures.all, ap (λ (u : Tally). u.parts) parts.units, counted.parts, more);
      amount = let was = inv.amount in omega (arith, was, ap (λ (u : Tally). u.amount) c.join-in-loop-seat.ensures.all, ap (λ (u : Tally). u.amount) parts.units, parts.loads, counted.amount);
      needed = let was = inv.needed in omega (arith, was, ap (λ (t : Tallies). t.claims.amount) c.join.ensures.all, parts.loads, counted.needed);
    }

pub overflow_add-loads : goal.overflow_add-loads
overflow_add-loads g c =
    let came = c.loop-seat.yielded in
    let inv = c.loop-seat.invariant in
    let whole = inv.left ∙ c.into_iter-seat-iterator.ensures.into_iter_gives.0 in
    let within = not_all_came _ came _ _ c.in-Some.seat whole c.in-Some.ensures.steps.0 in
    let counted : WasCounted c.in-Some.seat = item_of (λ s. WasCounted s) _ came _ _ c.in-Some.seat whole c.in-Some.ensures.steps.0 c.requires.counted in
    let fits = few_loads _ _ _ _ inv.few counted.few within (subst (λ n. n ≤ 16) c.args.seats.ok.0 c.requires.some) in
    let more = c.into_parts-scan.ensures.loads in omega (arith, fits, more)

pub push_reserved-requires : goal.push_reserved-requires
push_reserved-requires g c =
    let came = c.loop-seat.yielded in
    let inv = c.loop-seat.invariant in
    let whole = inv.left ∙ c.into_iter-seat-iterator.ensures.into_iter_gives.0 in
    has_room _ _ _ _ _ _ inv.len inv.capacity (not_all_came _ came _ _ c.in-Some.seat whole c.in-Some.ensures.steps.0) c.args.seats.ok.0 c.requires.room

pub returns : goal.returns
returns g c =
    let inv = c.loop-seat.invariant in
    let whole = inv.left ∙ c.into_iter-seat-iterator.ensures.into_iter_gives.0 in
    let is = all_came _ _ _ _ whole c.loop-seat.seat-iterator.rest.ok.0 c.in-None.ensures.steps.0 in
    record {
      scans = inv.scans ∙ ap (map (λ s. s.loader.scan)) is;
      loads = inv.loads ∙ ap (sum_by (λ s. s.loader.loads)) is;
      source = inv.source ∙ ap (λ l. c.args.marks.now.source.amount + sum_by (λ s. s.marks.source.amount) l) is;
      changed = inv.changed ∙ ap (λ l. c.args.marks.now.changed.amount + sum_by (λ s. s.marks.changed.amount) l) is;
      taken = subst (λ n. HasTaken c.args.marks.now n c.loop-seat.marks) (ap length is ∙ sym c.args.seats.ok.0) inv.taken;
      shares = inv.shares ∙ ap (λ n. c.args.units.now.parts + n) (ap length is ∙ sym c.args.seats.ok.0);
      amount = inv.amount;
      needed = inv.needed;
    }
