use Rattle.std.proofs.Common.{◌≡◌, ◌+◌, ◌*◌, ◌≤◌, ◌++◌, length, map, vec_len, vec_capacity}
use Rattle.std.specs.Prelude.{sum_by}
use Rattle.crew_seat.specs.Seats.{HasTaken}
use Rattle.crew_seat.specs.Worked.{seat_loads}
use Rattle.crew_seat.proofs.seats.unseat.Given as goal

abbrev pub invariant-loop-seat : goal.invariant-loop-seat
invariant-loop-seat g l = record {
  can : (goal.iterator-loop-seat g).can_next l.seat-iterator;
  ends : (goal.iterator-loop-seat g).is_finite l.seat-iterator;
  left : l.yielded ++ l.seat-iterator.rest.items ≡ l.initial.seat-iterator.rest.items;
  capacity : vec_capacity l.scans ≡ vec_capacity l.initial.scans;
  len : vec_len l.scans ≡ length l.yielded;
  scans : l.scans.items ≡ map (λ s. s.loader.scan) l.yielded;
  loads : l.loads ≡ sum_by (λ s. s.loader.loads) l.yielded;
  few : l.loads ≤ seat_loads * length l.yielded;
  source : l.marks.source.amount ≡ l.initial.marks.source.amount + sum_by (λ s. s.marks.source.amount) l.yielded;
  changed : l.marks.changed.amount ≡ l.initial.marks.changed.amount + sum_by (λ s. s.marks.changed.amount) l.yielded;
  taken : HasTaken l.initial.marks (length l.yielded) l.marks;
  shares : l.units.parts ≡ l.initial.units.parts + length l.yielded;
  amount : l.units.amount ≡ l.initial.units.amount + l.loads;
  needed : l.initial.marks.claims.amount + l.loads ≤ l.marks.claims.amount;
}
