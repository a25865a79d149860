use Rattle.std.proofs.Common.{◌≡◌, ℕ, ◌<◌, ◌+◌, ◌++◌, All, get_or, length, map, vec_len, vec_capacity}
use Rattle.crew_seat.specs.Seats.{HasGiven}
use Rattle.crew_seat.specs.Stepped.{IsFresh}
use Rattle.crew_seat.proofs.seats.seat_all.Given as goal

abbrev pub invariant-loop-scan : goal.invariant-loop-scan
invariant-loop-scan g l = record {
  can : (goal.iterator-loop-scan g).can_next l.scan-iterator;
  ends : (goal.iterator-loop-scan g).is_finite l.scan-iterator;
  left : l.yielded ++ l.scan-iterator.rest.items ≡ l.initial.scan-iterator.rest.items;
  number : l.number ≡ length l.yielded;
  capacity : vec_capacity l.seats ≡ vec_capacity l.initial.seats;
  len : vec_len l.seats ≡ length l.yielded;
  scans : map (λ s. s.loader.scan) l.seats.items ≡ l.yielded;
  numbers : (k : ℕ) (d : _) → k < length l.yielded → (get_or l.seats.items k d).number ≡ k;
  fresh : All (λ s. IsFresh s) l.seats.items;
  given : HasGiven l.initial.marks (length l.yielded) l.marks;
  shares : l.units.parts + length l.yielded ≡ l.initial.units.parts;
  amount : l.units.amount ≡ l.initial.units.amount;
  closed : l.units.pending ≡ 0;
}
