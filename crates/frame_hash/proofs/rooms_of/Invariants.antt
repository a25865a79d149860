-- The rooms so far are free.
use Rattle.std.proofs.Common.{All}
use Rattle.frame_hash.specs.Rooms.{IsFree}
use Rattle.frame_hash.proofs.rooms_of.Given as goal

abbrev pub invariant-loop : goal.invariant-loop
invariant-loop l = All (IsFree l.size) l.rooms.items
