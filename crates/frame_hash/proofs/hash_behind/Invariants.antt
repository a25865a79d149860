-- The rooms so far are hashed on, and the others as they were.
use Rattle.std.proofs.Common.{◌≡◌, ℕ, ◌<◌, ◌≤◌, length, get_or}
use Rattle.frame_hash.specs.declared.Room.{Room}
use Rattle.frame_hash.specs.Rooms.{IsHashedOn}
use Rattle.frame_hash.proofs.hash_behind.Given as goal

abbrev pub invariant-loop-i : goal.invariant-loop-i
invariant-loop-i g l = record {
  count : length l.rooms ≡ length l.fn.rooms;
  done : (k : ℕ) (d : Room) → k < l.i → IsHashedOn l.size (get_or l.fn.rooms k d) (get_or l.rooms k d);
  left : (k : ℕ) (d : Room) → l.i ≤ k → get_or l.rooms k d ≡ get_or l.fn.rooms k d;
}
