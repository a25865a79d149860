use Rattle.std.proofs.Common.{◌≡◌, ℕ, ◌<◌, ◌≤◌, length, get_or}
use Rattle.std.specs.Prelude.{Some}
use Rattle.frame_hash.specs.declared.Room.{Room}
use Rattle.reel_writer.proofs.ahead.take_digest.Given as goal

-- nothing is changed so far, and no room before has the frame's file
abbrev pub invariant-loop-n : goal.invariant-loop-n
invariant-loop-n l = record {
  rooms : l.rooms ≡ l.fn.rooms;
  within : l.n ≤ length l.rooms;
  ending : l.n-end ≡ length l.rooms;
  none : (k : ℕ) (d : Room) → k < l.n → (get_or l.rooms k d).frame ≡ Some l.i → ⊥;
}
