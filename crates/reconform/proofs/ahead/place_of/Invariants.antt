use Rattle.std.proofs.Common.{ℕ, ◌<◌, get_or}
use Rattle.std.specs.Prelude.{Some, ◌≢◌}
use Rattle.frame_hash.specs.declared.Room.{Room}
use Rattle.reconform.proofs.ahead.place_of.Given as goal

-- none of the rooms before is the frame's
abbrev pub invariant-loop-n : goal.invariant-loop-n
invariant-loop-n l = (k : ℕ) (d : Room) → k < l.n → (get_or l.rooms k d).frame ≢ Some l.i
