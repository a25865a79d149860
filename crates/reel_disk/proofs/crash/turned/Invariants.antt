use Rattle.std.proofs.Common.{◌≡◌, ℕ, ◌<◌, length}
use Rattle.std.specs.Prelude.{slice_index}
use Rattle.reel_disk.specs.Crash.{IsTurned}
use Rattle.reel_disk.specs.Memory.{history_of}
use Rattle.reel_disk.proofs.crash.turned.Given as goal

abbrev pub invariant-loop-k : goal.invariant-loop-k
invariant-loop-k l = record {
  size : length l.left.items ≡ l.k;
  each : (j : ℕ) → j < l.k → IsTurned (history_of l.store) l.id j (slice_index l.left.items j);
}
