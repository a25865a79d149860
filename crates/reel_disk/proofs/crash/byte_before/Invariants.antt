use Rattle.std.proofs.Common.{◌≡◌, ◌≤◌, length}
use Rattle.reel_disk.specs.Disk.{Files}
use Rattle.reel_disk.specs.inside.Memory.{byte_of}
use Rattle.reel_disk.proofs.Walks.{IsWalked}
use Rattle.reel_disk.proofs.crash.byte_before.Given as goal

abbrev pub invariant-loop-i : goal.invariant-loop-i
invariant-loop-i l = record {
  upto : l.i ≤ length l.steps;
  walked : (files : Files) → l.fn.byte ≡ byte_of (files l.id) l.k → IsWalked files l.fn.loose l.steps l.id l.k l.i l.places l.value;
}

abbrev pub decreases-loop-i : goal.decreases-loop-i
decreases-loop-i l = l.i
