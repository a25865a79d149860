use Rattle.std.proofs.Common.{◌≡◌, ◌≤◌, ◌-◌, ◌^◌, ℕ, List, length, take, true}
use Rattle.std.specs.Prelude.{min, Some}
use Rattle.sha2.specs.Hashers.{Holds256}
use Rattle.reel_disk.specs.Disk.{view_of}
use Rattle.reel_disk.specs.State.{OnlyReads}
use Rattle.resume_ledger.specs.Calls.{bytes_of, reads_of, ArePieces}
use Rattle.resume_ledger.proofs.hash.read_pieces.Given as goal

-- the file is as it was, and what was read of it so far is in the hasher
abbrev pub invariant-loop-at : goal.invariant-loop-at
invariant-loop-at g l = record {
  reads : OnlyReads g.D.Disk.tells (g.D.Disk.state l.fn.disk) (g.D.Disk.state l.disk);
  hashed : g.D.Disk.tells ≡ true → (bytes : List ℕ) → view_of (g.D.Disk.state l.fn.disk).history l.id ≡ Some bytes → length bytes ≡ l.size → (l.at ≤ l.size) × Holds256 l.hasher (take l.at bytes);
  pieces : (pieces : List (ℕ × List ℕ)) × (l.at ≡ min (length (bytes_of pieces)) (2 ^ 64 - 1)) × Holds256 l.hasher (bytes_of pieces) × ((g.D.Disk.state l.disk).calls ≡ reads_of l.id pieces (g.D.Disk.state l.fn.disk).calls) × ArePieces l.size pieces;
  piece : length l.piece ≡ 65536;
  same : (g.D.Disk.state l.disk).loans ≡ (g.D.Disk.state l.fn.disk).loans;
  faults : (g.D.Disk.state l.disk).faults ≡ (g.D.Disk.state l.fn.disk).faults;
}

abbrev pub decreases-loop-at : goal.decreases-loop-at
decreases-loop-at g l = l.size - l.at
