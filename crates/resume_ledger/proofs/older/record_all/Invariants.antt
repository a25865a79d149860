use Rattle.std.proofs.Common.{◌≡◌, ◌≢◌, ◌≤◌, ◌<◌, ◌+◌, ◌*◌, ℕ, false, length, get_or, take, true}
use Rattle.reel_disk.specs.Disk.{view_of}
use Rattle.reel_disk.specs.State.{OnlyReads}
use Rattle.resume_ledger.specs.Sound.{file_at}
use Rattle.resume_ledger.specs.OpeningCalls.{TakesFrames}
use Rattle.resume_ledger.specs.inside.Steps.{IsRecorded}
use Rattle.resume_ledger.proofs.older.record_all.Given as goal

-- the frames below i have what they get, and the others' gates are closed
abbrev pub invariant-loop-i : goal.invariant-loop-i
invariant-loop-i g l = record {
  reads : OnlyReads g.D.Disk.tells (g.D.Disk.state l.fn.disk) (g.D.Disk.state l.disk);
  size : length l.body ≡ length l.fn.body;
  head : take 64 l.body ≡ take 64 l.fn.body;
  done : g.D.Disk.tells ≡ true → (k : ℕ) → k < l.i → IsRecorded (get_or l.gates k false) (view_of (g.D.Disk.state l.fn.disk).history (file_at l.files k)) l.size l.body k;
  taken : TakesFrames l.gates (file_at l.files) l.size l.i l.fn.body l.body (g.D.Disk.state l.fn.disk).calls (g.D.Disk.state l.disk).calls;
  closed : (k : ℕ) → l.i ≤ k → k < length l.files → get_or l.body (64 + 33 * k) 0 ≢ 65;
  piece : length l.piece ≡ 65536;
  same : (g.D.Disk.state l.disk).loans ≡ (g.D.Disk.state l.fn.disk).loans;
  faults : (g.D.Disk.state l.disk).faults ≡ (g.D.Disk.state l.fn.disk).faults;
}
