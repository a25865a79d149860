use Rattle.std.proofs.Common.{◌≡◌, ◌-◌, ◌^◌, ◌<◌, ◌≤◌, ℕ, get_or, take, true}
use Rattle.reel_disk.specs.Disk.{view_of}
use Rattle.reel_disk.specs.State.{OnlyReads}
use Rattle.reel_qc.specs.Reads.{ReadsWords}
use Rattle.reel_qc.specs.Words.{words_in}
use Rattle.reel_qc.proofs.words.read_words.Given as goal

-- the words up to there are found
abbrev pub invariant-loop-done : goal.invariant-loop-done
invariant-loop-done g l = record {
  reads : OnlyReads g.D.Disk.tells (g.D.Disk.state l.fn.disk) (g.D.Disk.state l.disk);
  words : g.D.Disk.tells ≡ true → take l.found l.words ≡ words_in l.first l.done (view_of (g.D.Disk.state l.fn.disk).history l.id);
  calls : ReadsWords l.id l.first l.done (take l.found l.words) (g.D.Disk.state l.fn.disk).calls (g.D.Disk.state l.disk).calls;
  few : l.found ≤ l.done;
  small : (k : ℕ) → get_or l.words k 0 < 2 ^ 32;
  within : l.done ≤ l.most;
  same : (g.D.Disk.state l.disk).loans ≡ (g.D.Disk.state l.fn.disk).loans;
  faults : (g.D.Disk.state l.disk).faults ≡ (g.D.Disk.state l.fn.disk).faults;
}

abbrev pub decreases-loop-done : goal.decreases-loop-done
decreases-loop-done g l = l.most - l.done
