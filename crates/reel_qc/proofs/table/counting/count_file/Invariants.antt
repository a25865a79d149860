use Rattle.std.proofs.Common.{◌≡◌, ◌-◌, ◌≤◌, map, true}
use Rattle.reel_disk.specs.Disk.{view_of}
use Rattle.reel_disk.specs.State.{OnlyReads}
use Rattle.reel_qc.specs.inside.Table.{AddsCounts}
use Rattle.reel_qc.specs.Reads.{ReadsWords}
use Rattle.reel_qc.specs.Words.{words_in}
use Rattle.reel_qc.proofs.table.counting.count_file.Given as goal

-- the words up to there are counted
abbrev pub invariant-loop-done : goal.invariant-loop-done
invariant-loop-done g l = record {
  reads : OnlyReads g.D.Disk.tells (g.D.Disk.state l.fn.disk) (g.D.Disk.state l.disk);
  counted : AddsCounts (map (λ p. p.kind) l.counting.probes.now) (g.D.Disk.tells ≡ true) (words_in 0 l.done (view_of (g.D.Disk.state l.fn.disk).history l.id))
      (λ words. ReadsWords l.id 0 l.done words (g.D.Disk.state l.fn.disk).calls (g.D.Disk.state l.disk).calls) l.done l.fn.counts l.counts;
  within : l.done ≤ l.most;
  same : (g.D.Disk.state l.disk).loans ≡ (g.D.Disk.state l.fn.disk).loans;
  faults : (g.D.Disk.state l.disk).faults ≡ (g.D.Disk.state l.fn.disk).faults;
}

abbrev pub decreases-loop-done : goal.decreases-loop-done
decreases-loop-done g l = l.most - l.done
