use Rattle.std.proofs.Common.{◌≡◌, ◌≤◌, take, vec_len, vec_capacity}
use Rattle.reel_writer.specs.Reel.{frames_of}
use Rattle.run_crew.proofs.crew.board_of.Given as goal

abbrev pub invariant-loop-i : goal.invariant-loop-i
invariant-loop-i g l = record {
  within : l.i ≤ frames_of g.N.Work.job;
  ending : l.count ≡ frames_of g.N.Work.job;
  len : vec_len l.done ≡ l.i;
  capacity : frames_of g.N.Work.job ≤ vec_capacity l.done;
  done : l.done.items ≡ take l.i l.reel.ledger.gates;
}
