use Rattle.std.proofs.Common.{◌≡◌, ℕ, ◌<◌, ◌≤◌, length, false}
use Rattle.std.specs.Prelude.{All, Ok}
use Rattle.reconform.specs.inside.Ahead.{CanFinish, HasRoom}
use Rattle.reconform.specs.inside.Parts.{HasServedTo}
use Rattle.reconform.proofs.takeover.Takeover.adopt_frames.Given as goal

-- the frames below i are served, those behind have their rooms, and nothing failed
abbrev pub invariant-loop-i : goal.invariant-loop-i
invariant-loop-i g l = record {
  first : l.from ≤ l.i;
  within : l.i ≤ l.to;
  done : HasServedTo g.N.Work.job g.O.Work.job g.N.Work.files g.D.Disk.tells g.D.Disk.state g.E.Disk.tells g.E.Disk.state l.fn.self.view.now l.from l.i (Ok (tt {0})) l._old l._old l.fn.reel l.reel;
  is_open : l.reel.ledger.closed ≡ false;
  rooms : All (CanFinish g.N.Work.job g.O.Work.job g.N.Work.files g.D.Disk.tells l.fn.self.view.now (g.D.Disk.state l._old)) l.rooms;
  left : (k : ℕ) → l.i ≤ k → HasRoom k l.fn.rooms → HasRoom k l.rooms;
}
