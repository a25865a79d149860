use Rattle.std.proofs.Common.{◌≡◌, ◌<◌, ◌+◌, ◌-◌, ℕ, length, false}
use Rattle.std.specs.Prelude.{All, Ok}
use Rattle.reel_disk.specs.Disk.{view_of}
use Rattle.reel_writer.specs.Reel.{frames_of}
use Rattle.reconform.specs.Taken.{AsksForDonors}
use Rattle.reconform.specs.inside.Ahead.{AreReady, HoldsDonor}
use Rattle.reconform.specs.inside.Parts.{HasServedTo, IsUnderWay}
use Rattle.reconform.proofs.takeover.Takeover.adopt_each.Given as goal

-- so many frames are served, and nothing failed
abbrev pub invariant-loop-at : goal.invariant-loop-at
invariant-loop-at g l = record {
  under_way : IsUnderWay g.N.Work.job g.O.Work.job g.D.Disk.tells l.fn.self.view.now (view_of (g.D.Disk.state l.fn.old).history) l.reel.ledger.gates l.at l.some l.others;
  asks : AsksForDonors g.N.Work.job g.O.Work.job l.fn.self.view.now 0 l.at.read (g.D.Disk.state l.fn.old).calls (g.D.Disk.state l.old).calls;
  done : HasServedTo g.N.Work.job g.O.Work.job g.N.Work.files g.D.Disk.tells g.D.Disk.state g.E.Disk.tells g.E.Disk.state l.fn.self.view.now 0 l.at.adopted (Ok (tt {0})) l.fn.old l.old l.fn.reel l.reel;
  is_open : l.reel.ledger.closed ≡ false;
  made : AreReady g.N.Work.job g.O.Work.job g.N.Work.files g.D.Disk.tells l.fn.self.view.now (g.D.Disk.state l.old) l.some;
  read : All (HoldsDonor g.N.Work.job g.O.Work.job g.D.Disk.tells (g.D.Disk.state l.old) l.fn.self.donors.now.by_plan) l.others;
  full : (0 < length l.some) × (0 < length l.others);
}

-- frames are adopted, or donors are read
abbrev pub decreases-loop-at : goal.decreases-loop-at
decreases-loop-at g l = (frames_of g.N.Work.job - l.at.adopted) + (frames_of g.N.Work.job - l.at.read)
