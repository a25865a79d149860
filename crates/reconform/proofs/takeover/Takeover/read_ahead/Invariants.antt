use Rattle.std.proofs.Common.{◌≡◌, ℕ, ◌<◌, ◌≤◌, length, true, get_or}
use Rattle.std.specs.Prelude.{Some}
use Rattle.frame_hash.specs.declared.Room.{Room}
use Rattle.frame_render.specs.Frame.{frame_size}
use Rattle.reel_disk.specs.Disk.{view_of}
use Rattle.reel_disk.specs.State.{OnlyReads}
use Rattle.reel_writer.specs.Reel.{frames_of}
use Rattle.reconform.specs.Taken.{AsksForDonors}
use Rattle.reconform.specs.inside.Ahead.{AreHeld, HoldsDonor}
use Rattle.reconform.proofs.takeover.Takeover.read_ahead.Given as goal

-- the rooms so far hold donors' files, and the others are as long
abbrev pub invariant-loop-n : goal.invariant-loop-n
invariant-loop-n g l = record {
  asks : AsksForDonors g.N.Work.job g.O.Work.job l.self.view.now l.from l.next (g.D.Disk.state l.fn.old).calls (g.D.Disk.state l.old).calls;
  reads : OnlyReads g.D.Disk.tells (g.D.Disk.state l.fn.old) (g.D.Disk.state l.old);
  read : (k : ℕ) (d : Room) → k < l.n → HoldsDonor g.N.Work.job g.O.Work.job g.D.Disk.tells (g.D.Disk.state l.old) l.self.donors.now.by_plan (get_or l.rooms k d);
  held : g.D.Disk.tells ≡ true → AreHeld g.N.Work.job g.O.Work.job l.self.view.now (view_of (g.D.Disk.state l.fn.old).history) l.from l.next l.reel.ledger.gates
      (λ i. (k : ℕ) × (k < l.n) × ((d : Room) → (get_or l.rooms k d).frame ≡ Some i));
  size : (k : ℕ) (d : Room) → k < length l.rooms → length (get_or l.rooms k d).bytes.items ≡ frame_size g.N.Work.job;
  next : (l.from ≤ l.next) × (l.next ≤ frames_of g.N.Work.job);
  more : 0 < l.n → l.from < frames_of g.N.Work.job → l.from < l.next;
  count : length l.rooms ≡ length l.fn.rooms;
  within : l.n ≤ length l.rooms;
  ending : l.n-end ≡ length l.rooms;
  same : (g.D.Disk.state l.old).loans ≡ (g.D.Disk.state l.fn.old).loans;
  faults : (g.D.Disk.state l.old).faults ≡ (g.D.Disk.state l.fn.old).faults;
}
