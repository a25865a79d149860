use Rattle.std.proofs.Common.{◌≡◌, ℕ, ◌<◌, ◌≤◌, length, true, get_or}
use Rattle.std.specs.Prelude.{Some}
use Rattle.frame_hash.specs.declared.Room.{Room}
use Rattle.reel_disk.specs.Disk.{view_of}
use Rattle.reconform.specs.Donor.{HasIntactDonor}
use Rattle.reconform.specs.inside.Ahead.{CanFinish}
use Rattle.reconform.proofs.takeover.Takeover.dress_all.Given as goal

-- the rooms so far hold frames, and the others are as they were
abbrev pub invariant-loop-n : goal.invariant-loop-n
invariant-loop-n g l = record {
  frames : (k : ℕ) (d : Room) → k < l.n → CanFinish g.N.Work.job g.O.Work.job g.N.Work.files g.D.Disk.tells l.self.view.now (g.D.Disk.state l._old) (get_or l.rooms k d);
  stays : g.D.Disk.tells ≡ true → (i : ℕ) → HasIntactDonor g.N.Work.job g.O.Work.job l.self.view.now (view_of (g.D.Disk.state l._old).history) i
      → (k : ℕ) → k < l.n → ((d : Room) → (get_or l.fn.rooms k d).frame ≡ Some i) → (d : Room) → (get_or l.rooms k d).frame ≡ Some i;
  left : (k : ℕ) (d : Room) → l.n ≤ k → get_or l.rooms k d ≡ get_or l.fn.rooms k d;
  count : length l.rooms ≡ length l.fn.rooms;
  within : l.n ≤ length l.rooms;
  ending : l.n-end ≡ length l.rooms;
}
