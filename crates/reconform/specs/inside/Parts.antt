-- What a part of an adoption has to find, and what it does to the new folder. All of it is this project's own rule.
--     WasLookedAt      the old folder, where a view of its ledger was had
--     HasDonors      two jobs that are alike, and the map of their donors
--     IsPart      what a part does to the new folder once that is open
--     IsFinish      the same of a finish, and the bytes that it wrote
--     CanTake      what is known where frames are taken over
--     TakesSome      what some frames that are taken over do to both folders
--     IsInOrder, IsUnderWay      how far an adoption is, and that each frame that is to be taken over has a room
--     half_of      how far it is after the first half of a step
--     IsFurther, HasGoneOn      how far it is after a whole one
--     HasServed      what is done for one frame
--     HasServedTo      what is done for some in order
--     HasAdopted      what the frames that are taken over do to both folders
use Rattle.std.specs.Prelude.{◌≡◌, ℕ, ◌+◌, ◌-◌, ◌/◌, ◌<◌, ◌≤◌, Bool, true, false, List, length, Option, IfSome, Result, OnOk, IfErr, IsErr}
use Rattle.std.specs.BTreeMap.{BTreeMap}
use Rattle.scan_source.specs.World.{World}
use Rattle.conform_job.specs.Job.{JobData, file_of}
use Rattle.frame_hash.specs.declared.Room.{Room}
use Rattle.reel_disk.specs.Call.{Call, OnlyWrites}
use Rattle.reel_disk.specs.Disk.{Files, view_of}
use Rattle.reel_disk.specs.Runs.{Spares}
use Rattle.reel_disk.specs.State.{DiskState, OnlyReads}
use Rattle.reel_disk.specs.declared.disk.DiskFault.{DiskFault}
use Rattle.resume_ledger.specs.Look.{ViewState, IsViewOf}
use Rattle.reel_writer.specs.inside.Changes.{IsUnfinishedFile}
use Rattle.reel_writer.specs.Reads.{MakesOnly}
use Rattle.reel_writer.specs.Reel.{frames_of, IsReelRun, IsRunFile, KeepsReel}
use Rattle.reel_writer.specs.View.{ReelView}
use Rattle.reconform.specs.Adopt.{CanServe, LeavesBoth}
use Rattle.reconform.specs.inside.Adopt.{AreServed, IsReelServed, IsSameReel, IsServed, IsStop}
use Rattle.reconform.specs.inside.Ahead.{AreHeld, HasRoom}
use Rattle.reconform.specs.inside.Asking.{AnyFile}
use Rattle.reconform.specs.inside.Donor.{AreLeast}
use Rattle.reconform.specs.Laws.{HasTitle}
use Rattle.reconform.specs.Plan.{AreAlike}
use Rattle.reconform.specs.Taken.{IsTakenOver, OnlyMakes, TakesOnly}
use Rattle.reconform.specs.declared.adopting.AdoptFault.{AdoptFault}
use Rattle.reconform.specs.declared.plan.FramePlan.{FramePlan}
use Rattle.reconform.specs.declared.whole.Reached.{Reached}

-- The ledger of the old folder is as the view says. Where the source files are told, the folder can serve.
pub record WasLookedAt (new old : JobData) (told : Option World) (tells : Bool) (files : Files) (view : ViewState) : Type 0 where
  pub can_serve : IfSome told (λ world. CanServe new old world tells files)
  pub viewed : tells ≡ true → IsViewOf old.parts.digest (frames_of old) files view
  pub flags : length view.gates ≡ frames_of old

-- The jobs are alike, and the map has the least acknowledged frame of each plan.
pub record HasDonors (new old : JobData) (acked : List Bool) (by_plan : BTreeMap FramePlan ℕ) : Type 0 where
  pub alike : AreAlike new old
  pub titles : HasTitle new × HasTitle old
  pub least : AreLeast old acked (frames_of old) by_plan

-- What is known where frames are taken over: the two jobs, the old folder, and the donors.
pub record CanTake (new old : JobData) (told : Option World) (tells : Bool) (files : Files) (new_job old_job : JobData)
    (view : ViewState) (by_plan : BTreeMap FramePlan ℕ) : Type 0 where
  pub new_is : new_job ≡ new
  pub old_is : old_job ≡ old
  pub looked : WasLookedAt new old told tells files view
  pub donors : HasDonors new old view.gates by_plan

-- What a part does to the new folder, from where these frames were acknowledged: a crash at any moment leaves only frames
-- acknowledged that are the reel's, no acknowledgement is lost, and no file is changed but the ledger's and those of the other
-- frames; over every disk it writes no file but a run's.
pub record IsPart (job : JobData) (told : Option World) (tells : Bool) (gates : List Bool) (before after : DiskState) : Type 0 where
  pub run : tells ≡ true → IsReelRun job told before.history after.history
  pub none_lost : tells ≡ true → KeepsReel job before.history after.history
  pub spares : tells ≡ true → Spares before.history after.history (IsUnfinishedFile job gates)
  pub own : OnlyWrites (IsRunFile job 0 (frames_of job)) before.calls after.calls

-- The part of one frame whose gate was closed: the bytes of its file are these.
pub record IsFinish (job : JobData) (told : Option World) (tells : Bool) (gates : List Bool) (i : ℕ) (bytes : List ℕ)
    (before after : DiskState) : Type 0 where
  pub part : IsPart job told tells gates before after
  pub made : OnlyMakes (λ q written. (q ≡ file_of job i) × (written ≡ bytes)) before.calls after.calls

-- Calls were made on the old folder, and each file that was written in the new one is the ledger's, or that of a frame that is taken
-- over by what these calls gave.
pub record TakesSome (new old : JobData) (view : ViewState) (old_before old_after before after : List Call) : Type 0 where
  pub read : MakesOnly AnyFile old_before old_after
  pub made : OnlyMakes (IsTakenOver new old view old_after) before after

-- how far an adoption is, in order
pub record IsInOrder (count : ℕ) (at : Reached) : Type 0 where
  pub adopted : at.adopted ≤ at.made
  pub made : at.made ≤ at.read
  pub read : at.read ≤ count

-- How far an adoption is. Each frame that is to be taken over has a room, if its file is made or its donor is read.
pub record IsUnderWay (new old : JobData) (tells : Bool) (view : ViewState) (files : Files) (gates : List Bool) (at : Reached)
    (made read : List Room) : Type 0 where
  pub order : IsInOrder (frames_of new) at
  pub made_held : tells ≡ true → AreHeld new old view files at.adopted at.made gates (λ i. HasRoom i made)
  pub read_held : tells ≡ true → AreHeld new old view files at.made at.read gates (λ i. HasRoom i read)

-- half of the frames whose files are made are adopted
abbrev pub half_of : Reached → Reached
half_of at = record { adopted = at.adopted + (at.made - at.adopted) / 2; made = at.made; read = at.read }

-- the next frame lies behind, if there is one
pub record IsFurther (count from next : ℕ) : Type 0 where
  pub later : from ≤ next
  pub within : next ≤ count
  pub more : from < count → from < next

-- The frames whose files were made are adopted, those whose donors were read have files now, and the next donors are read.
pub record HasGoneOn (count : ℕ) (at to : Reached) : Type 0 where
  pub adopted : to.adopted ≡ at.made
  pub made : to.made ≡ at.read
  pub read : IsFurther count at.read to.read

-- What is done for one frame: it is taken over if it isn't acknowledged and has an intact donor, and nothing else of the reel is
-- changed; the old folder is only read, and a fault of one of the two disks has its cause.
pub record HasServed {D E : Type 0} (new old : JobData) (told : Option World)
    (tells : Bool) (state : D → DiskState)
    (reel_tells : Bool) (reel_state : E → DiskState)
    (view : ViewState) (i : ℕ) (result : Result (Unit {0}) DiskFault)
    (disk disk_after : D) (reel reel_after : ReelView E) : Type 0 where
  pub served : OnOk result (tells ≡ true
      → IsServed new old view (view_of (state disk).history) i reel.ledger.gates reel_after.ledger.gates)
  pub stays : IsSameReel reel reel_after
  pub stays_open : OnOk result (reel_after.ledger.closed ≡ false)
  pub part : IsPart new told reel_tells reel.ledger.gates (reel_state reel.disk) (reel_state reel_after.disk)
  pub taken : TakesSome new old view (state disk).calls (state disk_after).calls
      (reel_state reel.disk).calls (reel_state reel_after.disk).calls
  pub reads : OnlyReads tells (state disk) (state disk_after)
  pub disks : LeavesBoth (IsErr result) (state disk) (state disk_after) (reel_state reel.disk) (reel_state reel_after.disk)

-- The same for the frames from one to another: where those before them are served, so are they.
pub record HasServedTo {D E T : Type 0} (new old : JobData) (told : Option World)
    (tells : Bool) (state : D → DiskState)
    (reel_tells : Bool) (reel_state : E → DiskState)
    (view : ViewState) (from to : ℕ) (result : Result T DiskFault)
    (disk disk_after : D) (reel reel_after : ReelView E) : Type 0 where
  pub served : OnOk result (tells ≡ true
      → (gates : List Bool) → AreServed new old view (view_of (state disk).history) from gates reel.ledger.gates
      → AreServed new old view (view_of (state disk).history) to gates reel_after.ledger.gates)
  pub stays : IsSameReel reel reel_after
  pub stays_open : OnOk result (reel_after.ledger.closed ≡ false)
  pub part : IsPart new told reel_tells reel.ledger.gates (reel_state reel.disk) (reel_state reel_after.disk)
  pub taken : TakesSome new old view (state disk).calls (state disk_after).calls
      (reel_state reel.disk).calls (reel_state reel_after.disk).calls
  pub reads : OnlyReads tells (state disk) (state disk_after)
  pub disks : LeavesBoth (IsErr result) (state disk) (state disk_after) (reel_state reel.disk) (reel_state reel_after.disk)

-- Each frame that isn't acknowledged and has an intact donor is taken over, and nothing else of the reel is changed; the old
-- folder is only read. It ends before where memory or a disk fails.
pub record HasAdopted {D E : Type 0} (new old : JobData) (told : Option World)
    (tells : Bool) (state : D → DiskState) (reel_tells : Bool) (reel_state : E → DiskState)
    (view : ViewState) (result : Result (Unit {0}) AdoptFault) (disk disk_after : D) (reel reel_after : ReelView E) : Type 0 where
  pub served : OnOk result (tells ≡ true → IsReelServed new old view (view_of (state disk).history) reel reel_after)
  pub stays : IsSameReel reel reel_after
  pub stays_open : OnOk result (reel_after.ledger.closed ≡ false)
  pub end : IfErr result IsStop
  pub part : IsPart new told reel_tells reel.ledger.gates (reel_state reel.disk) (reel_state reel_after.disk)
  pub taken : TakesOnly new old view (state disk).calls (state disk_after).calls
      (reel_state reel.disk).calls (reel_state reel_after.disk).calls
  pub reads : OnlyReads tells (state disk) (state disk_after)
