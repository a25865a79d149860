-- Files of donors that were read ahead, and what is made of them. All of it is this project's own rule.
--     HoldsDonor     if a frame's room isn't free, the file of the frame's donor lies there
--     IsKept         the frame has a donor, and a digest that is the donor's where the old folder keeps one
--     HoldsFrame     if it isn't free, the frame's own file lies there, made of an intact donor's
--     CanFinish      the same, and its first bytes are hashed
--     AreReady       all of some rooms can be finished
use Rattle.std.specs.Prelude.{◌≡◌, ◌⊎◌, ℕ, ◌<◌, ◌≤◌, Bool, true, false, List, length, slice_index_or, All, Option, Some, IfSome}
use Rattle.std.specs.BTreeMap.{BTreeMap}
use Rattle.frame_hash.specs.Rooms.{IsBegun}
use Rattle.frame_hash.specs.declared.Room.{Room}
use Rattle.scan_source.specs.World.{World}
use Rattle.conform_job.specs.Job.{JobData, file_of}
use Rattle.frame_render.specs.Frame.{IsFileOf, frame_size}
use Rattle.reel_disk.specs.Disk.{Files, view_of}
use Rattle.reel_disk.specs.State.{DiskState}
use Rattle.resume_ledger.specs.Look.{ViewState, hash_at}
use Rattle.reel_writer.specs.Reads.{WasReadWhole}
use Rattle.reel_writer.specs.Reel.{frames_of}
use Rattle.reconform.specs.Donor.{HasIntactDonor}
use Rattle.reconform.specs.inside.Donor.{donor_in}
use Rattle.reconform.specs.Plan.{plan_at}
use Rattle.reconform.specs.Taken.{IsTakenOver}
use Rattle.reconform.specs.declared.plan.FramePlan.{FramePlan}

-- `held` is the old folder: its files, where it tells them, and the calls that were made on it.
pub record HoldsDonor (new old : JobData) (tells : Bool) (held : DiskState) (by_plan : BTreeMap FramePlan ℕ) (room : Room) : Type 0 where
  pub size : length room.bytes.items ≡ frame_size new
  pub within : IfSome room.frame (λ i. i < frames_of new)
  pub file : IfSome room.frame (λ i. tells ≡ true
      → IfSome (donor_in by_plan (plan_at new i)) (λ j. view_of held.history (file_of old j) ≡ Some room.bytes.items))
  pub read : IfSome room.frame (λ i.
      IfSome (donor_in by_plan (plan_at new i)) (λ j. WasReadWhole (file_of old j) room.bytes.items held.calls))
  pub begun : IsBegun room

pub record IsKept (new : JobData) (view : ViewState) (by_plan : BTreeMap FramePlan ℕ) (i : ℕ) (digest : List ℕ) : Type 0 where
  pub donor : ℕ
  pub is : donor_in by_plan (plan_at new i) ≡ Some donor
  pub kept : IfSome (hash_at view donor) (λ hash. hash ≡ digest)

pub record HoldsFrame (new old : JobData) (told : Option World) (tells : Bool) (view : ViewState)
    (held : DiskState) (room : Room) : Type 0 where
  pub size : length room.bytes.items ≡ frame_size new
  pub within : IfSome room.frame (λ i. i < frames_of new)
  pub donor : IfSome room.frame (λ i. tells ≡ true → HasIntactDonor new old view (view_of held.history) i)
  pub file : IfSome room.frame (λ i. IsFileOf new told i room.bytes.items)
  pub taken : IfSome room.frame (λ i. IsTakenOver new old view held.calls (file_of new i) room.bytes.items)

pub record CanFinish (new old : JobData) (told : Option World) (tells : Bool) (view : ViewState) (held : DiskState)
    (room : Room) : Type 0 where
  pub holds : HoldsFrame new old told tells view held room
  pub begun : IsBegun room

abbrev pub AreReady : JobData → JobData → Option World → Bool → ViewState → DiskState → List Room → Type 0
AreReady new old told tells view held rooms = All (CanFinish new old told tells view held) rooms

abbrev pub HasRoom : ℕ → List Room → Type 0
HasRoom i rooms = (n : ℕ) × (n < length rooms) × ((d : Room) → (slice_index_or rooms n d).frame ≡ Some i)

-- Of the frames from one to another each that has an intact donor is acknowledged, or is held.
abbrev pub AreHeld : JobData → JobData → ViewState → Files → (low high : ℕ) → (gates : List Bool) → (IsHeld : ℕ → Type 0) → Type 0
AreHeld new old view files low high gates IsHeld = (i : ℕ) → low ≤ i → i < high → HasIntactDonor new old view files i
    → (slice_index_or gates i false ≡ true) ⊎ IsHeld i
