-- Files of a reel's frames that were read ahead. All of it is this project's own rule.
--     IsRead job tells disk room       if a frame's file lies in the room, a read of that file gave it; it is the folder's, where the
--       disk tells; and its first bytes are hashed
--     AreRead job tells disk rooms     the same of each room
--     HoldsNone k rooms     no room has the file of frame k
--     IsOnceSoFar job from next before now rooms     no file was read twice since, and none of a frame from `from` on was read whole,
--       but those that lie in rooms; these are of frames before `next`
use Rattle.std.specs.Prelude.{◌≡◌, ◌≢◌, ℕ, ◌+◌, ◌<◌, ◌≤◌, Bool, true, List, Option, Some, None, IfSome, All, Result, Ok, Err}
use Rattle.frame_hash.specs.declared.Room.{Room}
use Rattle.frame_hash.specs.Rooms.{IsBegun}
use Rattle.conform_job.specs.Job.{JobData, file_of}
use Rattle.reel_disk.specs.declared.disk.DiskFault.{DiskFault}
use Rattle.reel_disk.specs.Call.{Call}
use Rattle.reel_disk.specs.Disk.{view_of}
use Rattle.reel_disk.specs.State.{DiskState}
use Rattle.reel_writer.specs.Reads.{HasNotGiven, ReadsOnce, WasReadWhole}
use Rattle.reel_writer.specs.Reel.{frames_of}

pub record IsRead (job : JobData) (tells : Bool) (disk : DiskState) (room : Room) : Type 0 where
  pub file : tells ≡ true → IfSome room.frame (λ i. view_of disk.history (file_of job i) ≡ Some room.bytes.items)
  pub begun : IfSome room.frame (λ _. IsBegun room)
  pub read : IfSome room.frame (λ i. WasReadWhole (file_of job i) room.bytes.items disk.calls)

abbrev pub AreRead : JobData → Bool → DiskState → List Room → Type 0
AreRead job tells disk rooms = All (IsRead job tells disk) rooms

abbrev pub HoldsNone : ℕ → List Room → Type 0
HoldsNone k rooms = All (λ room. room.frame ≢ Some k) rooms

abbrev pub AreBelow : ℕ → List Room → Type 0
AreBelow next rooms = All (λ room. IfSome room.frame (λ k. k < next)) rooms

pub record IsOnceSoFar (job : JobData) (from next : ℕ) (before now : List Call) (rooms : List Room) : Type 0 where
  pub once : ReadsOnce before now
  pub fresh : (k : ℕ) → from ≤ k → HoldsNone k rooms → HasNotGiven (file_of job k) once.since
  pub below : AreBelow next rooms
  pub within : next ≤ frames_of job

-- behind a step: where the next file is looked for, or a fault
abbrev pub IsOnceStill : JobData → ℕ → (before now : List Call) → List Room → Result ℕ DiskFault → Type 0
IsOnceStill job from before now rooms (Ok next) = IsOnceSoFar job from next before now rooms
IsOnceStill job from before now rooms (Err fault) = ReadsOnce before now

-- behind the digest of frame i, or where no room has its file
abbrev pub IsOnceTaken : JobData → (i next : ℕ) → (before now : List Call) → List Room → Option (List ℕ) → Type 0
IsOnceTaken job i next before now rooms (Some digest) = IsOnceSoFar job (i + 1) next before now rooms
IsOnceTaken job i next before now rooms None = IsOnceSoFar job i next before now rooms × HoldsNone i rooms
