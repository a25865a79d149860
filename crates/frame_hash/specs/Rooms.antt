-- Files that lie in rooms, and their digests (FIPS 180-4).
-- * files read ahead: files that lie in rooms, and how much of them is hashed; of a reel's frames, the folder's file and its digest
--     IsFree len room            no file lies in it, and it has room for that many bytes
--     IsFresh room               nothing is hashed of what lies in it
--     IsBegun room               its first bytes are hashed, as many as it says
--     IsHashedOn size before after      the same file, of which so many bytes more are hashed, or all that were left
use Rattle.std.specs.Prelude.{◌≡◌, ℕ, ◌<◌, ◌≤◌, ◌+◌, min, List, [], None, length, take, slice_index_or, IsSome}
use Rattle.sha2.specs.Hashers.{Holds256}
use Rattle.frame_hash.specs.declared.Room.{Room}

pub record IsFresh (room : Room) : Type 0 where
  pub none : room.done ≡ 0
  pub holds : Holds256 room.hasher []

pub record IsFree (len : ℕ) (room : Room) : Type 0 where
  pub none : room.frame ≡ None
  pub size : length room.bytes.items ≡ len
  pub fresh : IsFresh room

pub record IsBegun (room : Room) : Type 0 where
  pub within : room.done ≤ length room.bytes.items
  pub holds : Holds256 room.hasher (take room.done room.bytes.items)

-- Nothing is done in a free room.
pub record IsHashedOn (size : ℕ) (before after : Room) : Type 0 where
  pub frame : after.frame ≡ before.frame
  pub bytes : after.bytes.items ≡ before.bytes.items
  pub begun : IsBegun before → IsBegun after
  pub done : IsSome before.frame → IsBegun before → after.done ≡ min (length before.bytes.items) (before.done + size)

pub record AreHashedOn (size : ℕ) (before after : List Room) : Type 0 where
  pub count : length after ≡ length before
  pub each : (k : ℕ) (d : Room) → k < length before → IsHashedOn size (slice_index_or before k d) (slice_index_or after k d)
