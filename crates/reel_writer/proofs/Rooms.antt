-- Rooms that files are read ahead into.
use Rattle.std.proofs.Common.{◌≡◌, ℕ, suc, ◌<◌, Bool, List, ◌∷◌, ◌++◌, length, take, drop, get_or, sym, subst, arith}
use Rattle.std.specs.Prelude.{Some, IfSome}
use Rattle.std.proofs.lemmas.List.{take_at}
use Rattle.std.proofs.lemmas.Option.{IfSome_then}
use Rattle.cf_base.specs.declared.file.FileId.{FileId}
use Rattle.frame_hash.specs.declared.Room.{Room}
use Rattle.frame_hash.specs.Rooms.{IsBegun, IsHashedOn, AreHashedOn}
use Rattle.conform_job.specs.Job.{JobData, file_of}
use Rattle.reel_disk.specs.Disk.{Moment, view_of}
use Rattle.reel_disk.specs.State.{DiskState, OnlyReads}
use Rattle.reel_writer.specs.Reads.{MakesOnly, WasReadWhole}
use Rattle.reel_writer.specs.inside.Ahead.{IsRead, AreRead}
use Rattle.reel_writer.proofs.ReadCalls.{was_still}

-- more calls are made that only read
module _ (job : JobData) (tells : Bool) (On : FileId → Type 0) (before after : DiskState) (reads : OnlyReads tells before after) (on : MakesOnly On before.calls after.calls) where
  pub one_still : (room : Room) → IsRead job tells before room → IsRead job tells after room
  one_still room is = record {
    file = λ told. subst (λ (m : Moment). IfSome room.frame (λ i. m.view (file_of job i) ≡ Some room.bytes.items)) (sym (reads.still told).same) (is.file told);
    begun = is.begun;
    read = IfSome_then room.frame is.read (λ i was. was_still On before.calls after.calls on _ was);
  }

  pub all_still : (rooms : List Room) → AreRead job tells before rooms → AreRead job tells after rooms
  all_still rooms are k d within = one_still (get_or rooms k d) (are k d within)

module _ (job : JobData) (tells : Bool) (disk : DiskState) where
  -- a room whose file is hashed on
  read_on : (size : ℕ) (before after : Room) → IsHashedOn size before after → IsRead job tells disk before → IsRead job tells disk after
  read_on size before after on is = record {
    file = λ told. subst (λ frame. IfSome frame (λ i. view_of disk.history (file_of job i) ≡ Some after.bytes.items)) (sym on.frame)
        (subst (λ bytes. IfSome before.frame (λ i. view_of disk.history (file_of job i) ≡ Some bytes)) (sym on.bytes) (is.file told));
    begun = subst (λ frame. IfSome frame (λ _. IsBegun after)) (sym on.frame) (IfSome_then before.frame is.begun (λ i. on.begun));
    read = subst (λ frame. IfSome frame (λ i. WasReadWhole (file_of job i) after.bytes.items disk.calls)) (sym on.frame)
        (subst (λ bytes. IfSome before.frame (λ i. WasReadWhole (file_of job i) bytes disk.calls)) (sym on.bytes) is.read);
  }

  -- rooms whose files are hashed on
  pub all_read_on : (size : ℕ) (before after : List Room) → AreHashedOn size before after → AreRead job tells disk before → AreRead job tells disk after
  all_read_on size before after on are k d within =
      let lt : k < length before = let count = on.count in omega (arith, count, within) in
      read_on size (get_or before k d) (get_or after k d) (on.each k d lt) (are k d lt)

  -- the rooms behind the first
  pub rest_read : (first : Room) (rest rooms : List Room) → rooms ≡ first ∷ rest → AreRead job tells disk rooms → AreRead job tells disk rest
  rest_read first rest rooms is are k d within = (subst (AreRead job tells disk) is are) (suc k) d (omega (arith, within))

  -- rooms that were lent, put back
  pub put_back : (lent rooms : List Room) (len : ℕ) → length lent ≡ len → AreRead job tells disk lent → AreRead job tells disk (take len (lent ++ drop (length lent) rooms))
  put_back lent rooms len size are = subst (AreRead job tells disk) (sym (take_at lent (drop (length lent) rooms) len size)) are
