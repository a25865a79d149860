-- How far an adoption is, step by step.
use Rattle.std.proofs.Common.{◌≡◌, inl, inr, ℕ, ◌<◌, ◌≤◌, Bool, true, false, List, get_or, length, refl, sym, ap, ◌∙◌, subst, arith}
use Rattle.std.specs.Prelude.{Some}
use Rattle.frame_hash.specs.declared.Room.{Room}
use Rattle.frame_hash.specs.Rooms.{AreHashedOn}
use Rattle.conform_job.specs.Job.{JobData}
use Rattle.reel_disk.specs.Disk.{Files}
use Rattle.resume_ledger.specs.Look.{ViewState}
use Rattle.reel_writer.specs.Reel.{frames_of}
use Rattle.reconform.specs.Donor.{HasIntactDonor}
use Rattle.reconform.specs.declared.whole.Reached.{Reached}
use Rattle.reconform.specs.inside.Ahead.{AreHeld, HasRoom}
use Rattle.reconform.specs.inside.Parts.{IsFurther, IsInOrder, IsUnderWay, half_of}
use Rattle.reconform.proofs.Holding.{held_still, held_within}

-- a file stays in its room while it is hashed
pub room_hashed : {size : ℕ} {before after : List Room} (k : ℕ) → AreHashedOn size before after → HasRoom k before → HasRoom k after
room_hashed {before = before} k on has =
    let lt = has.1 in
    let count = on.count in
    (has.0, omega (arith, lt, count), λ d. (on.each has.0 d has.1).frame ∙ has.2 d)

-- the old folder is as it was
pub under_way_along : {new old : JobData} {tells : Bool} {view : ViewState} {files later : Files} {gates : List Bool} {at : Reached} {made read : List Room}
    → (tells ≡ true → files ≡ later) → IsUnderWay new old tells view files gates at made read → IsUnderWay new old tells view later gates at made read
under_way_along {new = new} {old = old} {view = view} {gates = gates} {at = at} {made = made} {read = read} same was = record {
  order = was.order;
  made_held = λ told. subst (λ (all : Files). AreHeld new old view all at.adopted at.made gates (λ i. HasRoom i made)) (same told) (was.made_held told);
  read_held = λ told. subst (λ (all : Files). AreHeld new old view all at.made at.read gates (λ i. HasRoom i read)) (same told) (was.read_held told);
}

-- after the first half of a step
pub half_order : (count : ℕ) (at : Reached) → IsInOrder count at → IsInOrder count (half_of at)
half_order count at order =
    let adopted = order.adopted in
    record { adopted = omega (arith, adopted); made = order.made; read = order.read }

module _ {new old : JobData} {tells : Bool} {view : ViewState} {files : Files} {before after : List Bool} (at : Reached) {made read : List Room}
    (grows : (k : ℕ) → get_or before k false ≡ true → get_or after k false ≡ true) (was : IsUnderWay new old tells view files before at made read) where
  pub half_under_way : {made_after read_after : List Room} → ((k : ℕ) → (half_of at).adopted ≤ k → HasRoom k made → HasRoom k made_after)
      → (tells ≡ true → (k : ℕ) → HasIntactDonor new old view files k → HasRoom k read → HasRoom k read_after)
      → IsUnderWay new old tells view files after (half_of at) made_after read_after
  half_under_way left stays = record {
    order = half_order (frames_of new) at was.order;
    made_held = λ told. held_still new old view files (half_of at).adopted at.made before after _ _ grows (λ k late has room. left k late room)
        (held_within new old view files at.adopted (half_of at).adopted at.made at.made before _ (omega arith) (omega arith) (was.made_held told));
    read_held = λ told. held_still new old view files at.made at.read before after _ _ grows (λ k late has room. stays told k has room) (was.read_held told);
  }

  -- and after a whole one
  pub whole_under_way : (next : ℕ) {made_after read_after : List Room} → IsFurther (frames_of new) at.read next → ((k : ℕ) → HasRoom k read → HasRoom k read_after)
      → (tells ≡ true → AreHeld new old view files at.read next after (λ k. HasRoom k made_after))
      → IsUnderWay new old tells view files after (record { adopted = at.made; made = at.read; read = next }) read_after made_after
  whole_under_way next further stays held = record {
    order = record { adopted = was.order.made; made = further.later; read = further.within };
    made_held = λ told. held_still new old view files at.made at.read before after _ _ grows (λ k late has room. stays k room) (was.read_held told);
    read_held = held;
  }
