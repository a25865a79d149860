-- What is made of a donor's file that was read ahead.
use Rattle.std.proofs.Common.{◌≡◌, inl, inr, ℕ, ◌+◌, ◌*◌, ◌<◌, Bool, true, List, get_or, set, length, drop, take, refl, sym, ap, ◌∙◌, subst, arith, Option}
use Rattle.std.specs.Prelude.{All, Some, None, IfSome}
use Rattle.std.specs.BTreeMap.{BTreeMap}
use Rattle.std.proofs.lemmas.Bool.{cases_eq}
use Rattle.std.proofs.lemmas.List.{get_or-set_same, get_or-set_other}
use Rattle.std.proofs.lemmas.List.Elements.{All-set}
use Rattle.sha2.specs.Sha256.{sha256}
use Rattle.scan_source.specs.World.{World, file_at}
use Rattle.frame_hash.specs.declared.Room.{Room}
use Rattle.frame_hash.specs.Rooms.{IsFree, IsFresh, IsBegun, IsHashedOn, AreHashedOn}
use Rattle.sha2.specs.Hashers.{Holds256}
use Rattle.conform_job.specs.Job.{JobData, file_of}
use Rattle.cf_base.specs.declared.file.FileId.{FileId}
use Rattle.frame_render.specs.Frame.{IsFileOf, frame_file, frame_size}
use Rattle.reel_disk.specs.Call.{Call}
use Rattle.reel_disk.specs.Disk.{Files, Moment, view_of}
use Rattle.reel_disk.specs.State.{DiskState, OnlyReads}
use Rattle.resume_ledger.specs.Look.{ViewState, hash_at}
use Rattle.reel_writer.specs.Reads.{MakesOnly, ReadsWhole, WasReadWhole}
use Rattle.reel_writer.specs.Reel.{frames_of}
use Rattle.reel_writer.proofs.ReadCalls.{was_now, was_still}
use Rattle.reconform.specs.inside.Ahead.{IsKept, HoldsDonor, CanFinish}
use Rattle.reconform.specs.Donor.{HasIntactDonor, IsOfHash}
use Rattle.reconform.specs.inside.Donor.{IsLeast, donor_in}
use Rattle.reconform.specs.inside.Parts.{HasDonors, WasLookedAt}
use Rattle.reconform.specs.Plan.{AreAlike, plan_at}
use Rattle.reconform.specs.declared.plan.FramePlan.{FramePlan}
use Rattle.reconform.specs.Taken.{IsTakenOver, WasDonorRead}
use Rattle.reconform.proofs.Serving.{has_donor, least_here, served_pixels}
use Rattle.reconform.proofs.Taking.{taken_later}

-- the donor that a map has of a frame
module _ (new old : JobData) (view : ViewState) (by_plan : BTreeMap FramePlan ℕ) (i j : ℕ) (donors : HasDonors new old view.gates by_plan) (is : donor_in by_plan (plan_at new i) ≡ Some j) where
  pub least_of : IsLeast old view.gates (frames_of old) (plan_at new i) (Some j)
  least_of = least_here old view.gates (frames_of old) by_plan (plan_at new i) (plan_at new i) (Some j) donors.least refl (sym is)

-- what a read of its file gives
pub donor_read : (id q : FileId) → q ≡ id → (file bytes : List ℕ) → bytes ≡ file → (before after : List Call) → ReadsWhole q file before after → WasReadWhole id bytes after
donor_read id q named file bytes same before after made = was_now (ReadsWhole id bytes) before after (subst (λ (read : FileId × List ℕ). ReadsWhole read.0 read.1 before after) (λ t. (named t, sym same t)) made)

pub kept_as : (kept : Option (List ℕ)) (digest bytes : List ℕ) → IfSome kept (λ hash. hash ≡ digest) → digest ≡ sha256 bytes → IsOfHash kept bytes
kept_as None digest bytes same made = tt
kept_as (Some hash) digest bytes same made = same ∙ made

module _ (new old : JobData) (told : Option World) (tells : Bool) (files : Files) (view : ViewState) (by_plan : BTreeMap FramePlan ℕ) (i : ℕ) (bytes digest : List ℕ)
    (donors : HasDonors new old view.gates by_plan) (kept : IsKept new view by_plan i digest)
    (read : tells ≡ true → IfSome (donor_in by_plan (plan_at new i)) (λ j. files (file_of old j) ≡ Some bytes)) where
  pub read_of : tells ≡ true → files (file_of old kept.donor) ≡ Some bytes
  read_of is = subst (λ found. IfSome found (λ j. files (file_of old j) ≡ Some bytes)) kept.is (read is)

  -- a donor of which the digest is kept is intact
  pub dressed_donor : digest ≡ sha256 bytes → length bytes ≡ frame_size old → tells ≡ true → HasIntactDonor new old view files i
  dressed_donor made long is = record {
    donor = kept.donor;
    is = has_donor new old view files i (frames_of old) refl kept.donor donors.alike (least_of new old view by_plan i kept.donor donors kept.is);
    intact = record { bytes = bytes; there = read_of is; long = long; hash = kept_as (hash_at view kept.donor) digest bytes kept.kept made };
  }

  -- over every disk its bytes are what a read gave
  pub dressed_read : (calls : List Call) → IfSome (donor_in by_plan (plan_at new i)) (λ j. WasReadWhole (file_of old j) bytes calls)
      → digest ≡ sha256 bytes → length bytes ≡ frame_size new → WasDonorRead new old view calls i bytes
  dressed_read calls was made long = record {
    donor = kept.donor;
    is = has_donor new old view files i (frames_of old) refl kept.donor donors.alike (least_of new old view by_plan i kept.donor donors kept.is);
    read = subst (λ found. IfSome found (λ j. WasReadWhole (file_of old j) bytes calls)) kept.is was;
    size = long;
    hash = kept_as (hash_at view kept.donor) digest bytes kept.kept made;
  }

  -- its pixels are the frame's
  pub dressed_pixels : WasLookedAt new old told tells files view → IfSome told (λ world. drop 2048 bytes ≡ drop 2048 (frame_file new (file_at world) i))
  dressed_pixels looked =
      let least = least_of new old view by_plan i kept.donor donors kept.is in
      served_pixels new old told tells files view i kept.donor bytes looked.can_serve looked.viewed donors.alike donors.titles least.1 least.2 read_of

-- frames of alike jobs have one size
pub sizes_alike : (new old : JobData) → AreAlike new old → frame_size new ≡ frame_size old
sizes_alike new old alike = ap (λ n. 2048 + 4 * n) (λ t. alike.width t * alike.height t)

-- where nothing is hashed, whatever lies there
pub fresh_begun : (room : Room) → IsFresh room → IsBegun room
fresh_begun room fresh = record {
  within = let none = fresh.none in omega (arith, none);
  holds = subst (λ n. Holds256 room.hasher (take n room.bytes.items)) (sym fresh.none) fresh.holds;
}

-- a free room can be finished, as there is nothing in it
pub free_can_finish : (new old : JobData) (told : Option World) (tells : Bool) (view : ViewState) (held : DiskState) (room : Room) → IsFree (frame_size new) room → CanFinish new old told tells view held room
free_can_finish new old told tells view held room free = record {
  holds = record {
    size = free.size;
    within = subst (λ frame. IfSome frame (λ i. i < frames_of new)) (sym free.none) tt;
    donor = subst (λ frame. IfSome frame (λ i. tells ≡ true → HasIntactDonor new old view (view_of held.history) i)) (sym free.none) tt;
    file = subst (λ frame. IfSome frame (λ i. IsFileOf new told i room.bytes.items)) (sym free.none) tt;
    taken = subst (λ frame. IfSome frame (λ i. IsTakenOver new old view held.calls (file_of new i) room.bytes.items)) (sym free.none) tt;
  };
  begun = fresh_begun room free.fresh;
}

-- one room more has a property
pub more_rooms : (P : Room → Type 0) (rooms : List Room) (n : ℕ) (room : Room) → n < length rooms → ((k : ℕ) (d : Room) → k < n → P (get_or rooms k d)) → P room
    → (k : ℕ) (d : Room) → k < n + 1 → P (get_or (set rooms n room) k d)
more_rooms P rooms n room lt before here k d within = elim (cases_eq k n) [
  | inl same ↦ subst (λ m. P (get_or (set rooms n room) m d)) (sym same) (subst P (sym (get_or-set_same rooms n room d lt)) here)
  | inr other ↦ subst P (sym (get_or-set_other rooms n k room d other)) (before k d (omega (arith, within, other)))
]

-- no donor's file lies in a free room
pub free_donor : (new old : JobData) (tells : Bool) (held : DiskState) (by_plan : BTreeMap FramePlan ℕ) (room : Room) → IsFree (frame_size new) room → HoldsDonor new old tells held by_plan room
free_donor new old tells held by_plan room free = record {
  size = free.size;
  within = subst (λ frame. IfSome frame (λ i. i < frames_of new)) (sym free.none) tt;
  file = subst (λ frame. IfSome frame (λ i. tells ≡ true → IfSome (donor_in by_plan (plan_at new i)) (λ j. view_of held.history (file_of old j) ≡ Some room.bytes.items))) (sym free.none) tt;
  read = subst (λ frame. IfSome frame (λ i. IfSome (donor_in by_plan (plan_at new i)) (λ j. WasReadWhole (file_of old j) room.bytes.items held.calls))) (sym free.none) tt;
  begun = fresh_begun room free.fresh;
}

-- a file stays as it was while it is hashed
module _ (size : ℕ) (before after : Room) (is : IsHashedOn size before after) where
  same_room : (P : Option ℕ → List ℕ → Type 0) → P before.frame before.bytes.items → P after.frame after.bytes.items
  same_room P h = subst (λ (room : Option ℕ × List ℕ). P room.0 room.1) (λ t. (sym is.frame t, sym is.bytes t)) h

  donor_on : (new old : JobData) (tells : Bool) (held : DiskState) (by_plan : BTreeMap FramePlan ℕ) → HoldsDonor new old tells held by_plan before → HoldsDonor new old tells held by_plan after
  donor_on new old tells held by_plan holds = record {
    size = ap length is.bytes ∙ holds.size;
    within = same_room (λ frame bytes. IfSome frame (λ i. i < frames_of new)) holds.within;
    file = same_room (λ frame bytes. IfSome frame (λ i. tells ≡ true → IfSome (donor_in by_plan (plan_at new i)) (λ j. view_of held.history (file_of old j) ≡ Some bytes))) holds.file;
    read = same_room (λ frame bytes. IfSome frame (λ i. IfSome (donor_in by_plan (plan_at new i)) (λ j. WasReadWhole (file_of old j) bytes held.calls))) holds.read;
    begun = is.begun holds.begun;
  }

  finish_on : (new old : JobData) (told : Option World) (tells : Bool) (view : ViewState) (held : DiskState) → CanFinish new old told tells view held before → CanFinish new old told tells view held after
  finish_on new old told tells view held can = record {
    holds = record {
      size = ap length is.bytes ∙ can.holds.size;
      within = same_room (λ frame bytes. IfSome frame (λ i. i < frames_of new)) can.holds.within;
      donor = same_room (λ frame bytes. IfSome frame (λ i. tells ≡ true → HasIntactDonor new old view (view_of held.history) i)) can.holds.donor;
      file = same_room (λ frame bytes. IfSome frame (λ i. IsFileOf new told i bytes)) can.holds.file;
      taken = same_room (λ frame bytes. IfSome frame (λ i. IsTakenOver new old view held.calls (file_of new i) bytes)) can.holds.taken;
    };
    begun = is.begun can.begun;
  }

module _ (size : ℕ) (before after : List Room) (on : AreHashedOn size before after) where
  pub donors_on : (new old : JobData) (tells : Bool) (held : DiskState) (by_plan : BTreeMap FramePlan ℕ) → All (HoldsDonor new old tells held by_plan) before → All (HoldsDonor new old tells held by_plan) after
  donors_on new old tells held by_plan are k d within =
      let lt : k < length before = let count = on.count in omega (arith, count, within) in
      donor_on size (get_or before k d) (get_or after k d) (on.each k d lt) new old tells held by_plan (are k d lt)

  pub ready_on : (new old : JobData) (told : Option World) (tells : Bool) (view : ViewState) (held : DiskState) → All (CanFinish new old told tells view held) before → All (CanFinish new old told tells view held) after
  ready_on new old told tells view held are k d within =
      let lt : k < length before = let count = on.count in omega (arith, count, within) in
      finish_on size (get_or before k d) (get_or after k d) (on.each k d lt) new old told tells view held (are k d lt)

-- rooms that can be finished
module _ (new old : JobData) (told : Option World) (tells : Bool) (view : ViewState) (held : DiskState) where
  -- one room is free now
  pub freed : (rooms : List Room) (n : ℕ) (room : Room) → IsFree (frame_size new) room → All (CanFinish new old told tells view held) rooms → All (CanFinish new old told tells view held) (set rooms n room)
  freed rooms n room free all = All-set (CanFinish new old told tells view held) rooms n room (free_can_finish new old told tells view held room free) all

-- a folder that is only read serves as it did
pub same_view : {tells : Bool} {held later : DiskState} → OnlyReads tells held later → tells ≡ true → view_of held.history ≡ view_of later.history
same_view reads is = sym (ap (λ (m : Moment). m.view) (reads.still is).same)

module _ {new old : JobData} {tells : Bool} {held later : DiskState} (reads : OnlyReads tells held later) {On : FileId → Type 0} (on : MakesOnly On held.calls later.calls) where
  finish_later : {told : Option World} {view : ViewState} (room : Room) → CanFinish new old told tells view held room → CanFinish new old told tells view later room
  finish_later {view = view} room was = record {
    holds = record {
      size = was.holds.size;
      within = was.holds.within;
      donor = along room.frame was.holds.donor;
      file = was.holds.file;
      taken = more room.frame was.holds.taken;
    };
    begun = was.begun;
  }
    where
      along : (frame : Option ℕ) → IfSome frame (λ i. tells ≡ true → HasIntactDonor new old view (view_of held.history) i) → IfSome frame (λ i. tells ≡ true → HasIntactDonor new old view (view_of later.history) i)
      along None donor = tt
      along (Some i) donor = λ is. subst (λ (all : Files). HasIntactDonor new old view all i) (same_view reads is) (donor is)

      more : (frame : Option ℕ) → IfSome frame (λ i. IsTakenOver new old view held.calls (file_of new i) room.bytes.items) → IfSome frame (λ i. IsTakenOver new old view later.calls (file_of new i) room.bytes.items)
      more None taken = tt
      more (Some i) taken = taken_later on taken

  pub finish_along : {told : Option World} {view : ViewState} (rooms : List Room) → All (CanFinish new old told tells view held) rooms → All (CanFinish new old told tells view later) rooms
  finish_along rooms can k d within = finish_later (get_or rooms k d) (can k d within)

  pub donor_later : {by_plan : BTreeMap FramePlan ℕ} (room : Room) → HoldsDonor new old tells held by_plan room → HoldsDonor new old tells later by_plan room
  donor_later {by_plan = by_plan} room was = record {
    size = was.size;
    within = was.within;
    file = along room.frame room.bytes.items was.file;
    read = more room.frame room.bytes.items was.read;
    begun = was.begun;
  }
    where
      along : (frame : Option ℕ) (bytes : List ℕ) → IfSome frame (λ i. tells ≡ true → IfSome (donor_in by_plan (plan_at new i)) (λ j. view_of held.history (file_of old j) ≡ Some bytes))
          → IfSome frame (λ i. tells ≡ true → IfSome (donor_in by_plan (plan_at new i)) (λ j. view_of later.history (file_of old j) ≡ Some bytes))
      along None bytes read = tt
      along (Some i) bytes read = λ is. subst (λ (all : Files). IfSome (donor_in by_plan (plan_at new i)) (λ j. all (file_of old j) ≡ Some bytes)) (same_view reads is) (read is)

      one : (bytes : List ℕ) (found : Option ℕ) → IfSome found (λ j. WasReadWhole (file_of old j) bytes held.calls) → IfSome found (λ j. WasReadWhole (file_of old j) bytes later.calls)
      one bytes None read = tt
      one bytes (Some j) read = was_still On held.calls later.calls on _ read

      more : (frame : Option ℕ) (bytes : List ℕ) → IfSome frame (λ i. IfSome (donor_in by_plan (plan_at new i)) (λ j. WasReadWhole (file_of old j) bytes held.calls))
          → IfSome frame (λ i. IfSome (donor_in by_plan (plan_at new i)) (λ j. WasReadWhole (file_of old j) bytes later.calls))
      more None bytes read = tt
      more (Some i) bytes read = one bytes (donor_in by_plan (plan_at new i)) read

  pub donors_along : {by_plan : BTreeMap FramePlan ℕ} (rooms : List Room) → All (HoldsDonor new old tells held by_plan) rooms → All (HoldsDonor new old tells later by_plan) rooms
  donors_along rooms holds k d within = donor_later (get_or rooms k d) (holds k d within)
