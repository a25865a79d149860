-- No file of a folder is read twice.
use Rattle.std.proofs.Common.{◌≡◌, ◌≢◌, true, false, inl, inr, ℕ, zero, suc, ◌+◌, ◌<◌, ◌≤◌, List, [], ◌∷◌, ◌++◌, length, get_or, set, drop, refl, sym, ◌∙◌, ap, subst, arith}
use Rattle.std.specs.Prelude.{Bool, All, Option, Some, None, IfSome, IfOk, OnErr, MatchResult, Result, Ok, Err, take}
use Rattle.std.proofs.lemmas.Bool.{cases_eq}
use Rattle.std.proofs.lemmas.List.{get_or-set_same, get_or-set_other, length-append, length-set, length-take}
use Rattle.std.proofs.lemmas.List.{take_at}
use Rattle.std.proofs.lemmas.Option.{none-some}
use Rattle.std.proofs.lemmas.List.Elements.{All-nil, All-cons}
use Rattle.std.proofs.lemmas.List.Kept.{AllPairs-cons}
use Rattle.cf_base.specs.declared.file.FileId.{FileId}
use Rattle.frame_hash.specs.declared.Room.{Room}
use Rattle.frame_hash.specs.Rooms.{AreHashedOn}
use Rattle.conform_job.specs.Job.{JobData, file_of}
use Rattle.reel_disk.specs.declared.disk.DiskFault.{DiskFault}
use Rattle.reel_disk.specs.declared.disk.Got.{Got}
use Rattle.reel_disk.specs.declared.disk.Got.TheVariants.{Bytes, Failed}
use Rattle.reel_disk.specs.declared.disk.Length as l
use Rattle.reel_disk.specs.Call.{Call, Measured, Read}
use Rattle.resume_ledger.specs.Calls.{ArePieces, bytes_of, reads_of}
use Rattle.resume_ledger.specs.OpeningCalls.{Digests, FailsDigest}
use Rattle.reel_writer.specs.Reads.{AsksWhole, Begins, GivesAll, HasNotGiven, IsOnce, ReadsOnce}
use Rattle.reel_writer.specs.Reel.{frames_of}
use Rattle.reel_writer.specs.inside.Ahead.{AreBelow, HoldsNone, IsOnceSoFar, IsOnceStill, IsOnceTaken}
use Rattle.reel_writer.proofs.ReelLaws.{files_apart}

same_frame : {i k : ℕ} → Some i ≡ Some k → i ≡ k
same_frame e = cc

-- before the first call
abbrev pub once_none : (calls : List Call) → ReadsOnce calls calls
once_none calls = record { since = []; made = refl; once = λ i j d lt within. absurd (omega (arith, within)) }

-- One call more: behind a call that gave all of a file, it doesn't begin that one.
abbrev more_once : (call : Call) (before now : List Call) → (sofar : ReadsOnce before now) → ((id : FileId) → Begins id call → HasNotGiven id sofar.since) → ReadsOnce before (call ∷ now)
more_once call before now sofar new = record {
  since = call ∷ sofar.since;
  made = ap (λ (calls : List Call). call ∷ calls) sofar.made;
  once = AllPairs-cons IsOnce call sofar.since (λ k d within id begins gives. new id begins k d within gives) sofar.once;
}

-- a call of which nothing was given
not_given : (id : FileId) (call : Call) (calls : List Call) → (GivesAll id call → ⊥) → HasNotGiven id calls → HasNotGiven id (call ∷ calls)
not_given id call calls none old = All-cons (λ call. GivesAll id call → ⊥) call calls none old

measured_begins : (len : l.Length) (id of : FileId) (P : Type 0) → Begins of (Measured id len) → P
measured_begins len id of P begins = absurd begins

module _ (job : JobData) (from next : ℕ) (before now : List Call) (rooms : List Room) (sofar : IsOnceSoFar job from next before now rooms) where
  -- a call more that gives nothing
  abbrev more_so_far : (call : Call) → ((id : FileId) → GivesAll id call → ⊥) → ((id : FileId) → Begins id call → HasNotGiven id sofar.once.since) → IsOnceSoFar job from next before (call ∷ now) rooms
  more_so_far call none new = record {
    once = more_once call before now sofar.once new;
    fresh = λ k le free. not_given (file_of job k) call sofar.once.since (none (file_of job k)) (sofar.fresh k le free);
    below = sofar.below;
    within = sofar.within;
  }

  abbrev measured : (len : l.Length) (id : FileId) → IsOnceSoFar job from next before (Measured id len ∷ now) rooms
  measured len id = more_so_far (Measured id len) (λ of gives. gives) (λ of begins. absurd begins)

  -- a frame behind the last that was read lies in no room
  pub behind : (k : ℕ) → next ≤ k → HoldsNone k rooms
  behind k le n d within same =
      let lt : k < next = subst (λ (frame : Option ℕ). IfSome frame (λ k. k < next)) same (sofar.below n d within) in
      absurd (omega (arith, le, lt))

  -- other rooms, with the same frames
  pub other_rooms : (others : List Room) → ((k : ℕ) → HoldsNone k others → HoldsNone k rooms) → AreBelow next others → IsOnceSoFar job from next before now others
  other_rooms others none below = record {
    once = sofar.once;
    fresh = λ k le free. sofar.fresh k le (none k free);
    below = below;
    within = sofar.within;
  }

  -- for a later frame, and a later next one
  abbrev pub later : (i : ℕ) → from ≤ i → IsOnceSoFar job i next before now rooms
  later i le = record {
    once = sofar.once;
    fresh = λ k at free. sofar.fresh k (omega (arith, le, at)) free;
    below = sofar.below;
    within = sofar.within;
  }

  pub next_later : (n : ℕ) → next ≤ n → n ≤ frames_of job → IsOnceSoFar job from n before now rooms
  next_later n le most = record {
    once = sofar.once;
    fresh = sofar.fresh;
    below = λ k d within. below_more (get_or rooms k d).frame (sofar.below k d within);
    within = most;
  }
    where
      below_more : (frame : Option ℕ) → IfSome frame (λ k. k < next) → IfSome frame (λ k. k < n)
      below_more None is = tt
      below_more (Some k) is = omega (arith, le, is)

-- rooms of the same frames
pub same_rooms : (first after : Room) (rooms later : List Room) → after.frame ≡ first.frame → length later ≡ length rooms → ((n : ℕ) (d : Room) → n < length rooms → (get_or later n d).frame ≡ (get_or rooms n d).frame)
    → (job : JobData) (from next : ℕ) (before now : List Call) → IsOnceSoFar job from next before now (first ∷ rooms) → IsOnceSoFar job from next before now (after ∷ later)
same_rooms first after rooms later same count each job from next before now sofar = other_rooms job from next before now (first ∷ rooms) sofar (after ∷ later) none below
  where
    none : (k : ℕ) → HoldsNone k (after ∷ later) → HoldsNone k (first ∷ rooms)
    none k free zero d within is = free 0 d (omega (arith)) (same ∙ is)
    none k free (suc n) d within is =
        let lt : n < length rooms = omega (arith, within) in
        free (suc n) d (omega (arith, count, lt)) (each n d lt ∙ is)

    below : AreBelow next (after ∷ later)
    below zero d within = subst (λ (frame : Option ℕ). IfSome frame (λ k. k < next)) (sym same) (sofar.below 0 d (omega (arith)))
    below (suc n) d within =
        let lt : n < length rooms = omega (arith, count, within) in
        subst (λ (frame : Option ℕ). IfSome frame (λ k. k < next)) (sym (each n d lt)) (sofar.below (suc n) d (omega (arith, lt)))

pub same_first : (first after : Room) (rooms : List Room) → after.frame ≡ first.frame → (job : JobData) (from next : ℕ) (before now : List Call) → IsOnceSoFar job from next before now (first ∷ rooms) → IsOnceSoFar job from next before now (after ∷ rooms)
same_first first after rooms same = same_rooms first after rooms rooms same refl (λ n d lt. refl)

-- rooms behind the first that are hashed on
pub hashed_still_once : (size : ℕ) (first : Room) (rooms later : List Room) → AreHashedOn size rooms later → (job : JobData) (from : ℕ) (before now : List Call) (result : Result ℕ DiskFault)
    → IsOnceStill job from before now (first ∷ rooms) result → IsOnceStill job from before now (first ∷ later) result
hashed_still_once size first rooms later on job from before now (Ok next) sofar = same_rooms first first rooms later refl on.count (λ n d lt. (on.each n d lt).frame) job from next before now sofar
hashed_still_once size first rooms later on job from before now (Err fault) once = once

-- a whole file of frame i is read into the first room, which was free
module _ (job : JobData) (from next : ℕ) (before now : List Call) (first after : Room) (held : List Room) (i : ℕ) (low : from ≤ i) (at : next ≤ i) (within_job : i < frames_of job) (free : first.frame ≡ None) (sofar : IsOnceSoFar job from next before now (first ∷ held)) where
  -- what begins it
  begins_new : (of : FileId) (into : List ℕ) (got : Got) → Begins of (Read (file_of job i) 0 into got) → HasNotGiven of sofar.once.since
  begins_new of into got (is, start) = subst (λ (id : FileId). HasNotGiven id sofar.once.since) is (sofar.fresh i low (behind job from next before now (first ∷ held) sofar i at))

  -- a read that gave less, or failed
  pub read_less : (into : List ℕ) (got : Got) → (got ≡ Bytes (length into) → ⊥) → IsOnceSoFar job from next before (Read (file_of job i) 0 into got ∷ now) (first ∷ held)
  read_less into got less = more_so_far job from next before now (first ∷ held) sofar (Read (file_of job i) 0 into got) (λ of gives. less gives.2) (λ of begins. begins_new of into got begins)

  -- one that gave all
  pub read_all : (into : List ℕ) (got : Got) → after.frame ≡ Some i → IsOnceSoFar job from (i + 1) before (Read (file_of job i) 0 into got ∷ now) (after ∷ held)
  read_all into got has = record {
    once = more_once (Read (file_of job i) 0 into got) before now sofar.once (λ of begins. begins_new of into got begins);
    fresh = λ k le none. not_given (file_of job k) (Read (file_of job i) 0 into got) sofar.once.since (λ gives. files_apart job i k (λ same. none 0 after (omega (arith)) (subst (λ n. after.frame ≡ Some n) same has)) gives.0) (sofar.fresh k le (none_before k none));
    below = below;
    within = omega (arith, within_job);
  }
    where
      none_before : (k : ℕ) → HoldsNone k (after ∷ held) → HoldsNone k (first ∷ held)
      none_before k none zero d within is = none-some k (sym free ∙ is)
      none_before k none (suc n) d within is = none (suc n) d within is

      less_more : (frame : Option ℕ) → IfSome frame (λ k. k < next) → IfSome frame (λ k. k < i + 1)
      less_more None is = tt
      less_more (Some k) is = omega (arith, at, is)

      below : AreBelow (i + 1) (after ∷ held)
      below zero d within = subst (λ (frame : Option ℕ). IfSome frame (λ k. k < i + 1)) (sym has) (omega (arith))
      below (suc n) d within = less_more (get_or held n d).frame (sofar.below (suc n) d within)

-- a file of so many bytes is asked for
module _ (job : JobData) (from next : ℕ) (before now later : List Call) (first after : Room) (held : List Room) (i size : ℕ) (low : from ≤ i) (at : next ≤ i) (within_job : i < frames_of job) (free : first.frame ≡ None) (sofar : IsOnceSoFar job from next before now (first ∷ held)) where
  behind_length : (len : l.Length) → IsOnceSoFar job from next before (Measured (file_of job i) len ∷ now) (first ∷ held)
  behind_length len = measured job from next before now (first ∷ held) sofar len (file_of job i)

  pub read_whole_once : AsksWhole (file_of job i) size (Ok true) now later → after.frame ≡ Some i → IsOnceSoFar job from (i + 1) before later (after ∷ held)
  read_whole_once (bytes, long, made) has =
      let len = l.TheVariants.There (length bytes) in
      subst (λ (calls : List Call). IsOnceSoFar job from (i + 1) before calls (after ∷ held)) (sym made)
      (read_all job from next before (Measured (file_of job i) len ∷ now) first after held i low at within_job free (behind_length len) bytes (Bytes (length bytes)) has)

  pub not_whole_once : AsksWhole (file_of job i) size (Ok false) now later → IsOnceSoFar job from next before later (first ∷ held)
  not_whole_once (inl (len, made)) = subst (λ (calls : List Call). IsOnceSoFar job from next before calls (first ∷ held)) (sym made) (behind_length len)
  not_whole_once (inr (into, got, long, less, made)) =
      let len = l.TheVariants.There size in
      subst (λ (calls : List Call). IsOnceSoFar job from next before calls (first ∷ held)) (sym made)
      (read_less job from next before (Measured (file_of job i) len ∷ now) first after held i low at within_job free (behind_length len) into got (λ is. less (is ∙ ap Bytes long)))

  pub failed_once : (fault : DiskFault) → AsksWhole (file_of job i) size (Err fault) now later → ReadsOnce before later
  failed_once fault (inl made) = subst (ReadsOnce before) (sym made) (behind_length l.TheVariants.Failed).once
  failed_once fault (inr (into, made)) =
      let len = l.TheVariants.There size in
      subst (ReadsOnce before) (sym made)
      (read_less job from next before (Measured (file_of job i) len ∷ now) first after held i low at within_job free (behind_length len) into Failed failed_gives).once
    where
      failed_gives : Failed ≡ Bytes (length into) → ⊥
      failed_gives is = cc

-- rooms that are all free
pub free_once : (job : JobData) (calls : List Call) (rooms : List Room) → All (λ room. room.frame ≡ None) rooms → IsOnceSoFar job 0 0 calls calls rooms
free_once job calls rooms free = record {
  once = once_none calls;
  fresh = λ k le none. All-nil (λ call. GivesAll (file_of job k) call → ⊥);
  below = λ k d within. subst (λ (frame : Option ℕ). IfSome frame (λ k. k < 0)) (sym (free k d within)) tt;
  within = omega (arith);
}

-- the first room changes places with another
pub swapped_once : (first x y : Room) (others : List Room) (n : ℕ) → n < length others → ((d : Room) → get_or others n d ≡ x) → y ≡ first
    → (job : JobData) (from next : ℕ) (before now : List Call) → IsOnceSoFar job from next before now (first ∷ others) → IsOnceSoFar job from next before now (x ∷ set others n y)
swapped_once first x y others n lt at is job from next before now sofar = other_rooms job from next before now (first ∷ others) sofar (x ∷ set others n y) none below
  where
    size : length (set others n y) ≡ length others
    size = length-set others n y

    none : (k : ℕ) → HoldsNone k (x ∷ set others n y) → HoldsNone k (first ∷ others)
    none k free zero d within has = free (suc n) d (omega (arith, lt, size)) (ap (λ (room : Room). room.frame) (get_or-set_same others n y d lt ∙ is) ∙ has)
    none k free (suc j) d within has = elim (cases_eq j n) [
      | inl same ↦ free 0 d (omega (arith)) (ap (λ (room : Room). room.frame) (sym (at d) ∙ sym (ap (λ (m : ℕ). get_or others m d) same)) ∙ has)
      | inr other ↦ free (suc j) d (omega (arith, within, size)) (ap (λ (room : Room). room.frame) (get_or-set_other others n j y d other) ∙ has)
    ]

    below : AreBelow next (x ∷ set others n y)
    below zero d within = subst (λ (room : Room). IfSome room.frame (λ k. k < next)) (at d) (sofar.below (suc n) d (omega (arith, lt)))
    below (suc j) d within = elim (cases_eq j n) [
      | inl same ↦ subst (λ (room : Room). IfSome room.frame (λ k. k < next)) (sym (ap (λ (m : ℕ). get_or (set others n y) m d) same ∙ get_or-set_same others n y d lt ∙ is)) (sofar.below 0 d (omega (arith)))
      | inr other ↦ subst (λ (room : Room). IfSome room.frame (λ k. k < next)) (sym (get_or-set_other others n j y d other)) (sofar.below (suc j) d (omega (arith, within, size)))
    ]

-- the room of frame i is free from now on
pub taken_once : (rooms after : List Room) (n i : ℕ) → length after ≡ length rooms → ((d : Room) → (get_or rooms n d).frame ≡ Some i) → ((d : Room) → n < length rooms → (get_or after n d).frame ≡ None)
    → ((j : ℕ) (d : Room) → j ≢ n → get_or after j d ≡ get_or rooms j d)
    → (job : JobData) (next : ℕ) (before now : List Call) → IsOnceSoFar job i next before now rooms → IsOnceSoFar job (i + 1) next before now after
taken_once rooms after n i size has free others job next before now sofar = record {
  once = sofar.once;
  fresh = λ k le none. sofar.fresh k (omega (arith, le)) (none_before k le none);
  below = below;
  within = sofar.within;
}
  where
    none_before : (k : ℕ) → i + 1 ≤ k → HoldsNone k after → HoldsNone k rooms
    none_before k le none j d within is = elim (cases_eq j n) [
      | inl same ↦ let one : i ≡ k = same_frame (sym (has d) ∙ sym (ap (λ (m : ℕ). (get_or rooms m d).frame) same) ∙ is) in absurd (omega (arith, one, le))
      | inr other ↦ none j d (omega (arith, within, size)) (ap (λ (room : Room). room.frame) (others j d other) ∙ is)
    ]

    below : AreBelow next after
    below j d within = elim (cases_eq j n) [
      | inl same ↦ let lt : n < length rooms = omega (arith, within, size, same) in
          subst (λ (frame : Option ℕ). IfSome frame (λ k. k < next)) (sym (ap (λ (m : ℕ). (get_or after m d).frame) same ∙ free d lt)) tt
      | inr other ↦ subst (λ (room : Room). IfSome room.frame (λ k. k < next)) (sym (others j d other)) (sofar.below j d (omega (arith, within, size)))
    ]

pub set_once : (rooms : List Room) (n i : ℕ) (a b : Room) → n < length rooms → ((d : Room) → (get_or rooms n d).frame ≡ Some i) → b.frame ≡ None
    → (job : JobData) (next : ℕ) (before now : List Call) → IsOnceSoFar job i next before now rooms → IsOnceSoFar job (i + 1) next before now (set (set rooms n a) n b)
set_once rooms n i a b lt has free = taken_once rooms (set (set rooms n a) n b) n i size has
    (λ d within. ap (λ (room : Room). room.frame) (get_or-set_same (set rooms n a) n b d (omega (arith, lt, length-set rooms n a))) ∙ free)
    (λ j d other. get_or-set_other (set rooms n a) n j b d other ∙ get_or-set_other rooms n j a d other)
  where
    size : length (set (set rooms n a) n b) ≡ length rooms
    size = length-set (set rooms n a) n b ∙ length-set rooms n a

-- what was asked, by another name of the file and the answer
pub asked : (q id : FileId) (size : ℕ) (result wanted : Result Bool DiskFault) (old new : List Call) → q ≡ id → result ≡ wanted → AsksWhole q size result old new → AsksWhole id size wanted old new
asked q id size result wanted old new named is asks = subst (λ (of : FileId). AsksWhole of size wanted old new) named (subst (λ (r : Result Bool DiskFault). AsksWhole q size r old new) is asks)

-- rooms that were lent, put back
pub once_back : (job : JobData) (from next : ℕ) (before now : List Call) (lent rooms : List Room) (len : ℕ) → length lent ≡ len → IsOnceSoFar job from next before now lent
    → IsOnceSoFar job from next before now (take len (lent ++ drop (length lent) rooms))
once_back job from next before now lent rooms len size sofar = subst (IsOnceSoFar job from next before now) (sym (take_at lent (drop (length lent) rooms) len size)) sofar

pub taken_back : (job : JobData) (i next : ℕ) (before now : List Call) (lent rooms : List Room) (len : ℕ) → length lent ≡ len → (found : Option (List ℕ)) → IsOnceTaken job i next before now lent found
    → IsOnceTaken job i next before now (take len (lent ++ drop (length lent) rooms)) found
taken_back job i next before now lent rooms len size found taken = subst (λ (held : List Room). IsOnceTaken job i next before now held found) (sym (take_at lent (drop (length lent) rooms) len size)) taken

-- the same rooms, and a later next frame
pub once_from : (job : JobData) (from next : ℕ) (before now : List Call) (rooms lent : List Room) (n : ℕ) → lent ≡ rooms → next ≤ n → n ≤ frames_of job → IsOnceSoFar job from next before now rooms → IsOnceSoFar job from n before now lent
once_from job from next before now rooms lent n same le most sofar = subst (IsOnceSoFar job from n before now) (sym same) (next_later job from next before now rooms sofar n le most)

-- a file that is read piece by piece: that of a frame that lies in no room
module _ (job : JobData) (i next : ℕ) (before : List Call) (rooms : List Room) where
  abbrev SoFar : List Call → Type 0
  SoFar now = IsOnceSoFar job (i + 1) next before now rooms

  apart_later : (k : ℕ) → i + 1 ≤ k → file_of job i ≡ file_of job k → ⊥
  apart_later k le same = files_apart job i k (λ is. absurd (omega (arith, is, le))) same

  piece_more : (now : List Call) (sofar : SoFar now) (start : ℕ) (into : List ℕ) (got : Got) → (start ≡ 0 → HasNotGiven (file_of job i) sofar.once.since) → SoFar (Read (file_of job i) start into got ∷ now)
  piece_more now sofar start into got first = record {
    once = more_once (Read (file_of job i) start into got) before now sofar.once (λ of begins. subst (λ (id : FileId). HasNotGiven id sofar.once.since) begins.0 (first begins.1));
    fresh = λ k le none. not_given (file_of job k) (Read (file_of job i) start into got) sofar.once.since (λ gives. apart_later k le gives.0) (sofar.fresh k le none);
    below = sofar.below;
    within = sofar.within;
  }

  pieces_more : (size : ℕ) (pieces : List (ℕ × List ℕ)) (now : List Call) (sofar : SoFar now) → HasNotGiven (file_of job i) sofar.once.since → ArePieces size pieces
      → (then : SoFar (reads_of (file_of job i) pieces now)) × (length (bytes_of pieces) ≡ 0 → HasNotGiven (file_of job i) then.once.since)
  pieces_more size [] now sofar none are = (sofar, λ zero. none)
  pieces_more size (p ∷ pieces) now sofar none (are, short, some, long) =
      let older = pieces_more size pieces now sofar none are in (
        piece_more (reads_of (file_of job i) pieces now) older.0 (length (bytes_of pieces)) p.1 (Bytes p.0) older.1,
        λ zero. absurd (omega (arith, zero, length-append (bytes_of pieces) (take p.0 p.1), length-take p.0 p.1, some, long)),
      )

  module _ (now : List Call) (sofar : IsOnceSoFar job i next before now rooms) (holds : HoldsNone i rooms) where
    abbrev begun : (len : l.Length) → SoFar (Measured (file_of job i) len ∷ now)
    begun len = later job i next before (Measured (file_of job i) len ∷ now) rooms (measured job i next before now rooms sofar len (file_of job i)) (i + 1) (omega (arith))

    not_begun : (len : l.Length) → HasNotGiven (file_of job i) (begun len).once.since
    not_begun len = not_given (file_of job i) (Measured (file_of job i) len) sofar.once.since (λ gives. gives) (sofar.fresh i (omega (arith)) holds)

    digested_once : (digest : List ℕ) (new : List Call) → Digests (file_of job i) digest now new → SoFar new
    digested_once digest new (inl (len, (pieces, long, is, made, are))) =
        let There = l.TheVariants.There len in
        subst SoFar (sym made) (pieces_more len pieces (Measured (file_of job i) There ∷ now) (begun There) (not_begun There) are).0
    digested_once digest new (inr (none, inl made)) = subst SoFar (sym made) (begun l.TheVariants.Absent)
    digested_once digest new (inr (none, inr (len, (pieces, into, got, well, made, are)))) =
        let There = l.TheVariants.There len in
        let older = pieces_more len pieces (Measured (file_of job i) There ∷ now) (begun There) (not_begun There) are in
        subst SoFar (sym made) (piece_more (reads_of (file_of job i) pieces (Measured (file_of job i) There ∷ now)) older.0 (length (bytes_of pieces)) into got older.1)

    undigested_once : (new : List Call) → FailsDigest (file_of job i) now new → ReadsOnce before new
    undigested_once new (len, inl made) = subst (ReadsOnce before) (sym made) (begun l.TheVariants.Failed).once
    undigested_once new (len, inr (pieces, into, made, are)) =
        let There = l.TheVariants.There len in
        let older = pieces_more len pieces (Measured (file_of job i) There ∷ now) (begun There) (not_begun There) are in
        subst (ReadsOnce before) (sym made) (piece_more (reads_of (file_of job i) pieces (Measured (file_of job i) There ∷ now)) older.0 (length (bytes_of pieces)) into Failed older.1).once

    pub passed_once : (q : FileId) → q ≡ file_of job i → (result : Result (List ℕ) DiskFault) (new : List Call) → IfOk result (λ digest. Digests q digest now new) → OnErr result (FailsDigest q now new)
        → MatchResult result (λ _. SoFar new) (λ _. ReadsOnce before new)
    passed_once q named (Ok digest) new made failed = digested_once digest new (subst (λ (id : FileId). Digests id digest now new) named made)
    passed_once q named (Err fault) new made failed = undigested_once new (subst (λ (id : FileId). FailsDigest id now new) named failed)
