-- Frames that have rooms, and those that have none since there is nothing to be taken over.
use Rattle.std.proofs.Common.{◌≡◌, inl, inr, ℕ, ◌+◌, ◌<◌, ◌≤◌, Bool, true, false, List, [], ◌∷◌, get_or, set, length, refl, sym, ap, ◌∙◌, subst, arith, Option}
use Rattle.std.specs.Prelude.{Some, None, IfSome, ◌⊎◌, ◌≢◌, Result}
use Rattle.std.specs.BTreeMap.{BTreeMap}
use Rattle.std.proofs.lemmas.Bool.{cases_eq, cases_lt, false≢true}
use Rattle.std.proofs.lemmas.List.{get_or-set_other, length-set}
use Rattle.sha2.specs.Sha256.{sha256}
use Rattle.frame_hash.specs.declared.Room.{Room}
use Rattle.conform_job.specs.Job.{JobData, file_of}
use Rattle.frame_render.specs.Frame.{frame_size}
use Rattle.reel_disk.specs.Call.{Call}
use Rattle.reel_disk.specs.Disk.{Files}
use Rattle.reel_disk.specs.declared.disk.DiskFault.{DiskFault}
use Rattle.resume_ledger.specs.Look.{ViewState, hash_at}
use Rattle.resume_ledger.specs.Sound.{HasSize}
use Rattle.reel_writer.specs.Reads.{AsksWhole}
use Rattle.reel_writer.specs.Reel.{frames_of}
use Rattle.reconform.specs.Donor.{HasIntactDonor, IsOfHash}
use Rattle.reconform.specs.Plan.{plan_at}
use Rattle.reconform.specs.Taken.{AsksForDonors}
use Rattle.reconform.specs.declared.plan.FramePlan.{FramePlan}
use Rattle.reconform.specs.inside.Ahead.{AreHeld, HasRoom, IsKept}
use Rattle.reconform.specs.inside.Donor.{donor_in}
use Rattle.reconform.specs.inside.Parts.{HasDonors}
use Rattle.reconform.proofs.Asking.{asks_one}
use Rattle.reconform.proofs.Dressing.{least_of, sizes_alike}
use Rattle.reconform.proofs.Serving.{has_donor, least_here, no_donor, one_donor}

-- one value of a map
pub some_same : (a b : ℕ) (found : Option ℕ) → found ≡ Some a → found ≡ Some b → a ≡ b
some_same a b found is also = cc

some_bytes : (a b : List ℕ) (content : Option (List ℕ)) → content ≡ Some a → content ≡ Some b → a ≡ b
some_bytes a b content is also = cc

pub none_some : (a : ℕ) (found : Option ℕ) → found ≡ None → found ≡ Some a → ⊥
none_some a found is also = cc

module _ (new old : JobData) (view : ViewState) (files : Files) where
  -- none of them, fewer of them, and some with what is behind them
  pub held_none : (low : ℕ) (gates : List Bool) (Held : ℕ → Type 0) → AreHeld new old view files low low gates Held
  held_none low gates Held i above below has = absurd (omega (arith, above, below))

  pub held_within : (low first last high : ℕ) (gates : List Bool) (Held : ℕ → Type 0) → low ≤ first → last ≤ high → AreHeld new old view files low high gates Held → AreHeld new old view files first last gates Held
  held_within low first last high gates Held one two held i above below has = held i (omega (arith, one, above)) (omega (arith, two, below)) has

  pub held_along : (low mid high : ℕ) (gates : List Bool) (Held : ℕ → Type 0) → AreHeld new old view files low mid gates Held → AreHeld new old view files mid high gates Held → AreHeld new old view files low high gates Held
  held_along low mid high gates Held first second i above below has = elim (cases_lt i mid) [
    | inl before ↦ first i above before has
    | inr late ↦ second i late below has
  ]

  -- the old folder is as it was
  pub held_later : (later : Files) (low high : ℕ) (gates : List Bool) (Held : ℕ → Type 0) → files ≡ later → AreHeld new old view later low high gates Held → AreHeld new old view files low high gates Held
  held_later later low high gates Held same held = subst (λ (all : Files). AreHeld new old view all low high gates Held) (sym same) held

  -- more frames are acknowledged, and what was held is held still
  pub held_still : (low high : ℕ) (before after : List Bool) (Was Is : ℕ → Type 0) → ((k : ℕ) → get_or before k false ≡ true → get_or after k false ≡ true)
      → ((k : ℕ) → low ≤ k → HasIntactDonor new old view files k → Was k → Is k) → AreHeld new old view files low high before Was → AreHeld new old view files low high after Is
  held_still low high before after Was Is grows still held i above below has = elim (held i above below has) [
    | inl acked ↦ inl (grows i acked)
    | inr was ↦ inr (still i above has was)
  ]

  -- frames that were passed over, and the one behind them
  pub held_here : (by_plan : BTreeMap FramePlan ℕ) (low i : ℕ) (gates : List Bool) (Held : ℕ → Type 0) → HasDonors new old view.gates by_plan
      → ((k : ℕ) → low ≤ k → k < i → (get_or gates k false ≡ true) ⊎ (donor_in by_plan (plan_at new k) ≡ None))
      → AreHeld new old view files low i gates Held
  held_here by_plan low i gates Held donors passed k above below has = elim (passed k above below) [
    | inl acked ↦ inl acked
    | inr none ↦ absurd (no_donor new old view files k (frames_of old) refl
        (least_here old view.gates (frames_of old) by_plan (plan_at new k) (plan_at new k) None donors.least refl (sym none)) has)
  ]

  pub held_more : (low i : ℕ) (gates : List Bool) (Held : ℕ → Type 0) → AreHeld new old view files low i gates Held
      → (HasIntactDonor new old view files i → Held i) → AreHeld new old view files low (i + 1) gates Held
  held_more low i gates Held held here k above below has = elim (cases_eq k i) [
    | inl same ↦ inr (subst Held (sym same) (here (subst (HasIntactDonor new old view files) same has)))
    | inr other ↦ held k above (omega (arith, below, other)) has
  ]

  module _ (by_plan : BTreeMap FramePlan ℕ) (i j : ℕ) (donors : HasDonors new old view.gates by_plan) (is : donor_in by_plan (plan_at new i) ≡ Some j) where
    -- an intact donor's file is as long as a frame's
    pub intact_size : HasIntactDonor new old view files i → HasSize (frame_size new) (files (file_of old j))
    intact_size has =
        let same : has.donor ≡ j = one_donor new old view files i (frames_of old) refl j (least_of new old view by_plan i j donors is) has.donor has.is in
        (has.intact.bytes, ap (λ d. files (file_of old d)) (sym same) ∙ has.intact.there, has.intact.long ∙ sym (sizes_alike new old donors.alike))

    -- and its digest is the one that is kept
    pub intact_kept : (bytes digest : List ℕ) → files (file_of old j) ≡ Some bytes → digest ≡ sha256 bytes → HasIntactDonor new old view files i → IsKept new view by_plan i digest
    intact_kept bytes digest there made has =
        let same : has.donor ≡ j = one_donor new old view files i (frames_of old) refl j (least_of new old view by_plan i j donors is) has.donor has.is in
        let one : has.intact.bytes ≡ bytes = some_bytes has.intact.bytes bytes (files (file_of old j)) (ap (λ d. files (file_of old d)) (sym same) ∙ has.intact.there) there in
        record {
          donor = j;
          is = is;
          kept = of_hash (hash_at view j) (subst (λ d. IsOfHash (hash_at view d) bytes) same (subst (IsOfHash (hash_at view has.donor)) one has.intact.hash));
        }
      where
        of_hash : (kept : Option (List ℕ)) → IsOfHash kept bytes → IfSome kept (λ hash. hash ≡ digest)
        of_hash None is = tt
        of_hash (Some hash) is = is ∙ sym made

  pub intact_is_kept : (by_plan : BTreeMap FramePlan ℕ) (i : ℕ) (bytes digest : List ℕ) → HasDonors new old view.gates by_plan
      → IfSome (donor_in by_plan (plan_at new i)) (λ j. files (file_of old j) ≡ Some bytes) → digest ≡ sha256 bytes → HasIntactDonor new old view files i → IsKept new view by_plan i digest
  intact_is_kept by_plan i bytes digest donors read made has = by (donor_in by_plan (plan_at new i)) refl read
    where
      by : (found : Option ℕ) → donor_in by_plan (plan_at new i) ≡ found → IfSome found (λ j. files (file_of old j) ≡ Some bytes) → IsKept new view by_plan i digest
      by None is read = absurd (no_donor new old view files i (frames_of old) refl (least_here old view.gates (frames_of old) by_plan (plan_at new i) (plan_at new i) None donors.least refl (sym is)) has)
      by (Some j) is read = intact_kept by_plan i j donors is bytes digest read made has

-- what was found is what the map has
pub found_as : (found other : Option ℕ) → found ≡ other → IfSome found (λ j. other ≡ Some j)
found_as None other is = tt
found_as (Some j) other is = sym is

-- none of the rooms is the frame's
pub no_room : (rooms : List Room) (i n : ℕ) → ((k : ℕ) (d : Room) → k < n → (get_or rooms k d).frame ≢ Some i) → length rooms ≤ n → HasRoom i rooms → ⊥
no_room [] i n none all has = let lt = has.1 in absurd (omega (arith, lt))
no_room (room ∷ rooms) i n none all has = let lt = has.1 in none has.0 room (omega (arith, lt, all)) (has.2 room)

-- another room was written
pub room_other : (rooms : List Room) (n : ℕ) (room : Room) (i k : ℕ) → (get_or rooms n room).frame ≡ Some i → k ≢ i → HasRoom k rooms → HasRoom k (set rooms n room)
room_other rooms n room i k at other has =
    let lt = has.1 in
    let size = length-set rooms n room in
    let apart : has.0 ≢ n = λ same. other (some_same k i (get_or rooms n room).frame (subst (λ m. (get_or rooms m room).frame ≡ Some k) same (has.2 room)) at) in
    (has.0, omega (arith, lt, size), λ d. ap (λ (r : Room). r.frame) (get_or-set_other rooms n has.0 room d apart) ∙ has.2 d)

-- a frame's donor was asked for
pub asked_donor : {new old : JobData} {view : ViewState} {by_plan : BTreeMap FramePlan ℕ} {low high : ℕ} (i j : ℕ) (result : Result Bool DiskFault) {a b : List Call}
    → HasDonors new old view.gates by_plan → donor_in by_plan (plan_at new i) ≡ Some j → low ≤ i → i < high
    → AsksWhole (file_of old j) (frame_size new) result a b → AsksForDonors new old view low high a b
asked_donor {new = new} {old = old} {view = view} {by_plan = by_plan} i j result donors is first last asks =
    asks_one i j result first last (has_donor new old view (λ q. None) i (frames_of old) refl j donors.alike (least_of new old view by_plan i j donors is)) asks
