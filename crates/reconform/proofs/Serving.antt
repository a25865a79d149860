-- What a frame gets of its donor.
use Rattle.std.proofs.Common.{◌≡◌, inl, inr, ℕ, ◌+◌, ◌<◌, Bool, true, false, List, get_or, set, length, drop, refl, sym, ap, ◌∙◌, subst, arith, Option}
use Rattle.resume_ledger.proofs.Reading.{reads_none}
use Rattle.std.specs.Prelude.{Some, None, IfSome, ◌⊎◌, ◌↔◌, Result, Ok, Err, IfOk, OnOk}
use Rattle.std.specs.BTreeMap.{BTreeMap}
use Rattle.std.proofs.lemmas.Bool.{cases_eq, cases_lt, false≢true}
use Rattle.std.proofs.lemmas.List.{get_or-set_same, get_or-set_other, length-set}
use Rattle.reel_disk.specs.State.{DiskState}
use Rattle.scan_source.specs.World.{World, file_at}
use Rattle.conform_job.specs.Job.{JobData, file_of}
use Rattle.frame_render.specs.Frame.{frame_file}
use Rattle.reel_disk.specs.Disk.{Files, view_of}
use Rattle.resume_ledger.specs.Look.{ViewState, IsViewOf}
use Rattle.reel_writer.specs.Reel.{frames_of}
use Rattle.reel_writer.specs.View.{ReelView, after_finish, after_fault}
use Rattle.reconform.specs.declared.adopting.AdoptFault.TheVariants.{NoMemory}
use Rattle.reconform.specs.declared.plan.FramePlan.{FramePlan}
use Rattle.reconform.specs.Adopt.{CanServe}
use Rattle.reconform.specs.inside.Adopt.{IsSameReel, IsServed, AreServed}
use Rattle.reconform.specs.Donor.{IsDonor, IsIntact, HasIntactDonor}
use Rattle.reconform.specs.inside.Donor.{IsLeast, AreLeast, donor_in}
use Rattle.reconform.specs.Laws.{HasTitle}
use Rattle.reconform.specs.inside.Parts.{HasAdopted, HasServed}
use Rattle.reconform.specs.Plan.{AreAlike, plan_at}
use Rattle.reconform.proofs.Going.{both_itself, part_itself}
use Rattle.reconform.proofs.Painting.{equal_plans}
use Rattle.reconform.proofs.Taking.{some_none, taken_none}

-- where the old folder is sound, the pixels of a donor are those of the frame
pub served_pixels : (new old : JobData) (told : Option World) (tells : Bool) (files : Files) (view : ViewState) (i j : ℕ) (bytes : List ℕ)
    → IfSome told (λ world. CanServe new old world tells files) → (tells ≡ true → IsViewOf old.parts.digest (frames_of old) files view)
    → AreAlike new old → HasTitle new × HasTitle old → get_or view.gates j false ≡ true → plan_at old j ≡ plan_at new i → (tells ≡ true → files (file_of old j) ≡ Some bytes)
    → IfSome told (λ world. drop 2048 bytes ≡ drop 2048 (frame_file new (file_at world) i))
served_pixels new old None tells files view i j bytes can viewed alike titles done plan read = tt
served_pixels new old (Some world) tells files view i j bytes can viewed alike titles done plan read =
    let acks = ((viewed can.told).acks.flags_are j).0 done in
    let there = (can.sound j acks).file in
    let is : bytes ≡ frame_file old (file_at world) j = some_same bytes (frame_file old (file_at world) j) (sym (read can.told) ∙ there) in
    ap (drop 2048) is ∙ sym (equal_plans new old (file_at world) i j titles.0 titles.1 alike (can.look alike.cube) (sym plan))
  where
    some_same : (a b : List ℕ) → Some a ≡ Some b → a ≡ b
    some_same a b e = cc

module _ (new old : JobData) (view : ViewState) (files : Files) (i : ℕ) (count : ℕ) (all : count ≡ frames_of old) where
  -- the least is the donor
  pub has_donor : (j : ℕ) → AreAlike new old → IsLeast old view.gates count (plan_at new i) (Some j) → IsDonor new old view.gates i j
  has_donor j alike least = let lt = least.0 in record { alike = alike; within = omega (arith, lt, all); done = least.1; plan = least.2; least = least.3 }

  pub no_donor : IsLeast old view.gates count (plan_at new i) None → HasIntactDonor new old view files i → ⊥
  no_donor least has = let lt = has.is.within in least has.donor (omega (arith, lt, all)) has.is.done has.is.plan

  pub one_donor : (j : ℕ) → IsLeast old view.gates count (plan_at new i) (Some j) → (d : ℕ) → IsDonor new old view.gates i d → d ≡ j
  one_donor j least d is = elim (cases_lt d j) [
    | inl before ↦ absurd (least.3 d before is.done is.plan)
    | inr late ↦ elim (cases_lt j d) [
      | inl before ↦ absurd (is.least j before least.1 least.2)
      | inr early ↦ omega (arith, late, early)
    ]
  ]

-- nothing is to be done for a frame that is acknowledged
pub served_already : (new old : JobData) (view : ViewState) (files : Files) (i : ℕ) (gates : List Bool) → get_or gates i false ≡ true → IsServed new old view files i gates gates
served_already new old view files i gates is k = (λ was. inl was, back)
  where
    back : (get_or gates k false ≡ true) ⊎ ((k ≡ i) × HasIntactDonor new old view files k) → get_or gates k false ≡ true
    back (inl was) = was
    back (inr here) = subst (λ n. get_or gates n false ≡ true) (sym here.0) is

module _ (new old : JobData) (view : ViewState) (files : Files) where
  pub served_first : (gates : List Bool) → AreServed new old view files 0 gates gates
  served_first gates k = (λ was. inl was, back)
    where
      back : (get_or gates k false ≡ true) ⊎ ((k < 0) × HasIntactDonor new old view files k) → get_or gates k false ≡ true
      back (inl was) = was
      back (inr none) = let lt = none.0 in absurd (omega (arith, lt))

  -- one frame more
  pub served_more : (i : ℕ) (before mid after : List Bool) → AreServed new old view files i before mid → IsServed new old view files i mid after → AreServed new old view files (i + 1) before after
  served_more i before mid after first step k = (forth, back)
    where
      forth : get_or after k false ≡ true → (get_or before k false ≡ true) ⊎ ((k < i + 1) × HasIntactDonor new old view files k)
      forth now = elim ((step k).0 now) [
        | inl was ↦ elim ((first k).0 was) [
          | inl there ↦ inl there
          | inr early ↦ let lt = early.0 in inr (omega (arith, lt), early.1)
        ]
        | inr here ↦ let same = here.0 in inr (omega (arith, same), here.1)
      ]

      back : (get_or before k false ≡ true) ⊎ ((k < i + 1) × HasIntactDonor new old view files k) → get_or after k false ≡ true
      back (inl there) = (step k).1 (inl ((first k).1 (inl there)))
      back (inr early) = elim (cases_lt k i) [
        | inl before ↦ (step k).1 (inl ((first k).1 (inr (before, early.1))))
        | inr late ↦ let lt = early.0 in (step k).1 (inr (omega (arith, lt, late), early.1))
      ]

-- a frame that isn't acknowledged, by whether it has a donor
pub served_by : (new old : JobData) (view : ViewState) (files : Files) (i : ℕ) (gates : List Bool) → ((false ≡ true) ↔ HasIntactDonor new old view files i) → IsServed new old view files i gates gates
served_by new old view files i gates none k = (λ was. inl was, back)
  where
    back : (get_or gates k false ≡ true) ⊎ ((k ≡ i) × HasIntactDonor new old view files k) → get_or gates k false ≡ true
    back (inl was) = was
    back (inr here) = absurd (false≢true (none.1 (subst (λ n. HasIntactDonor new old view files n) here.0 here.1)))

pub served_set : (new old : JobData) (view : ViewState) (files : Files) (i : ℕ) (gates : List Bool) → i < length gates → HasIntactDonor new old view files i → IsServed new old view files i gates (set gates i true)
served_set new old view files i gates within mine k = (forth, back)
  where
    forth : get_or (set gates i true) k false ≡ true → (get_or gates k false ≡ true) ⊎ ((k ≡ i) × HasIntactDonor new old view files k)
    forth now = elim (cases_eq k i) [
      | inl same ↦ inr (same, subst (λ n. HasIntactDonor new old view files n) (sym same) mine)
      | inr other ↦ inl (sym (get_or-set_other gates i k true false other) ∙ now)
    ]

    back : (get_or gates k false ≡ true) ⊎ ((k ≡ i) × HasIntactDonor new old view files k) → get_or (set gates i true) k false ≡ true
    back (inl was) = elim (cases_eq k i) [
      | inl same ↦ ap (λ n. get_or (set gates i true) n false) same ∙ get_or-set_same gates i true false within
      | inr other ↦ get_or-set_other gates i k true false other ∙ was
    ]
    back (inr here) = ap (λ n. get_or (set gates i true) n false) here.0 ∙ get_or-set_same gates i true false within

module _ (new old : JobData) (view : ViewState) (files : Files) (i : ℕ) where
  -- what the map and the read say of the donor
  pub intact_some : (j : ℕ) → AreAlike new old → IsLeast old view.gates (frames_of old) (plan_at new i) (Some j) → (is : Bool) → (is ≡ true) ↔ IsIntact old view files j → (is ≡ true) ↔ HasIntactDonor new old view files i
  intact_some j alike least is read = (
    λ yes. record { donor = j; is = has_donor new old view files i (frames_of old) refl j alike least; intact = read.0 yes },
    λ has. read.1 (subst (λ d. IsIntact old view files d) (one_donor new old view files i (frames_of old) refl j least has.donor has.is) has.intact),
  )

  pub intact_none : IsLeast old view.gates (frames_of old) (plan_at new i) None → (false ≡ true) ↔ HasIntactDonor new old view files i
  intact_none least = (λ yes. absurd (false≢true yes), λ has. absurd (no_donor new old view files i (frames_of old) refl least has))

-- jobs that aren't alike have no donors
pub served_unalike : (new old : JobData) (view : ViewState) (files : Files) (count : ℕ) (gates : List Bool) → (AreAlike new old → ⊥) → AreServed new old view files count gates gates
served_unalike new old view files count gates apart k = (λ was. inl was, back)
  where
    back : (get_or gates k false ≡ true) ⊎ ((k < count) × HasIntactDonor new old view files k) → get_or gates k false ≡ true
    back (inl was) = was
    back (inr has) = let donor = has.1 in absurd (apart donor.is.alike)

pub least_here : (old : JobData) (acked : List Bool) (count : ℕ) (donors : BTreeMap FramePlan ℕ) (asked plan : FramePlan) (found : Option ℕ) → AreLeast old acked count donors → asked ≡ plan → found ≡ donor_in donors asked → IsLeast old acked count plan found
least_here old acked count donors asked plan found least same is = subst (λ p. IsLeast old acked count p found) same (subst (λ r. IsLeast old acked count asked r) (sym is) (least asked))

pub if_ok : {A E : Type 0} (r : Result A E) (P Q : A → Type 0) → ((a : A) → P a → Q a) → IfOk r P → IfOk r Q
if_ok (Ok a) P Q f p = f a p
if_ok (Err e) P Q f p = tt

pub if_ok_both : {A E : Type 0} (r : Result A E) (P Q R : A → Type 0) → ((a : A) → P a → Q a → R a) → IfOk r P → IfOk r Q → IfOk r R
if_ok_both (Ok a) P Q R f p q = f a p q
if_ok_both (Err e) P Q R f p q = tt

pub on_ok : {A E : Type 0} (r : Result A E) (P Q : Type 0) → (P → Q) → OnOk r P → OnOk r Q
on_ok (Ok a) P Q f p = f p
on_ok (Err e) P Q f p = tt

pub on_any : {A E : Type 0} (r : Result A E) (P : Type 0) → P → OnOk r P
on_any (Ok a) P p = p
on_any (Err e) P p = tt

module _ {D : Type 0} (old : ReelView D) (i : ℕ) (disk : D) (new : ReelView D) where
  pub same_finish : get_or old.ledger.gates i false ≡ false → new ≡ after_finish old i disk → IsSameReel old new
  same_finish fresh is = record {
    kept = ap (λ (r : ReelView D). r.kept) is;
    size = ap (λ (r : ReelView D). length r.ledger.gates) is ∙ length-set old.ledger.gates i true;
    grows = λ k was. subst (λ (r : ReelView D). get_or r.ledger.gates k false ≡ true) (sym is) (elim (cases_eq k i) [
      | inl same ↦ absurd (false≢true (sym fresh ∙ subst (λ n. get_or old.ledger.gates n false ≡ true) same was))
      | inr other ↦ get_or-set_other old.ledger.gates i k true false other ∙ was
    ]);
  }

  pub same_fault : new ≡ after_fault old disk → IsSameReel old new
  same_fault is = record {
    kept = ap (λ (r : ReelView D). r.kept) is;
    size = ap (λ (r : ReelView D). length r.ledger.gates) is;
    grows = λ k was. subst (λ (r : ReelView D). get_or r.ledger.gates k false ≡ true) (sym is) was;
  }

pub same_itself : {D : Type 0} (reel : ReelView D) → IsSameReel reel reel
same_itself reel = record { kept = refl; size = refl; grows = λ k was. was }

pub same_along : {D : Type 0} (old mid new : ReelView D) → IsSameReel old mid → IsSameReel mid new → IsSameReel old new
same_along old mid new first second = record { kept = second.kept ∙ first.kept; size = second.size ∙ first.size; grows = λ k was. second.grows k (first.grows k was) }

-- no room: nothing was taken over
pub adopted_none : {D E : Type 0} (new old : JobData) (told : Option World) (tells : Bool) (state : D → DiskState) (reel_tells : Bool) (reel_state : E → DiskState) (view : ViewState) (disk : D) (reel : ReelView E)
    → HasAdopted new old told tells state reel_tells reel_state view (Err NoMemory) disk disk reel reel
adopted_none new old told tells state reel_tells reel_state view disk reel = record {
  served = tt;
  stays = same_itself reel;
  stays_open = tt;
  end = inr refl;
  part = part_itself;
  taken = taken_none;
  reads = reads_none;
}

-- nothing is to be done for a frame
pub nothing_done : {D E : Type 0} (new old : JobData) (told : Option World) (tells : Bool) (state : D → DiskState)
    (reel_tells : Bool) (reel_state : E → DiskState) (view : ViewState) (i : ℕ) (disk : D) (reel : ReelView E)
    → reel.ledger.closed ≡ false → (tells ≡ true → IsServed new old view (view_of (state disk).history) i reel.ledger.gates reel.ledger.gates)
    → HasServed new old told tells state reel_tells reel_state view i (Ok tt) disk disk reel reel
nothing_done new old told tells state reel_tells reel_state view i disk reel is_open served = record {
  served = served;
  stays = same_itself reel;
  stays_open = is_open;
  part = part_itself;
  taken = some_none;
  reads = reads_none;
  disks = both_itself (λ is. cc);
}
