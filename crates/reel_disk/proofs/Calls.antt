-- What a call means for the images of each of its moments.
use Rattle.std.proofs.Common.{◌≡◌, inl, inr, ℕ, ◌≤◌, List, [], ◌∷◌, length, sym, ◌∙◌, ap, subst, arith}
use Rattle.std.proofs.lemmas.Bool.{cases_lt}
use Rattle.cf_base.specs.declared.file.FileId.{FileId}
use Rattle.reel_disk.specs.declared.disk.Place.{Place}
use Rattle.reel_disk.specs.declared.disk.Place.TheVariants.{Whole, Range}
use Rattle.reel_disk.specs.declared.disk.Did.{Did}
use Rattle.reel_disk.specs.declared.disk.Did.TheVariants.{Done, Failed}
use Rattle.reel_disk.specs.Disk.{Files, IsLoose, Moment, IsImage, History, moment_of, view_of, loose_of, Passes, IsStill, loosened, IsInFile, HasWrittenWhole, HasWrittenAt, IsSynced, IsNotSynced, HasSynced}
use Rattle.reel_disk.specs.Runs.{LeavesOnly, Surely, NeverForgets, IsWithin, Narrows, Loosens}
use Rattle.reel_disk.proofs.Images.{view_is_image, within_loosened, within_view, within_settled, image_back, put_is_image, patch_is_image}
use Rattle.reel_disk.proofs.Moments.{extends_along, passes_extends, when}

narrows_call : (old new : History) → Passes old new (moment_of old) → IsWithin (moment_of new) (moment_of old) → Narrows old new
narrows_call old new passes fewer = record { extends = passes_extends old new (moment_of old) passes; within = narrower }
  where
    narrower : (m later : ℕ) → old.now ≤ m → m ≤ later → later ≤ new.now → IsWithin (new.past later) (new.past m)
    narrower m later from le to = elim (cases_lt m new.now) [
      | inl early ↦
          let is_old : new.past m ≡ moment_of old = elim (cases_lt old.now m) [
            | inl inside ↦ passes.inside m inside early
            | inr first ↦ passes.kept m first ∙ ap old.past (omega (arith, first, from))
          ] in
          subst (λ (x : Moment). IsWithin (new.past later) x) (sym is_old)
          (when old new (moment_of old) (λ (x : Moment). IsWithin x (moment_of old)) later passes (omega (arith, from, le)) to (λ files image. image) (λ files image. image) fewer)
      | inr last ↦ let same : later ≡ m = omega (arith, last, le, to) in subst (λ (n : ℕ). IsWithin (new.past n) (new.past m)) (sym same) (λ files image. image)
    ]

pub still_narrows : (old new : History) → IsStill old new → Narrows old new
still_narrows old new still = narrows_call old new still.passes (λ files image. subst (λ (x : Moment). IsImage x files) still.same image)

synced_narrows : (old new : History) (id : FileId) → IsSynced old new id → Narrows old new
synced_narrows old new id synced = narrows_call old new synced.passes (λ files image.
    within_settled (view_of old) (loose_of new) (loose_of old) synced.loose.was files
    (subst (λ (v : Files). IsImage (record { view = v; loose = loose_of new }) files) synced.view image))

not_synced_narrows : (old new : History) (id : FileId) → IsNotSynced old new id → Narrows old new
not_synced_narrows old new id failed = narrows_call old new failed.passes (λ files image.
    within_view (view_of old) (record { view = view_of new; loose = loose_of old }) failed.outside files
    (subst (λ (l : List Place). IsImage (record { view = view_of new; loose = l }) files) failed.loose image))

pub sync_narrows : (old new : History) (id : FileId) (did : Did) → HasSynced old new id did → Narrows old new
sync_narrows old new id Done told = synced_narrows old new id told
sync_narrows old new id Failed told = not_synced_narrows old new id told

loosens_call : (old new : History) (place : Place) → Passes old new (loosened (moment_of old) place) → loose_of new ≡ place ∷ loose_of old → IsImage (record { view = view_of old; loose = place ∷ [] }) (view_of new) → Loosens old new place
loosens_call old new place passes loose outside =
    let torn : IsImage (loosened (moment_of old) place) (view_of new) = within_settled (view_of old) (place ∷ []) (place ∷ loose_of old) few (view_of new) outside in
    record {
      extends = passes_extends old new (loosened (moment_of old) place) passes;
      within = λ m from to. when old new (loosened (moment_of old) place) (λ (x : Moment). IsWithin x (loosened (moment_of old) place)) m passes from to (within_loosened (moment_of old) place) (λ files image. image) (λ files image.
          within_view (view_of old) (record { view = view_of new; loose = place ∷ loose_of old }) torn files
          (subst (λ (l : List Place). IsImage (record { view = view_of new; loose = l }) files) loose image));
      view = λ m from to. when old new (loosened (moment_of old) place) (λ (x : Moment). IsImage x (view_of old)) m passes from to (view_is_image (moment_of old)) (view_is_image (loosened (moment_of old) place))
          (subst (λ (l : List Place). IsImage (record { view = view_of new; loose = l }) (view_of old)) (sym loose) (image_back (place ∷ loose_of old) (view_of old) (view_of new) torn));
    }
  where
    few : (p : Place) → IsLoose (place ∷ []) p → IsLoose (place ∷ loose_of old) p
    few p (inl is) = inl is
    few p (inr none) = absurd none

still_loosens : (old new : History) (place : Place) → IsStill old new → Loosens old new place
still_loosens old new place still = record {
  extends = passes_extends old new (moment_of old) still.passes;
  within = λ m from to. when old new (moment_of old) (λ (x : Moment). IsWithin x (loosened (moment_of old) place)) m still.passes from to more more (subst (λ (x : Moment). IsWithin x (loosened (moment_of old) place)) (sym still.same) more);
  view = λ m from to. when old new (moment_of old) (λ (x : Moment). IsImage x (view_of old)) m still.passes from to here here (subst (λ (x : Moment). IsImage x (view_of old)) (sym still.same) here);
}
  where
    more : IsWithin (moment_of old) (loosened (moment_of old) place)
    more = within_loosened (moment_of old) place

    here : IsImage (moment_of old) (view_of old)
    here = view_is_image (moment_of old)

pub write_loosens : (old new : History) (id : FileId) (bytes : List ℕ) (did : Did) → HasWrittenWhole old new id bytes did → Loosens old new (Whole id)
write_loosens old new id bytes Done told = loosens_call old new (Whole id) told.passes told.loose (put_is_image (view_of old) (view_of new) id told.same)
write_loosens old new id bytes Failed (inl still) = still_loosens old new (Whole id) still
write_loosens old new id bytes Failed (inr loose) = loosens_call old new (Whole id) loose.passes loose.loose loose.outside

pub write_at_loosens : (old new : History) (id : FileId) (start : ℕ) (bytes : List ℕ) (did : Did) → IsInFile (view_of old id) start (length bytes) → HasWrittenAt old new id start bytes did → Loosens old new (Range id start (length bytes))
write_at_loosens old new id start bytes Done fits told = loosens_call old new (Range id start (length bytes)) told.passes told.loose (patch_is_image (view_of old) (view_of new) id start bytes told.same fits told.there)
write_at_loosens old new id start bytes Failed fits (inl still) = still_loosens old new (Range id start (length bytes)) still
write_at_loosens old new id start bytes Failed fits (inr loose) = loosens_call old new (Range id start (length bytes)) loose.passes loose.loose loose.outside

-- several calls
pub narrows_along : (old mid new : History) → Narrows old mid → Narrows mid new → Narrows old new
narrows_along old mid new first second = record { extends = extends_along old mid new first.extends second.extends; within = narrower }
  where
    narrower : (m later : ℕ) → old.now ≤ m → m ≤ later → later ≤ new.now → IsWithin (new.past later) (new.past m)
    narrower m later from le to = elim (cases_lt mid.now m) [
      | inl both ↦ second.within m later (omega (arith, both)) le to
      | inr early ↦
          let was : new.past m ≡ mid.past m = second.extends.kept m early in
          elim (cases_lt mid.now later) [
            | inl late ↦ λ files image.
                let at_mid : IsImage (mid.past mid.now) files = subst (λ (x : Moment). IsImage x files) (second.extends.kept mid.now (omega arith)) (second.within mid.now later (omega arith) (omega (arith, late)) to files image) in
                subst (λ (x : Moment). IsImage x files) (sym was) (first.within m mid.now from early (omega arith) files at_mid)
            | inr none ↦ λ files image. subst (λ (x : Moment). IsImage x files) (sym was) (first.within m later from le none files (subst (λ (x : Moment). IsImage x files) (second.extends.kept later none) image))
          ]
    ]

module _ (P : Files → Type 0) where
  pub narrows_leaves : (old new : History) → Narrows old new → Surely (moment_of old) P → LeavesOnly old new P
  narrows_leaves old new narrows here m from to files image =
      here files (subst (λ (x : Moment). IsImage x files) (narrows.extends.kept old.now (omega arith)) (narrows.within old.now m (omega arith) from to files image))

  pub narrows_keeps : (old new : History) → Narrows old new → NeverForgets old new P
  narrows_keeps old new narrows m later from le to had files image = had files (narrows.within m later from le to files image)

  pub loosens_leaves : (old new : History) (place : Place) → Loosens old new place → Surely (loosened (moment_of old) place) P → LeavesOnly old new P
  loosens_leaves old new place loosens here m from to files image = here files (loosens.within m from to files image)

  pub loosens_keeps : (old new : History) (place : Place) → Loosens old new place → (P (view_of old) → Surely (loosened (moment_of old) place) P) → NeverForgets old new P
  loosens_keeps old new place loosens here m later from le to had files image =
      here (had (view_of old) (loosens.view m from (omega (arith, le, to)))) files (loosens.within later (omega (arith, from, le)) to files image)
