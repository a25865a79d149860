-- What each call leaves alone.
use Rattle.std.proofs.Common.{◌≡◌, inl, inr, ℕ, ◌≤◌, List, ◌∷◌, length, refl, ◌∙◌, ap, subst, arith}
use Rattle.std.proofs.lemmas.Bool.{cases_lt}
use Rattle.cf_base.specs.declared.file.FileId.{FileId}
use Rattle.reel_disk.specs.declared.disk.Place.{Place}
use Rattle.reel_disk.specs.declared.disk.Place.TheVariants.{Whole, Range}
use Rattle.reel_disk.specs.declared.disk.Did.{Did}
use Rattle.reel_disk.specs.declared.disk.Did.TheVariants.{Done, Failed}
use Rattle.reel_disk.specs.Disk.{Files, Moment, History, moment_of, view_of, loose_of, file_of, IsLoose, IsFirm, IsImage, Passes, IsStill, loosened, SameBut, HasWrittenWhole, HasWrittenAt, HasSynced}
use Rattle.reel_disk.specs.Runs.{Extends, Spares}
use Rattle.reel_disk.proofs.Images.{firm_image}
use Rattle.reel_disk.proofs.Moments.{when}

pub spares_itself : (h : History) (Mine : FileId → Type 0) → Spares h h Mine
spares_itself h Mine = record {
  files = λ m from to q other. ap (λ n. (h.past n).view q) (now m from to);
  loose = λ m from to p other there. subst (λ n. IsLoose (h.past n).loose p) (now m from to) there;
}
  where
    now : (m : ℕ) → h.now ≤ m → m ≤ h.now → m ≡ h.now
    now m from to = omega (arith, from, to)

pub spares_along : (old mid new : History) (Mine : FileId → Type 0) → Extends old mid → Extends mid new → Spares old mid Mine → Spares mid new Mine → Spares old new Mine
spares_along old mid new Mine reaches extends first second = record {
  files = λ m from to q other. elim (cases_lt mid.now m) [
    | inl late ↦ second.files m (omega (arith, late)) to q other ∙ first.files mid.now reaches.later (omega arith) q other
    | inr early ↦ ap (λ (x : Moment). x.view q) (extends.kept m early) ∙ first.files m from early q other
  ];
  loose = λ m from to p other there. elim (cases_lt mid.now m) [
    | inl late ↦ first.loose mid.now reaches.later (omega arith) p other (second.loose m (omega (arith, late)) to p other there)
    | inr early ↦ first.loose m from early p other (subst (λ (x : Moment). IsLoose x.loose p) (extends.kept m early) there)
  ];
}

-- what spares more, spares less
pub spares_wider : (old new : History) (Few Many : FileId → Type 0) → ((q : FileId) → Few q → Many q) → Spares old new Few → Spares old new Many
spares_wider old new Few Many more spares = record {
  files = λ m from to q other. spares.files m from to q (λ few. other (more q few));
  loose = λ m from to p other. spares.loose m from to p (λ few. other (more (file_of p) few));
}

-- A spared file that was firm is in each image, of each moment, as it was.
pub spared_image : (old new : History) (Mine : FileId → Type 0) → Spares old new Mine → (q : FileId) → (Mine q → ⊥) → IsFirm (loose_of old) q
    → (m : ℕ) → old.now ≤ m → m ≤ new.now → (files : Files) → IsImage (new.past m) files → files q ≡ view_of old q
spared_image old new Mine spares q other firm m from to files image =
    firm_image (new.past m) files q (λ p there is. firm p (spares.loose m from to p (λ mine. other (subst Mine is mine)) there) is) image ∙ spares.files m from to q other

-- one call, which makes no place loose but its own, and changes no file but its own
spares_call : (old new : History) (between : Moment) (Mine : FileId → Type 0) → Passes old new between
    → ((q : FileId) → (Mine q → ⊥) → between.view q ≡ view_of old q) → ((p : Place) → (Mine (file_of p) → ⊥) → IsLoose between.loose p → IsLoose (loose_of old) p)
    → ((q : FileId) → (Mine q → ⊥) → view_of new q ≡ view_of old q) → ((p : Place) → (Mine (file_of p) → ⊥) → IsLoose (loose_of new) p → IsLoose (loose_of old) p) → Spares old new Mine
spares_call old new between Mine passes view_then loose_then view_after loose_after = record {
  files = λ m from to q other. when old new between (λ (x : Moment). x.view q ≡ view_of old q) m passes from to refl (view_then q other) (view_after q other);
  loose = λ m from to p other. when old new between (λ (x : Moment). IsLoose x.loose p → IsLoose (loose_of old) p) m passes from to (λ there. there) (loose_then p other) (loose_after p other);
}

pub still_spares : (old new : History) (Mine : FileId → Type 0) → IsStill old new → Spares old new Mine
still_spares old new Mine still = spares_call old new (moment_of old) Mine still.passes (λ q other. refl) (λ p other there. there)
    (λ q other. ap (λ (x : Moment). x.view q) still.same) (λ p other there. subst (λ (x : Moment). IsLoose x.loose p) still.same there)

-- a place of another file, among those with this one loose besides, was loose
loose_besides : (loose : List Place) (place p : Place) → (file_of p ≡ file_of place → ⊥) → IsLoose (place ∷ loose) p → IsLoose loose p
loose_besides loose place p other (inl is) = absurd (other (ap file_of is))
loose_besides loose place p other (inr there) = there

-- a call that made its place loose
place_spares : (old new : History) (place : Place) → Passes old new (loosened (moment_of old) place) → loose_of new ≡ place ∷ loose_of old → SameBut (file_of place) (view_of old) (view_of new) → Spares old new (λ q. q ≡ file_of place)
place_spares old new place passes loose same = spares_call old new (loosened (moment_of old) place) (λ q. q ≡ file_of place) passes (λ q other. refl) (loose_besides (loose_of old) place)
    same (λ p other there. loose_besides (loose_of old) place p other (subst (λ (l : List Place). IsLoose l p) loose there))

pub write_spares : (old new : History) (id : FileId) (bytes : List ℕ) (did : Did) → HasWrittenWhole old new id bytes did → Spares old new (λ q. q ≡ id)
write_spares old new id bytes Done told = place_spares old new (Whole id) told.passes told.loose told.same
write_spares old new id bytes Failed (inl still) = still_spares old new (λ q. q ≡ id) still
write_spares old new id bytes Failed (inr left) = place_spares old new (Whole id) left.passes left.loose left.same

pub write_at_spares : (old new : History) (id : FileId) (start : ℕ) (bytes : List ℕ) (did : Did) → HasWrittenAt old new id start bytes did → Spares old new (λ q. q ≡ id)
write_at_spares old new id start bytes Done told = place_spares old new (Range id start (length bytes)) told.passes told.loose told.same
write_at_spares old new id start bytes Failed (inl still) = still_spares old new (λ q. q ≡ id) still
write_at_spares old new id start bytes Failed (inr left) = place_spares old new (Range id start (length bytes)) left.passes left.loose left.same

pub sync_spares : (old new : History) (id : FileId) (did : Did) → HasSynced old new id did → Spares old new (λ q. q ≡ id)
sync_spares old new id Done told = spares_call old new (moment_of old) (λ q. q ≡ id) told.passes (λ q other. refl) (λ p other there. there)
    (λ q other. ap (λ (v : Files). v q) told.view) (λ p other there. told.loose.was p there)
sync_spares old new id Failed told = spares_call old new (moment_of old) (λ q. q ≡ id) told.passes (λ q other. refl) (λ p other there. there)
    told.same (λ p other there. subst (λ (l : List Place). IsLoose l p) told.loose there)
