-- A write and a sync after it.
use Rattle.std.proofs.Common.{◌≡◌, inl, inr, ℕ, List, sym, ◌∙◌, ap, subst, arith}
use Rattle.std.specs.Prelude.{Option}
use Rattle.cf_base.specs.declared.file.FileId.{FileId}
use Rattle.cf_base.specs.FileId.{decide_id}
use Rattle.reel_disk.specs.declared.disk.Place.{Place}
use Rattle.reel_disk.specs.declared.disk.Did.{Did}
use Rattle.reel_disk.specs.Disk.{Files, History, moment_of, view_of, loosened, file_of, IsLoose, IsWritten, IsSynced, HasSynced}
use Rattle.reel_disk.specs.Runs.{Extends, LeavesOnly, NeverForgets, Surely, Loosens, Spares}
use Rattle.reel_disk.proofs.Calls.{sync_narrows, loosens_leaves, loosens_keeps, narrows_leaves, narrows_keeps}
use Rattle.reel_disk.proofs.Moments.{extends_along, leaves_along, keeps_along}
use Rattle.reel_disk.proofs.Sparing.{spares_along, sync_spares}
use Rattle.resume_ledger.specs.Steps.{IsPut, IsFirmly}
use Rattle.resume_ledger.proofs.Reading.{narrows_itself}

-- a write alone
pub put_alone : (old new : History) (place : Place) → Loosens old new place → IsPut old new place
put_alone old new place loosens = record { mid = new; loosens = loosens; narrows = narrows_itself new }

-- a write and a sync
pub put_synced : (old mid new : History) (place : Place) (did : Did) → Loosens old mid place → HasSynced mid new (file_of place) did → IsPut old new place
put_synced old mid new place did loosens synced = record { mid = mid; loosens = loosens; narrows = sync_narrows mid new (file_of place) did synced }

pub spares_both : (old mid new : History) (id : FileId) (place : Place) (did : Did) → Loosens old mid place → Spares old mid (λ q. q ≡ id) → HasSynced mid new id did → Spares old new (λ q. q ≡ id)
spares_both old mid new id place did loosens spares synced = spares_along old mid new (λ q. q ≡ id) loosens.extends (sync_narrows mid new id did synced).extends spares (sync_spares mid new id did synced)

-- after both
pub firmly : (old mid new : History) (place : Place) (content : Option (List ℕ)) → IsWritten old mid place content → IsSynced mid new (file_of place) → IsFirmly old new (file_of place) content
firmly old mid new place content wrote synced = record {
  there = ap (λ (v : Files). v (file_of place)) synced.view ∙ wrote.there;
  same = λ q other. ap (λ (v : Files). v q) synced.view ∙ wrote.same q other;
  firm = synced.loose.firm;
  others = λ q was p there is. elim (decide_id q (file_of place)) [
    | inl same ↦ synced.loose.firm p there (is ∙ same)
    | inr apart ↦ elim (subst (λ (l : List Place). IsLoose l p) wrote.loose (synced.loose.was p there)) [
      | inl own ↦ apart (sym is ∙ ap file_of own)
      | inr before ↦ was p before is
    ]
  ];
}

module _ (old new : History) (place : Place) (put : IsPut old new place) where
  pub put_extends : Extends old new
  put_extends = extends_along old put.mid new put.loosens.extends put.narrows.extends

  -- what whatever is left of it has
  pub put_leaves : (P : Files → Type 0) → Surely (loosened (moment_of old) place) P → LeavesOnly old new P
  put_leaves P here =
      let first = loosens_leaves P old put.mid place put.loosens here in
      leaves_along P old put.mid new put.narrows.extends first (narrows_leaves P put.mid new put.narrows (first put.mid.now put.loosens.extends.later (omega arith)))

  -- what the view had, and whatever is left of it has
  pub put_keeps : (P : Files → Type 0) → (P (view_of old) → Surely (loosened (moment_of old) place) P) → NeverForgets old new P
  put_keeps P here = keeps_along P old put.mid new put.loosens.extends put.narrows.extends (loosens_keeps P old put.mid place put.loosens here) (narrows_keeps P put.mid new put.narrows)
