-- An adoption's answer, by what the old folder held before it was looked at.
use Rattle.std.proofs.Common.{◌≡◌, inl, inr, ℕ, ◌<◌, Bool, true, false, get_or, refl, ◌∙◌, ap, subst}
use Rattle.std.specs.Prelude.{◌⊎◌, ◌↔◌, Result, Ok, Err, IfErr, count_by}
use Rattle.conform_job.specs.Job.{JobData}
use Rattle.reel_disk.specs.Disk.{Files, Moment, History, IsStill, view_of}
use Rattle.cf_base.specs.declared.file.FileId.{FileId}
use Rattle.resume_ledger.specs.Attach.{IsRefused, IsRefusalFor, OpeningMayWrite}
use Rattle.resume_ledger.specs.Ledger.{IsFit}
use Rattle.resume_ledger.specs.Look.{ViewState, IsViewOf}
use Rattle.resume_ledger.specs.declared.attach.OpenFault.{OpenFault}
use Rattle.resume_ledger.specs.declared.attach.OpenFault.TheVariants as cause
use Rattle.reel_writer.specs.Reel.{frames_of, IsRunFile}
use Rattle.reel_writer.specs.View.{ReelView}
use Rattle.reconform.specs.declared.adopting.Adopted.{Adopted}
use Rattle.reconform.specs.declared.adopting.AdoptFault.{AdoptFault}
use Rattle.reconform.specs.declared.adopting.AdoptFault.TheVariants.{OldOtherJob, OldBadLedger, OtherJob, BadLedger, DiskFault, NoMemory}
use Rattle.reconform.specs.Adopt.{AdoptionMayWrite, HasAnswered, IsOfOld, WasOpenedWith, IsWhyUnadopted}
use Rattle.reconform.specs.inside.Adopt.{AsOpened, IsStop, by_old, by_new}
use Rattle.reconform.specs.Donor.{HasIntactDonor}

module _ (new old : JobData) (tells : Bool) (h mid after : History) (still : tells ≡ true → IsStill h mid) (before done : History) where
  same : tells ≡ true → view_of mid ≡ view_of h
  same told = ap (λ (m : Moment). m.view) (still told).same

  -- what was answered of the old folder behind the look holds of it before
  pub answered_along : (result : Result Adopted AdoptFault) → IfErr result (λ fault. IsOfOld fault → ⊥) → HasAnswered new old tells mid after before done result → HasAnswered new old tells h after before done result
  answered_along (Ok adopted) never a = record {
    view = a.view;
    looked = λ told. subst (λ (f : Files). IsViewOf old.parts.digest (frames_of old) f a.view) (same told) (a.looked told);
    kept = a.kept;
    opened = a.opened;
    acked = a.acked;
    exit = a.exit;
    fit = a.fit;
    exactly = λ told k lt. subst (λ (f : Files). (get_or a.acked k false ≡ true) ↔ ((get_or a.kept k false ≡ true) ⊎ HasIntactDonor new old a.view f k)) (same told) (a.exactly told k lt);
    kept_is = a.kept_is;
    adopted_is = a.adopted_is;
  }
  answered_along (Err (OldOtherJob kept wanted)) never a = absurd (never tt)
  answered_along (Err (OldBadLedger len)) never a = absurd (never tt)
  answered_along (Err (OtherJob kept wanted)) never a = (a.0, a.1, λ told. (subst (λ (f : Files). IsFit old.parts.digest (frames_of old) f) (same told) (a.2 told).0, (a.2 told).1))
  answered_along (Err (BadLedger len)) never a = λ told. (subst (λ (f : Files). IsFit old.parts.digest (frames_of old) f) (same told) (a told).0, (a told).1)
  answered_along (Err DiskFault) never a = tt
  answered_along (Err NoMemory) never a = tt

module _ (new old : JobData) (tells : Bool) (h after before done : History) where
  -- why the old folder wasn't looked at
  pub old_refused : (fault : OpenFault) → IsRefusalFor old.parts.digest fault → (tells ≡ true → IsRefused old.parts.digest (frames_of old) h after fault) → IsWhyUnadopted new old tells h after before done (by_old fault)
  old_refused (cause.OtherJob kept wanted) known is = (known.0, known.1, is)
  old_refused (cause.BadLedger len) known is = is
  old_refused cause.DiskFault known is = tt
  old_refused cause.NoMemory known is = tt

  -- and why the new one wasn't opened
  pub new_refused : (tells ≡ true → IsFit old.parts.digest (frames_of old) (view_of h)) → (fault : OpenFault) → IsRefusalFor new.parts.digest fault → (tells ≡ true → IsRefused new.parts.digest (frames_of new) before done fault) → IsWhyUnadopted new old tells h after before done (by_new fault)
  new_refused fit (cause.OtherJob kept wanted) known is = (known.0, known.1, λ told. (fit told, is told))
  new_refused fit (cause.BadLedger len) known is = λ told. (fit told, is told)
  new_refused fit cause.DiskFault known is = tt
  new_refused fit cause.NoMemory known is = tt

pub never_old : (fault : OpenFault) → IsOfOld (by_new fault) → ⊥
never_old (cause.OtherJob kept wanted) of = of
never_old (cause.BadLedger len) of = of
never_old cause.DiskFault of = of
never_old cause.NoMemory of = of

pub never_stop : (fault : AdoptFault) → IsStop fault → IsOfOld fault → ⊥
never_stop (OldOtherJob kept wanted) (inl is) of = cc
never_stop (OldOtherJob kept wanted) (inr is) of = cc
never_stop (OldBadLedger len) (inl is) of = cc
never_stop (OldBadLedger len) (inr is) of = cc
never_stop (OtherJob kept wanted) stop of = of
never_stop (BadLedger len) stop of = of
never_stop DiskFault stop of = of
never_stop NoMemory stop of = of

pub never_opened : {D : Type 0} (new old : JobData) (old_tells tells : Bool) (view : ViewState) (files : Files) (opened : ReelView D) (after : Files) (result : Result Adopted AdoptFault)
    → AsOpened new old old_tells tells view files opened after result → IfErr result (λ fault. IsOfOld fault → ⊥)
never_opened new old old_tells tells view files opened after (Ok done) did = tt
never_opened new old old_tells tells view files opened after (Err fault) did = never_stop fault did

-- what an adoption into an opened folder comes to
pub opened_answer : {D : Type 0} (new old : JobData) (old_tells tells : Bool) → old_tells ≡ tells → (view : ViewState) (h after before done : History) (opened : ReelView D)
    → (old_tells ≡ true → IsViewOf old.parts.digest (frames_of old) (view_of h) view)
    → (tells ≡ true → WasOpenedWith new (view_of before) opened.ledger.gates) → opened.kept ≡ count_by (λ gate. gate) opened.ledger.gates
    → (result : Result Adopted AdoptFault) → AsOpened new old old_tells tells view (view_of h) opened (view_of done) result → HasAnswered new old tells h after before done result
opened_answer new old old_tells tells one view h after before done opened viewed opening kept (Ok adopted) did = record {
  view = view;
  looked = λ told. viewed (one ∙ told);
  kept = opened.ledger.gates;
  opened = opening;
  acked = did.acked;
  exit = did.exit;
  fit = did.fit;
  exactly = λ told k lt. by told k lt;
  kept_is = did.kept_is ∙ kept;
  adopted_is = did.adopted_is;
}
  where
    by : tells ≡ true → (k : ℕ) → k < frames_of new → (get_or did.acked k false ≡ true) ↔ ((get_or opened.ledger.gates k false ≡ true) ⊎ HasIntactDonor new old view (view_of h) k)
    by told k lt = (forth, back)
      where
        forth : get_or did.acked k false ≡ true → (get_or opened.ledger.gates k false ≡ true) ⊎ HasIntactDonor new old view (view_of h) k
        forth is = elim ((did.exactly (one ∙ told) k).0 is) [
          | inl was ↦ inl was
          | inr here ↦ inr here.1
        ]

        back : (get_or opened.ledger.gates k false ≡ true) ⊎ HasIntactDonor new old view (view_of h) k → get_or did.acked k false ≡ true
        back (inl was) = (did.exactly (one ∙ told) k).1 (inl was)
        back (inr here) = (did.exactly (one ∙ told) k).1 (inr (lt, here))
opened_answer new old old_tells tells one view h after before done opened viewed opening kept (Err fault) did = stopped fault did
  where
    stopped : (fault : AdoptFault) → IsStop fault → IsWhyUnadopted new old tells h after before done fault
    stopped (OldOtherJob kept wanted) (inl is) = cc
    stopped (OldOtherJob kept wanted) (inr is) = cc
    stopped (OldBadLedger len) (inl is) = cc
    stopped (OldBadLedger len) (inr is) = cc
    stopped (OtherJob kept wanted) (inl is) = cc
    stopped (OtherJob kept wanted) (inr is) = cc
    stopped (BadLedger len) (inl is) = cc
    stopped (BadLedger len) (inr is) = cc
    stopped DiskFault stop = tt
    stopped NoMemory stop = tt

-- a fault of the disk is one of an opening
pub old_disk : (fault : OpenFault) → by_old fault ≡ DiskFault → fault ≡ cause.DiskFault
old_disk (cause.OtherJob kept wanted) is = cc
old_disk (cause.BadLedger len) is = cc
old_disk cause.DiskFault is = refl
old_disk cause.NoMemory is = cc

pub new_disk : (fault : OpenFault) → by_new fault ≡ DiskFault → fault ≡ cause.DiskFault
new_disk (cause.OtherJob kept wanted) is = cc
new_disk (cause.BadLedger len) is = cc
new_disk cause.DiskFault is = refl
new_disk cause.NoMemory is = cc

pub err_is : (a b : AdoptFault) → ◌≡◌ {A = Result Adopted AdoptFault} (Err a) (Err b) → a ≡ b
err_is a b is = cc

pub never_touched : (result : Result Adopted AdoptFault) (P : Type 0) → IfErr result (λ fault. IsOfOld fault → ⊥) → IfErr result (λ fault. IsOfOld fault → P)
never_touched (Ok done) P never = tt
never_touched (Err fault) P never = λ of. absurd (never of)

-- which files may be written, once both folders are open, and where the new one isn't opened
pub may_adopt : {D : Type 0} (new old : JobData) (old_tells tells : Bool) (view : ViewState) (files : Files) (opened : ReelView D) (after : Files) (q : FileId) (result : Result Adopted AdoptFault)
    → AsOpened new old old_tells tells view files opened after result → IsRunFile new 0 (frames_of new) q → AdoptionMayWrite new result q
may_adopt new old old_tells tells view files opened after q (Ok done) is own = own
may_adopt new old old_tells tells view files opened after q (Err (OldOtherJob kept wanted)) (inl is) own = absurd (cc)
may_adopt new old old_tells tells view files opened after q (Err (OldOtherJob kept wanted)) (inr is) own = absurd (cc)
may_adopt new old old_tells tells view files opened after q (Err (OldBadLedger len)) (inl is) own = absurd (cc)
may_adopt new old old_tells tells view files opened after q (Err (OldBadLedger len)) (inr is) own = absurd (cc)
may_adopt new old old_tells tells view files opened after q (Err (OtherJob kept wanted)) (inl is) own = absurd (cc)
may_adopt new old old_tells tells view files opened after q (Err (OtherJob kept wanted)) (inr is) own = absurd (cc)
may_adopt new old old_tells tells view files opened after q (Err (BadLedger len)) (inl is) own = absurd (cc)
may_adopt new old old_tells tells view files opened after q (Err (BadLedger len)) (inr is) own = absurd (cc)
may_adopt new old old_tells tells view files opened after q (Err DiskFault) is own = own
may_adopt new old old_tells tells view files opened after q (Err NoMemory) is own = own

pub may_refuse : (new : JobData) (q : FileId) (fault : OpenFault) → OpeningMayWrite (Err fault) q → AdoptionMayWrite new (Err (by_new fault)) q
may_refuse new q (cause.OtherJob kept wanted) own = absurd own
may_refuse new q (cause.BadLedger len) own = absurd own
may_refuse new q cause.DiskFault own = inl own
may_refuse new q cause.NoMemory own = absurd own
