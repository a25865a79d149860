-- What the images are while a frame's file is written, and how the steps of a finish make it up.
use Rattle.std.proofs.Common.{◌≡◌, ◌≢◌, inl, inr, ℕ, true, false, List, ◌∷◌, length, get_or, refl, sym, ◌∙◌, ap, subst, arith}
use Rattle.std.specs.Prelude.{Some, Ok, Err, Result, OnOk, ◌↔◌}
use Rattle.cf_base.specs.declared.file.FileId.{FileId}
use Rattle.cf_base.specs.declared.file.FileId.TheVariants.{Seal2, Body2}
use Rattle.sha2.specs.Sha256.{sha256}
use Rattle.reel_disk.specs.declared.disk.Place.TheVariants.{Whole}
use Rattle.reel_disk.specs.Disk.{Files, IsImage, IsFirm, loosened, History, moment_of, view_of, loose_of, with_file}
use Rattle.reel_disk.specs.Runs.{Extends, Surely, Spares}
use Rattle.reel_disk.proofs.Images.{view_is_image, firm_besides, restored, with_file_other}
use Rattle.reel_disk.proofs.Moments.{extends_along, leaves_along, keeps_along}
use Rattle.reel_disk.proofs.Sparing.{spared_image, spares_along, spares_wider}
use Rattle.resume_ledger.specs.Ledger.{LedgerState, IsLedgerFile, IsWrittenLedgerFile, HasRecord, Acks, Agrees}
use Rattle.resume_ledger.specs.Sound.{Reel, IsReel, IsFrameFile, IsSoundAt, IsSoundAndFit, IsStored}
use Rattle.resume_ledger.specs.Steps.{IsPut}
use Rattle.resume_ledger.proofs.LawProofs.{agrees_spared}
use Rattle.resume_ledger.proofs.Versions.{frame_apart, agrees_shown, acks_as, fit_as}
use Rattle.resume_ledger.proofs.Writing.{put_extends, put_leaves, put_keeps}
use Rattle.resume_ledger.specs.Safe.{IsSafeAck, IsSafeNote}
use Rattle.reel_writer.specs.Reel.{HasStored, IsWrittenFile}
use Rattle.reel_writer.specs.inside.Reel.{HasFrame, IsFinishing}

module _ (digest : List ℕ) (count i : ℕ) (file : FileId) (bytes : List ℕ) where
  -- one step, and then another
  pub finishing_along : (old mid new : History) → IsFinishing digest count i file bytes old mid → IsFinishing digest count i file bytes mid new → IsFinishing digest count i file bytes old new
  finishing_along old mid new first second = record {
    past = extends_along old mid new first.past second.past;
    keeps = λ k. keeps_along (Acks digest count k) old mid new first.past second.past (first.keeps k) (second.keeps k);
    sound = λ reel is_reel has all.
        let before = first.sound reel is_reel has all in
        leaves_along (IsSoundAndFit digest count reel) old mid new second.past before (second.sound reel is_reel has (before mid.now first.past.later (omega arith)));
    others = λ k other.
        let was = first.others k other mid.now first.past.later (omega arith) (view_of mid) (view_is_image (moment_of mid)) in
        leaves_along (λ files. Acks digest count k files ↔ Acks digest count k (view_of old)) old mid new second.past (first.others k other) (λ m from to files image.
        let is = second.others k other m from to files image in (λ acks. was.0 (is.0 acks), λ acks. is.1 (was.1 acks)));
    spares = spares_along old mid new (IsWrittenFile file) first.past second.past first.spares second.spares;
  }

module _ (old : History) (ledger : LedgerState) (agrees : Agrees (moment_of old) ledger) (i : ℕ) (fresh : get_or ledger.gates i false ≡ false) (file : FileId) (frame : IsFrameFile file) (mid : History) (bytes : List ℕ) (put : IsPut old mid (Whole file)) (spares : Spares old mid (λ q. q ≡ file)) where
  abbrev Acked : ℕ → Files → Type 0
  Acked k = Acks ledger.digest (length ledger.gates) k

  -- the frame's file is none of the ledger's
  other_file : (q : FileId) → IsLedgerFile q → q ≢ file
  other_file q own same = frame_apart file frame (subst IsLedgerFile same own)

  firm_then : (q : FileId) → IsLedgerFile q → IsFirm (loose_of old) q → IsFirm (Whole file ∷ loose_of old) q
  firm_then q own firm = firm_besides (loose_of old) q (Whole file) firm (λ same. other_file q own (sym same))

  -- with the file as it was, the image is one from before, with the same ledger
  abbrev before : Files → Files
  before files = with_file file (view_of old file) files

  same_ledger : (files : Files) (q : FileId) → IsLedgerFile q → files q ≡ before files q
  same_ledger files q own = sym (with_file_other file (view_of old file) files q (other_file q own))

  before_image : (files : Files) → IsImage (loosened (moment_of old) (Whole file)) files → IsImage (moment_of old) (before files)
  before_image files image = restored (moment_of old) (Whole file) files image

  -- each image acknowledges just what the ledger does
  acks_still : (k : ℕ) → Surely (loosened (moment_of old) (Whole file)) (λ files. Acked k files ↔ Acked k (view_of old))
  acks_still k files image =
      let now = agrees_shown (moment_of old) ledger agrees k (before files) (before_image files image) in
      let was = agrees_shown (moment_of old) ledger agrees k (view_of old) (view_is_image (moment_of old)) in (
        λ acks. was.0 (now.1 (acks_as files (before files) (λ q own. sym (same_ledger files q own)) ledger.digest (length ledger.gates) k acks)),
        λ acks. acks_as (before files) files (same_ledger files) ledger.digest (length ledger.gates) k (now.0 (was.1 acks)),
      )

  file_sound : (reel : Reel) → IsReel (length ledger.gates) reel → HasFrame (length ledger.gates) reel i file bytes → Surely (moment_of old) (IsSoundAndFit ledger.digest (length ledger.gates) reel)
      → Surely (loosened (moment_of old) (Whole file)) (IsSoundAndFit ledger.digest (length ledger.gates) reel)
  file_sound reel is_reel has all files image = record { sound = sound; fit = fit_as (before files) files (same_ledger files) ledger.digest (length ledger.gates) was.fit }
    where
      was : IsSoundAndFit ledger.digest (length ledger.gates) reel (before files)
      was = all (before files) (before_image files image)

      sound : (k : ℕ) → Acked k files → IsSoundAt reel k files
      sound k acks =
          let shown = (agrees_shown (moment_of old) ledger agrees k (view_of old) (view_is_image (moment_of old))).1 ((acks_still k files image).0 acks) in
          let other : k ≢ i = λ is. let set : get_or ledger.gates i false ≡ true = subst (λ n. get_or ledger.gates n false ≡ true) is shown in cc in
          let at = was.sound k (acks_as files (before files) (λ q own. sym (same_ledger files q own)) ledger.digest (length ledger.gates) k acks) in
          record {
            file = sym (with_file_other file (view_of old file) files (reel k).0 (has.apart k acks.within other)) ∙ at.file;
            hash = λ second.
                let noted = at.hash (sym (same_ledger files Seal2 (inr (inr (inl refl)))) ∙ second) in
                record { body = noted.body; there = same_ledger files Body2 (inr (inr (inr refl))) ∙ noted.there; is = noted.is };
          }

  -- a write of the file, and its sync
  pub wrote : IsFinishing ledger.digest (length ledger.gates) i file bytes old mid
  wrote = record {
    past = put_extends old mid (Whole file) put;
    keeps = λ k. put_keeps old mid (Whole file) put (Acked k) (λ acks files image. (acks_still k files image).1 acks);
    sound = λ reel is_reel has all. put_leaves old mid (Whole file) put (IsSoundAndFit ledger.digest (length ledger.gates) reel) (file_sound reel is_reel has all);
    others = λ k other. put_leaves old mid (Whole file) put (λ files. Acked k files ↔ Acked k (view_of old)) (acks_still k);
    spares = spares_wider old mid (λ q. q ≡ file) (IsWrittenFile file) (λ q is. inl is) spares;
  }

  pub agrees_still : Agrees (moment_of mid) ledger
  agrees_still = agrees_spared ledger old mid (put_extends old mid (Whole file) put) (spares_wider old mid (λ q. q ≡ file) (λ q. IsWrittenLedgerFile q → ⊥) (λ q is own. other_file q (written_is q own) is) spares) agrees
    where
      written_is : (q : FileId) → IsWrittenLedgerFile q → IsLedgerFile q
      written_is q (inl seal) = inr (inr (inl seal))
      written_is q (inr body) = inr (inr (inr body))

-- a note, and an acknowledgement, which write the second body alone
module _ (ledger : LedgerState) (i : ℕ) (file : FileId) (bytes : List ℕ) (frame : IsFrameFile file) (old new : History) where
  body_spares : Spares old new (λ q. q ≡ Body2) → Spares old new (IsWrittenFile file)
  body_spares spares = spares_wider old new (λ q. q ≡ Body2) (IsWrittenFile file) (λ q is. inr is) spares

  pub noted : IsSafeNote ledger old new → IsFinishing ledger.digest (length ledger.gates) i file bytes old new
  noted safe = record {
    past = safe.past;
    keeps = safe.none_lost;
    sound = λ reel is_reel has. (safe.run reel is_reel).sound;
    others = λ k other. safe.others k;
    spares = body_spares safe.spares;
  }

  pub acked : IsSafeAck i ledger old new → view_of old file ≡ Some bytes → IsFirm (loose_of old) file → HasRecord i (sha256 bytes) (view_of old)
      → IsFinishing ledger.digest (length ledger.gates) i file bytes old new
  acked safe there firm recorded = record {
    past = safe.past;
    keeps = safe.none_lost;
    sound = λ reel is_reel has. (safe.run reel is_reel (stored reel has)).sound;
    others = safe.others;
    spares = body_spares safe.spares;
  }
    where
      stored : (reel : Reel) → HasFrame (length ledger.gates) reel i file bytes → IsStored (moment_of old) reel i
      stored reel has = record {
        there = ap (view_of old) has.named ∙ there ∙ ap Some (sym has.holds);
        firm = subst (λ (x : FileId). IsFirm (loose_of old) x) (sym has.named) firm;
        noted = subst (λ (l : List ℕ). HasRecord i (sha256 l) (view_of old)) (sym has.holds) recorded;
      }

-- a frame's file is as it was where the second body alone is written, and as firm
module _ (file : FileId) (frame : IsFrameFile file) (old new : History) (past : Extends old new) (spares : Spares old new (λ q. q ≡ Body2)) where
  is_spared : file ≡ Body2 → ⊥
  is_spared body = frame_apart file frame (inr (inr (inr body)))

  pub shown_still : view_of new file ≡ view_of old file
  shown_still = spares.files new.now past.later (omega arith) file is_spared

  pub stored_still : (bytes : List ℕ) → view_of old file ≡ Some bytes → IsFirm (loose_of old) file → Surely (moment_of new) (HasStored file bytes)
  stored_still bytes there firm files image = spared_image old new (λ q. q ≡ Body2) spares file is_spared firm new.now past.later (omega arith) files image ∙ there

-- what holds whatever the answer is holds where it is Ok
pub given_ok : {A E : Type 0} (r : Result A E) (P : Type 0) → P → OnOk r P
given_ok (Ok a) P p = p
given_ok (Err e) P p = tt
