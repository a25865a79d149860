-- Calls that sync the ledger's files and read them.
use Rattle.std.proofs.Common.{◌≡◌, inl, inr, ℕ, ◌<◌, ◌≤◌, Bool, true, List, ◌∷◌, refl, sym, ◌∙◌, ap, subst, arith}
use Rattle.std.proofs.lemmas.Bool.{cases_lt}
use Rattle.cf_base.specs.declared.file.FileId.{FileId}
use Rattle.reel_disk.specs.declared.disk.Place.{Place}
use Rattle.reel_disk.specs.declared.disk.Did.{Did}
use Rattle.reel_disk.specs.declared.disk.Got.{Got}
use Rattle.reel_disk.specs.declared.disk.Length.{Length}
use Rattle.reel_disk.specs.declared.disk.Did.TheVariants.{Done, Failed}
use Rattle.reel_disk.specs.Disk.{Files, Moment, History, moment_of, view_of, loose_of, IsImage, IsFirm, IsLoose, IsStill, HasSynced}
use Rattle.reel_disk.specs.Runs.{Extends, Narrows, Spares}
use Rattle.reel_disk.specs.Call.{Measured, Read, writes_in}
use Rattle.reel_disk.specs.State.{DiskState, OnlyReads}
use Rattle.reel_disk.proofs.Calls.{sync_narrows, still_narrows, narrows_along, narrows_leaves, narrows_keeps}
use Rattle.reel_disk.proofs.Images.{firm_image, view_is_image}
use Rattle.reel_disk.proofs.Moments.{extends_itself, extends_along, leaves_along, keeps_along, when}
use Rattle.reel_disk.proofs.Sparing.{still_spares, sync_spares, spares_itself, spares_wider, spares_along}
use Rattle.resume_ledger.specs.declared.layout.Version.{Version}
use Rattle.resume_ledger.specs.declared.layout.Version.TheVariants.{One, Two}
use Rattle.resume_ledger.specs.Body.{layout_of}
use Rattle.resume_ledger.specs.Ledger.{IsLedgerFile, IsWrittenLedgerFile, Acks}
use Rattle.resume_ledger.specs.Sound.{WritesOnly, IsSoundAndFit, Possibly, HasItsFiles}
use Rattle.resume_ledger.specs.Attach.{IsUnwritten}
use Rattle.resume_ledger.specs.Safe.{IsSafeOpening}
use Rattle.resume_ledger.specs.inside.Steps.{IsReading}

-- no call at all
pub narrows_itself : (h : History) → Narrows h h
narrows_itself h = record {
  extends = extends_itself h;
  within = λ m later from le to files image. let same : later ≡ m = omega (arith, from, le, to) in subst (λ n. IsImage (h.past n) files) same image;
}

pub unwritten_itself : (h : History) → IsUnwritten h h
unwritten_itself h = record { narrows = narrows_itself h; view = refl }

pub still_view : (old new : History) → IsStill old new → view_of new ≡ view_of old
still_view old new still = ap (λ (m : Moment). m.view) still.same

pub still_unwritten : (old new : History) → IsStill old new → IsUnwritten old new
still_unwritten old new still = record { narrows = still_narrows old new still; view = still_view old new still }

-- two calls that change nothing
pub still_along : (old mid new : History) → IsStill old mid → IsStill mid new → IsStill old new
still_along old mid new first second = record {
  passes = record {
    later = omega (arith, first.passes.later, second.passes.later);
    kept = λ m le. second.passes.kept m (omega (arith, le, first.passes.later)) ∙ first.passes.kept m le;
    inside = between;
  };
  same = second.same ∙ first.same;
}
  where
    between : (m : ℕ) → old.now < m → m < new.now → new.past m ≡ moment_of old
    between m after before = elim (cases_lt m mid.now) [
      | inl early ↦ second.passes.kept m (omega (arith, early)) ∙ first.passes.inside m after early
      | inr late ↦ elim (cases_lt mid.now m) [
        | inl inside ↦ second.passes.inside m inside before ∙ first.same
        | inr last ↦ second.passes.kept m last ∙ ap mid.past (omega (arith, late, last)) ∙ first.same
      ]
    ]

-- the same, and what is written meanwhile: nothing
pub still_itself : (h : History) → IsStill h h
still_itself h = record {
  passes = record { later = omega arith; kept = λ m le. refl; inside = λ m from to. absurd (omega (arith, from, to)) };
  same = refl;
}

pub reads_none : {tells : Bool} {a : DiskState} → OnlyReads tells a a
reads_none {a = a} = record { still = λ told. still_itself a.history; writes = refl }

pub measured_once : {tells : Bool} {a b : DiskState} {id : FileId} {len : Length} → (tells ≡ true → IsStill a.history b.history)
    → b.calls ≡ Measured id len ∷ a.calls → OnlyReads tells a b
measured_once still call = record { still = still; writes = ap writes_in call }

pub read_once : {tells : Bool} {a b : DiskState} {id : FileId} {start : ℕ} {into : List ℕ} {got : Got} → (tells ≡ true → IsStill a.history b.history)
    → b.calls ≡ Read id start into got ∷ a.calls → OnlyReads tells a b
read_once still call = record { still = still; writes = ap writes_in call }

pub reads_along : {tells : Bool} {a b c : DiskState} → OnlyReads tells a b → OnlyReads tells b c → OnlyReads tells a c
reads_along {a = a} {b = b} {c = c} first second = record {
  still = λ told. still_along a.history b.history c.history (first.still told) (second.still told);
  writes = second.writes ∙ first.writes;
}

module _ (Mine : FileId → Type 0) where
  -- what is spared is not written
  pub spares_writes : (old new : History) → Spares old new Mine → WritesOnly old new Mine
  spares_writes old new spares = record { files = λ m from to q other firm. spares.files m from to q other; loose = spares.loose }

  -- calls that make nothing loose, and after which the view is an image of what was
  pub narrows_writes : (old new : History) → Narrows old new → ((m : ℕ) → old.now ≤ m → m ≤ new.now → (p : Place) → IsLoose (new.past m).loose p → IsLoose (loose_of old) p) → WritesOnly old new Mine
  narrows_writes old new narrows fewer = record {
    files = λ m from to q other firm.
        let here : IsImage (new.past old.now) (new.past m).view = narrows.within old.now m (omega arith) from to (new.past m).view (view_is_image (new.past m)) in
        firm_image (moment_of old) (new.past m).view q firm (subst (λ (x : Moment). IsImage x (new.past m).view) (narrows.extends.kept old.now (omega arith)) here);
    loose = λ m from to p other there. fewer m from to p there;
  }

  pub writes_along : (old mid new : History) → Extends old mid → Extends mid new → WritesOnly old mid Mine → WritesOnly mid new Mine → WritesOnly old new Mine
  writes_along old mid new reaches extends first second = record {
    files = λ m from to q other firm. elim (cases_lt mid.now m) [
      | inl late ↦
          let firm_mid : IsFirm (loose_of mid) q = λ p there is. firm p (first.loose mid.now reaches.later (omega arith) p (λ mine. other (subst Mine is mine)) there) is in
          second.files m (omega (arith, late)) to q other firm_mid ∙ first.files mid.now reaches.later (omega arith) q other firm
      | inr early ↦ ap (λ (x : Moment). x.view q) (extends.kept m early) ∙ first.files m from early q other firm
    ];
    loose = λ m from to p other there. elim (cases_lt mid.now m) [
      | inl late ↦ first.loose mid.now reaches.later (omega arith) p other (second.loose m (omega (arith, late)) to p other there)
      | inr early ↦ first.loose m from early p other (subst (λ (x : Moment). IsLoose x.loose p) (extends.kept m early) there)
    ];
  }

sync_fewer : (old new : History) (id : FileId) (did : Did) → HasSynced old new id did → (m : ℕ) → old.now ≤ m → m ≤ new.now → (p : Place) → IsLoose (new.past m).loose p → IsLoose (loose_of old) p
sync_fewer old new id Done told m from to p = when old new (moment_of old) (λ (x : Moment). IsLoose x.loose p → IsLoose (loose_of old) p) m told.passes from to (λ there. there) (λ there. there) (told.loose.was p)
sync_fewer old new id Failed told m from to p = when old new (moment_of old) (λ (x : Moment). IsLoose x.loose p → IsLoose (loose_of old) p) m told.passes from to (λ there. there) (λ there. there) (λ there. subst (λ (l : List Place). IsLoose l p) told.loose there)

pub sync_reading : (old new : History) (id : FileId) (did : Did) → IsLedgerFile id → HasSynced old new id did → IsReading old new
sync_reading old new id did own told = record {
  narrows = sync_narrows old new id did told;
  spares = spares_wider old new (λ q. q ≡ id) IsLedgerFile (λ q is. subst IsLedgerFile (sym is) own) (sync_spares old new id did told);
  writes = narrows_writes IsWrittenLedgerFile old new (sync_narrows old new id did told) (sync_fewer old new id did told);
}

pub still_reading : (old new : History) → IsStill old new → IsReading old new
still_reading old new still = record {
  narrows = still_narrows old new still;
  spares = still_spares old new IsLedgerFile still;
  writes = spares_writes IsWrittenLedgerFile old new (still_spares old new IsWrittenLedgerFile still);
}

pub reading_along : (old mid new : History) → IsReading old mid → IsReading mid new → IsReading old new
reading_along old mid new first second = record {
  narrows = narrows_along old mid new first.narrows second.narrows;
  spares = spares_along old mid new IsLedgerFile first.narrows.extends second.narrows.extends first.spares second.spares;
  writes = writes_along IsWrittenLedgerFile old mid new first.narrows.extends second.narrows.extends first.writes second.writes;
}

pub reading_itself : (h : History) → IsReading h h
reading_itself h = record {
  narrows = narrows_itself h;
  spares = spares_itself h IsLedgerFile;
  writes = spares_writes IsWrittenLedgerFile h h (spares_itself h IsWrittenLedgerFile);
}

-- the files of a version are the ledger's
seal_file : (version : Version) → IsLedgerFile (layout_of version).seal
seal_file One = inl refl
seal_file Two = inr (inr (inl refl))

body_file : (version : Version) → IsLedgerFile (layout_of version).body
body_file One = inr (inl refl)
body_file Two = inr (inr (inr refl))

-- a sync of one of them, and reads after it
module _ (version : Version) (id : FileId) (old mid : History) (did : Did) (told : HasSynced old mid id did) where
  pub seal_reading : id ≡ (layout_of version).seal → IsReading old mid
  seal_reading is = sync_reading old mid id did (subst IsLedgerFile (sym is) (seal_file version)) told

  pub body_reading : id ≡ (layout_of version).body → IsReading old mid
  body_reading is = sync_reading old mid id did (subst IsLedgerFile (sym is) (body_file version)) told

  module _ (new : History) (still : IsStill mid new) where
    pub seal_read : id ≡ (layout_of version).seal → IsReading old new
    seal_read is = reading_along old mid new (seal_reading is) (still_reading mid new still)

    pub body_read : id ≡ (layout_of version).body → IsReading old new
    body_read is = reading_along old mid new (body_reading is) (still_reading mid new still)

-- a part of an opening
module _ (digest : List ℕ) (count : ℕ) (name : ℕ → FileId) (size : ℕ) where
  pub reading_part : (old new : History) → IsReading old new → IsSafeOpening digest count name size old new
  reading_part old new reading = record {
    run = record {
      extends = reading.narrows.extends;
      sound = λ reel is_reel. narrows_leaves (IsSoundAndFit digest count reel) old new reading.narrows;
      keeps = λ whole k. narrows_keeps (Acks digest count k) old new reading.narrows;
    };
    adds_none = λ k. narrows_leaves (λ (now : Files). Acks digest count k now → Possibly (moment_of old) (Acks digest count k)) old new reading.narrows (λ now image acks. (now, image, acks));
    spares = reading.spares;
    writes = reading.writes;
  }

  -- behind calls that only sync and read
  pub part_along : (old mid new : History) → IsReading old mid → view_of mid ≡ view_of old → IsSafeOpening digest count name size mid new → IsSafeOpening digest count name size old new
  part_along old mid new reading view part =
      let first = reading_part old mid reading in
      record {
        run = record {
          extends = extends_along old mid new reading.narrows.extends part.run.extends;
          sound = λ reel is_reel all.
              let before = first.run.sound reel is_reel all in
              leaves_along (IsSoundAndFit digest count reel) old mid new part.run.extends before (part.run.sound reel is_reel (before mid.now reading.narrows.extends.later (omega arith)));
          keeps = λ whole k. keeps_along (Acks digest count k) old mid new reading.narrows.extends part.run.extends (first.run.keeps whole k) (part.run.keeps (subst (HasItsFiles digest count name size) (sym view) whole) k);
        };
        adds_none = λ k. leaves_along (λ (now : Files). Acks digest count k now → Possibly (moment_of old) (Acks digest count k)) old mid new part.run.extends (first.adds_none k)
            (λ m from to now image acks.
            let was = part.adds_none k m from to now image acks in
            first.adds_none k mid.now reading.narrows.extends.later (omega arith) was.0 was.1 was.2);
        spares = spares_along old mid new IsLedgerFile reading.narrows.extends part.run.extends reading.spares part.spares;
        writes = writes_along IsWrittenLedgerFile old mid new reading.narrows.extends part.run.extends reading.writes part.writes;
      }
