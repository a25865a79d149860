-- What the images are while version 2 is put in force, in an unsealed folder or in one of version 1.
use Rattle.std.proofs.Common.{◌≡◌, ◌≢◌, inl, inr, ℕ, ◌<◌, List, [], ◌∷◌, get_or, refl, sym, ◌∙◌, ap, subst, arith}
use Rattle.std.specs.Prelude.{◌⊎◌, Option, Some, None}
use Rattle.std.proofs.lemmas.Bool.{cases_eq}
use Rattle.cf_base.specs.declared.file.FileId.{FileId}
use Rattle.cf_base.specs.declared.file.FileId.TheVariants.{Seal, Body, Seal2, Body2}
use Rattle.reel_disk.specs.declared.disk.Place.TheVariants.{Whole}
use Rattle.reel_disk.specs.Disk.{Files, Moment, IsImage, IsFirm, loosened, History, moment_of, view_of, loose_of, with_file}
use Rattle.reel_disk.specs.Runs.{Extends, LeavesOnly, Surely, Spares}
use Rattle.reel_disk.proofs.Images.{view_is_image, firm_image, firm_besides, restored, with_file_other}
use Rattle.reel_disk.proofs.Moments.{extends_along, leaves_along}
use Rattle.reel_disk.proofs.Sparing.{spares_wider, spares_along}
use Rattle.resume_ledger.specs.declared.layout.Version.{Version}
use Rattle.resume_ledger.specs.declared.layout.Version.TheVariants.{One, Two}
use Rattle.resume_ledger.specs.Body.{layout_of}
use Rattle.resume_ledger.specs.Ledger.{IsLedgerFile, IsWrittenLedgerFile, IsInForce, HasOwn, Acks, IsFit}
use Rattle.resume_ledger.specs.Sound.{Reel, IsFrameFile, IsSoundAt, IsSoundAndFit, IsNamed, HasItsFiles}
use Rattle.resume_ledger.specs.Steps.{IsPut, IsFirmly}
use Rattle.resume_ledger.specs.Safe.{IsSafeOpening}
use Rattle.resume_ledger.specs.inside.Steps.{IsOlder, IsFirstBody}
use Rattle.resume_ledger.proofs.Bodies.{some_same}
use Rattle.resume_ledger.proofs.Versions.{acks_gate, fit_by, frame_apart}
use Rattle.resume_ledger.proofs.Reading.{spares_writes}
use Rattle.resume_ledger.proofs.Writing.{put_extends, put_leaves}

-- whether a list is another
decide_list : (a b : List ℕ) → (a ≡ b) ⊎ (a ≡ b → ⊥)
decide_list [] [] = inl refl
decide_list [] (y ∷ ys) = inr (λ e. cc)
decide_list (x ∷ xs) [] = inr (λ e. cc)
decide_list (x ∷ xs) (y ∷ ys) = elim (cases_eq x y) [
  | inl same ↦ elim (decide_list xs ys) [
    | inl rest ↦ inl (λ i. same i ∷ rest i)
    | inr other ↦ inr (λ e. other (let t : xs ≡ ys = cc in t))
  ]
  | inr other ↦ inr (λ e. other (let t : x ≡ y = cc in t))
]

-- whether a file has just these bytes
decide_file : (content : Option (List ℕ)) (bytes : List ℕ) → (content ≡ Some bytes) ⊎ (content ≡ Some bytes → ⊥)
decide_file None bytes = inr (λ e. cc)
decide_file (Some left) bytes = elim (decide_list left bytes) [
  | inl same ↦ inl (ap Some same)
  | inr other ↦ inr (λ e. other (some_same e))
]

module _ (digest : List ℕ) (count : ℕ) (name : ℕ → FileId) (size : ℕ) (before : Moment) (older : IsOlder digest count before) (body : List ℕ) (first : IsFirstBody digest count name size before.view body) where
  abbrev Acked : ℕ → Files → Type 0
  Acked k = Acks digest count k

  -- as before: version 2 does not count, and all that counts is as it was
  record AsBefore (now : Files) : Type 0 where
    pub not_second : IsInForce Two now → ⊥
    pub seal : now Seal ≡ before.view Seal
    pub body_is : IsInForce One before.view → now Body ≡ before.view Body

  -- version 2 counts, with that body
  record Begun (now : Files) : Type 0 where
    pub second : IsInForce Two now
    pub there : now Body2 ≡ Some body

  -- what holds of whatever a crash leaves on the way
  abbrev OnTheWay : Files → Type 0
  OnTheWay now = AsBefore now ⊎ Begun now

  before_to : (now : Files) → AsBefore now → (k : ℕ) (v : Version) → IsInForce v now → (has : HasOwn v digest count now) → k < count → get_or has.body ((layout_of v).gate k) 0 ≡ 65 → Acked k before.view
  before_to now was k Two in_force has within gate = absurd (was.not_second in_force)
  before_to now was k One in_force has within gate =
      let one : IsInForce One before.view = (older.not_second, sym was.seal ∙ in_force.1) in
      record { version = One; in_force = one; has = record { body = has.body; there = sym (was.body_is one) ∙ has.there; own = has.own }; within = within; gate = gate }

  before_from : (now : Files) → AsBefore now → (k : ℕ) (v : Version) → IsInForce v before.view → (has : HasOwn v digest count before.view) → k < count → get_or has.body ((layout_of v).gate k) 0 ≡ 65 → Acked k now
  before_from now was k Two in_force has within gate = absurd (older.not_second in_force)
  before_from now was k One in_force has within gate =
      record { version = One; in_force = (was.not_second, was.seal ∙ in_force.1); has = record { body = has.body; there = was.body_is in_force ∙ has.there; own = has.own }; within = within; gate = gate }

  abbrev begun_has : (now : Files) → Begun now → HasOwn Two digest count now
  begun_has now begun = record { body = body; there = begun.there; own = first.own }

  -- what is acknowledged on the way was acknowledged before
  way_was : (now : Files) (k : ℕ) → OnTheWay now → Acked k now → Acked k before.view
  way_was now k (inl was) acks = before_to now was k acks.version acks.in_force acks.has acks.within acks.gate
  way_was now k (inr begun) acks = ((first.gates k acks.within).0 (acks_gate digest count now k Two begun.second acks body begun.there)).0

  -- and what was acknowledged is so, where the frames' files are there
  way_keeps : HasItsFiles digest count name size before.view → (now : Files) (k : ℕ) → OnTheWay now → Acked k before.view → Acked k now
  way_keeps whole now k (inl was) acks = before_from now was k acks.version acks.in_force acks.has acks.within acks.gate
  way_keeps whole now k (inr begun) acks = record {
    version = Two;
    in_force = begun.second;
    has = begun_has now begun;
    within = acks.within;
    gate = (first.gates k acks.within).1 (acks, λ one. whole one k acks);
  }

  way_fit : (now : Files) → OnTheWay now → IsFit digest count now
  way_fit now (inl was) Two in_force = absurd (was.not_second in_force)
  way_fit now (inl was) One in_force =
      let one : IsInForce One before.view = (older.not_second, sym was.seal ∙ in_force.1) in
      let has = older.fit One one in
      record { body = has.body; there = was.body_is one ∙ has.there; own = has.own }
  way_fit now (inr begun) v in_force = fit_by digest count now Two begun.second (begun_has now begun) v in_force

  -- the files of the frames that were acknowledged are the reel's
  abbrev Safe : Reel → Files → Type 0
  Safe reel now = (k : ℕ) → Acked k before.view → now (reel k).0 ≡ Some (reel k).1

  module _ (reel : Reel) (is_reel : IsNamed count name reel) (safe : Safe reel before.view) where
    way_sound : (now : Files) → OnTheWay now → Safe reel now → IsSoundAndFit digest count reel now
    way_sound now way kept = record { sound = λ k acks. sound k way acks; fit = way_fit now way }
      where
        sound : (k : ℕ) → OnTheWay now → Acked k now → IsSoundAt reel k now
        sound k (inl was) acks = record { file = kept k (way_was now k (inl was) acks); hash = λ second. absurd (was.not_second second) }
        sound k (inr begun) acks =
            let was = way_was now k (inr begun) acks in
            let gate = acks_gate digest count now k Two begun.second acks body begun.there in
            record {
              file = kept k was;
              hash = λ _. record {
                body = body;
                there = begun.there;
                is = first.hashes k acks.within gate (reel k).1 (sym (ap before.view (is_reel k acks.within)) ∙ safe k was);
              };
            }

  -- what holds from the moment before to a later one
  record IsWay (old new : History) : Type 0 where
    pub extends : Extends old new
    pub way : LeavesOnly old new OnTheWay
    pub safe : (reel : Reel) → IsNamed count name reel → Surely (moment_of old) (Safe reel) → LeavesOnly old new (Safe reel)
    pub spares : Spares old new IsWrittenLedgerFile

  written_is : (q : FileId) → IsWrittenLedgerFile q → IsLedgerFile q
  written_is q (inl seal) = inr (inr (inl seal))
  written_is q (inr body) = inr (inr (inr body))

  view_before : (now : Files) → now ≡ before.view → AsBefore now
  view_before now is = record { not_second = λ second. older.not_second (subst (IsInForce Two) is second); seal = ap (λ (v : Files). v Seal) is; body_is = λ _. ap (λ (v : Files). v Body) is }

  -- the acknowledged frames are safe in each image of the moment before
  safe_before : (reel : Reel) → Surely before (IsSoundAndFit digest count reel) → Surely before (Safe reel)
  safe_before reel all now image k acks = ((all now image).sound k (before_from now (as_image now image) k acks.version acks.in_force acks.has acks.within acks.gate)).file
    where
      as_image : (now : Files) → IsImage before now → AsBefore now
      as_image now image = record {
        not_second = λ second. older.not_second (sym (firm_image before now Seal2 older.firm_second image) ∙ second);
        seal = firm_image before now Seal older.firm_first image;
        body_is = λ one. firm_image before now Body (older.firm_body one) image;
      }

  way_part : (old new : History) → moment_of old ≡ before → IsWay old new → IsSafeOpening digest count name size old new
  way_part old new is way = record {
    run = record {
      extends = way.extends;
      sound = λ reel is_reel all m from to now image.
          let all_before : Surely before (IsSoundAndFit digest count reel) = subst (λ (x : Moment). Surely x (IsSoundAndFit digest count reel)) is all in
          let safe = safe_before reel all_before in
          way_sound reel is_reel (safe before.view (view_is_image before)) now (way.way m from to now image) (way.safe reel is_reel (subst (λ (x : Moment). Surely x (Safe reel)) (sym is) safe) m from to now image);
      keeps = λ whole k m later from le to had now image.
          let shows = (new.past m).view in
          let here : IsImage (new.past m) shows = view_is_image (new.past m) in
          let was = way.way m from (omega (arith, le, to)) shows here in
          way_keeps (subst (λ (x : Moment). HasItsFiles digest count name size x.view) is whole) now k (way.way later (omega (arith, from, le)) to now image) (way_was shows k was (had shows here));
    };
    adds_none = λ k m from to now image acks.
        (view_of old, view_is_image (moment_of old), subst (λ (x : Moment). Acked k x.view) (sym is) (way_was now k (way.way m from to now image) acks));
    spares = spares_wider old new IsWrittenLedgerFile IsLedgerFile written_is way.spares;
    writes = spares_writes IsWrittenLedgerFile old new way.spares;
  }

  -- what is put elsewhere than into a frame's file leaves the frames safe
  safe_besides : ((i : ℕ) → i < count → IsFrameFile (name i)) → (reel : Reel) → IsNamed count name reel → (moment : Moment) (id : FileId) → IsLedgerFile id → Surely moment (Safe reel) → Surely (loosened moment (Whole id)) (Safe reel)
  safe_besides frames reel is_reel moment id own all now image k acks =
      let apart : (reel k).0 ≢ id = λ same. frame_apart (reel k).0 (subst IsFrameFile (sym (is_reel k acks.within)) (frames k acks.within)) (subst IsLedgerFile (sym same) own) in
      sym (with_file_other id (moment.view id) now (reel k).0 apart) ∙ all (with_file id (moment.view id) now) (restored moment (Whole id) now image) k acks

  -- while the second body is loose
  while_body : Surely (loosened before (Whole Body2)) OnTheWay
  while_body now image = inl (record {
    not_second = λ second. older.not_second (sym (firm_image (loosened before (Whole Body2)) now Seal2 (firm_besides before.loose Seal2 (Whole Body2) older.firm_second (λ same. cc)) image) ∙ second);
    seal = firm_image (loosened before (Whole Body2)) now Seal (firm_besides before.loose Seal (Whole Body2) older.firm_first (λ same. cc)) image;
    body_is = λ one. firm_image (loosened before (Whole Body2)) now Body (firm_besides before.loose Body (Whole Body2) (older.firm_body one) (λ same. cc)) image;
  })

  module _ (frames : (i : ℕ) → i < count → IsFrameFile (name i)) (old mid : History) (is : moment_of old ≡ before) (put : IsPut old mid (Whole Body2)) (spares : Spares old mid (λ q. q ≡ Body2)) where
    first_way : IsWay old mid
    first_way = record {
      extends = put_extends old mid (Whole Body2) put;
      way = put_leaves old mid (Whole Body2) put OnTheWay (subst (λ (x : Moment). Surely (loosened x (Whole Body2)) OnTheWay) (sym is) while_body);
      safe = λ reel is_reel all. put_leaves old mid (Whole Body2) put (Safe reel) (safe_besides frames reel is_reel (moment_of old) Body2 (inr (inr (inr refl))) all);
      spares = spares_wider old mid (λ q. q ≡ Body2) IsWrittenLedgerFile (λ q is. inr is) spares;
    }

    pub first_part : IsSafeOpening digest count name size old mid
    first_part = way_part old mid is first_way

    module _ (wrote : IsFirmly old mid Body2 (Some body)) (new : History) (sealing : IsPut mid new (Whole Seal2)) (spares2 : Spares mid new (λ q. q ≡ Seal2)) where
      firm_then : (q : FileId) → IsFirm before.loose q → IsFirm (loose_of mid) q
      firm_then q firm = wrote.others q (subst (λ (x : Moment). IsFirm x.loose q) (sym is) firm)

      view_then : (q : FileId) → q ≢ Body2 → view_of mid q ≡ before.view q
      view_then q other = wrote.same q other ∙ ap (λ (x : Moment). x.view q) is

      -- while the second seal is loose: either version counts
      while_seal : Surely (loosened (moment_of mid) (Whole Seal2)) OnTheWay
      while_seal now image = elim (decide_file (now Seal2) (layout_of Two).mark) [
        | inl second ↦ inr (record {
          second = second;
          there = firm_image (loosened (moment_of mid) (Whole Seal2)) now Body2 (firm_besides (loose_of mid) Body2 (Whole Seal2) wrote.firm (λ same. cc)) image ∙ wrote.there;
        })
        | inr other ↦ inl (record {
          not_second = other;
          seal = firm_image (loosened (moment_of mid) (Whole Seal2)) now Seal (firm_besides (loose_of mid) Seal (Whole Seal2) (firm_then Seal older.firm_first) (λ same. cc)) image ∙ view_then Seal (λ same. cc);
          body_is = λ one. firm_image (loosened (moment_of mid) (Whole Seal2)) now Body (firm_besides (loose_of mid) Body (Whole Seal2) (firm_then Body (older.firm_body one)) (λ same. cc)) image ∙ view_then Body (λ same. cc);
        })
      ]

      second_way : IsWay old new
      second_way =
          let extends2 = put_extends mid new (Whole Seal2) sealing in
          record {
            extends = extends_along old mid new first_way.extends extends2;
            way = leaves_along OnTheWay old mid new extends2 first_way.way (put_leaves mid new (Whole Seal2) sealing OnTheWay while_seal);
            safe = λ reel is_reel all.
                let part = first_way.safe reel is_reel all in
                leaves_along (Safe reel) old mid new extends2 part (put_leaves mid new (Whole Seal2) sealing (Safe reel) (safe_besides frames reel is_reel (moment_of mid) Seal2 (inr (inr (inl refl))) (part mid.now first_way.extends.later (omega arith))));
            spares = spares_along old mid new IsWrittenLedgerFile first_way.extends extends2 first_way.spares (spares_wider mid new (λ q. q ≡ Seal2) IsWrittenLedgerFile (λ q is. inl is) spares2);
          }

      pub second_part : IsSafeOpening digest count name size old new
      second_part = way_part old new is second_way
