-- What the images are while a part of a frame's 33 bytes is written: its record, or its gate.
use Rattle.std.proofs.Common.{◌≡◌, ◌≢◌, inl, inr, ℕ, ◌+◌, ◌*◌, ◌<◌, ◌≤◌, min, false, List, ◌∷◌, ◌-◌, length, get_or, drop, sym, ◌∙◌, ap, subst, arith, length-take, length-drop}
use Rattle.std.specs.Prelude.{Some, ◌↔◌}
use Rattle.std.proofs.lemmas.Bool.{cases_eq}
use Rattle.std.proofs.lemmas.List.{get_or-take, get_or-drop}
use Rattle.std.proofs.lemmas.Grind.{same_number_lists}
use Rattle.cf_base.specs.declared.file.FileId.TheVariants.{Seal2, Body2}
use Rattle.reel_disk.specs.declared.disk.Place.{Place}
use Rattle.reel_disk.specs.declared.disk.Place.TheVariants.{Range}
use Rattle.reel_disk.specs.Disk.{Files, Moment, IsImage, IsFirm, loosened, History, moment_of, view_of, loose_of, with_file}
use Rattle.reel_disk.specs.Runs.{Spares, Surely}
use Rattle.reel_disk.proofs.Images.{firm_image, firm_besides, range_image, restored, view_is_image, with_file_here, with_file_other}
use Rattle.resume_ledger.specs.declared.layout.Version.TheVariants.{Two}
use Rattle.resume_ledger.specs.Body.{layout_of, IsOwn, record_of}
use Rattle.resume_ledger.specs.Ledger.{LedgerState, IsInForce, HasOwn, Acks, Agrees}
use Rattle.resume_ledger.specs.Safe.{IsSafeAck, IsSafeNote}
use Rattle.resume_ledger.specs.Sound.{Reel, IsReel, IsSoundAt, IsSoundAndFit, IsStored, IsRun, KeepsAcks, AddsNothing, AddsAtMost}
use Rattle.resume_ledger.specs.Steps.{IsPut}
use Rattle.resume_ledger.proofs.Bodies.{some_same, own_along}
use Rattle.resume_ledger.proofs.Versions.{frame_apart, acks_gate, fit_by, agrees_shown}
use Rattle.resume_ledger.proofs.Writing.{put_extends, put_leaves, put_keeps}

-- a record is the same where its bytes are
pub record_same : (left body : List ℕ) (k : ℕ) → length left ≡ length body → ((n : ℕ) → 65 + 33 * k ≤ n → n < 97 + 33 * k → get_or left n 0 ≡ get_or body n 0) → record_of left k ≡ record_of body k
record_same left body k size each = same_number_lists (record_of left k) (record_of body k)
    (length-take 32 (drop (65 + 33 * k) left) ∙ ap (min 32) (length-drop (65 + 33 * k) left ∙ ap (λ n. n - (65 + 33 * k)) size ∙ sym (length-drop (65 + 33 * k) body)) ∙ sym (length-take 32 (drop (65 + 33 * k) body)))
    (λ n lt.
    let below : n < 32 = omega (arith, lt, length-take 32 (drop (65 + 33 * k) left)) in
    get_or-take 32 (drop (65 + 33 * k) left) n 0 below ∙ get_or-drop (65 + 33 * k) left n 0
    ∙ each (65 + 33 * k + n) (omega arith) (omega (arith, below))
    ∙ sym (get_or-drop (65 + 33 * k) body n 0) ∙ sym (get_or-take 32 (drop (65 + 33 * k) body) n 0 below))

module _ (moment : Moment) (ledger : LedgerState) (agrees : Agrees moment ledger) (i : ℕ) (within : i < length ledger.gates) (start len : ℕ) (low : 64 + 33 * i ≤ start) (high : start + len ≤ 97 + 33 * i) where
  abbrev count : ℕ
  count = length ledger.gates

  abbrev body : List ℕ
  body = agrees.has.body

  abbrev place : Place
  place = Range Body2 start len

  -- what is left of the body is as the view has it but for that part
  record Torn (files : Files) : Type 0 where
    pub second : IsInForce Two files
    pub left : List ℕ
    pub there : files Body2 ≡ Some left
    pub size : length left ≡ length body
    pub same : (n : ℕ) → n < length body → ((start ≤ n) × (n < start + len) → ⊥) → get_or left n 0 ≡ get_or body n 0

  torn : (files : Files) → IsImage (loosened moment place) files → Torn files
  torn files image =
      let here = range_image moment Body2 start len body files agrees.has.there agrees.firm_body image in
      record {
        second = firm_image (loosened moment place) files Seal2 (firm_besides moment.loose Seal2 place agrees.firm_seal (λ same. cc)) image ∙ agrees.sealed;
        left = here.0;
        there = here.1;
        size = here.2;
        same = here.3;
      }

  module _ (files : Files) (t : Torn files) where
    own : IsOwn (layout_of Two) ledger.digest count t.left
    own = own_along ledger.digest count body t.left agrees.has.own t.size (λ k lt. t.same k (omega (arith, lt, agrees.has.own.size)) (λ inside. omega (arith, inside.0, lt, low)))

    abbrev has : HasOwn Two ledger.digest count files
    has = record { body = t.left; there = t.there; own = own }

    other_gate : (k : ℕ) → k < count → k ≢ i → get_or t.left (64 + 33 * k) 0 ≡ get_or body (64 + 33 * k) 0
    other_gate k lt other = t.same (64 + 33 * k) (omega (arith, lt, agrees.has.own.size)) (λ inside. other (omega (arith, inside.0, inside.1, low, high)))

    other_record : (k : ℕ) → k < count → k ≢ i → record_of t.left k ≡ record_of body k
    other_record k lt other = record_same t.left body k t.size (λ n from to. t.same n (omega (arith, lt, to, agrees.has.own.size)) (λ inside. other (omega (arith, from, to, inside.0, inside.1, low, high))))

    -- a frame whose gate is as the view has it
    same_acks : (k : ℕ) → (k < count → get_or t.left (64 + 33 * k) 0 ≡ get_or body (64 + 33 * k) 0) → Acks ledger.digest count k files ↔ Acks ledger.digest count k moment.view
    same_acks k gates = (
      (λ acks. record {
        version = Two;
        in_force = agrees.sealed;
        has = agrees.has;
        within = acks.within;
        gate = sym (gates acks.within) ∙ acks_gate ledger.digest count files k Two t.second acks t.left t.there;
      }),
      (λ acks. record {
        version = Two;
        in_force = t.second;
        has = has;
        within = acks.within;
        gate = gates acks.within ∙ acks_gate ledger.digest count moment.view k Two agrees.sealed acks body agrees.has.there;
      }),
    )

    other_acks : (k : ℕ) → k ≢ i → Acks ledger.digest count k files ↔ Acks ledger.digest count k moment.view
    other_acks k other = same_acks k (λ lt. other_gate k lt other)

  -- the image with the view's body in the place of what is left
  abbrev before : Files → Files
  before files = with_file Body2 (moment.view Body2) files

  not_body : (reel : Reel) → IsReel count reel → (k : ℕ) → k < count → (reel k).0 ≢ Body2
  not_body reel is_reel k lt same = frame_apart (reel k).0 (is_reel k lt) (inr (inr (inr same)))

  -- another frame is as sound as it was
  other_sound : (reel : Reel) → IsReel count reel → (files : Files) → IsImage (loosened moment place) files → IsSoundAndFit ledger.digest count reel (before files) → (k : ℕ) → k ≢ i → Acks ledger.digest count k files → IsSoundAt reel k files
  other_sound reel is_reel files image was k other acks =
      let t = torn files image in
      let second : IsInForce Two (before files) = with_file_other Body2 (moment.view Body2) files Seal2 (λ same. cc) ∙ t.second in
      let there = with_file_here Body2 (moment.view Body2) files ∙ agrees.has.there in
      let acked : Acks ledger.digest count k (before files) = record {
        version = Two;
        in_force = second;
        has = record { body = body; there = there; own = agrees.has.own };
        within = acks.within;
        gate = sym (other_gate files t k acks.within other) ∙ acks_gate ledger.digest count files k Two t.second acks t.left t.there;
      } in
      let sound = was.sound k acked in
      record {
        file = sym (with_file_other Body2 (moment.view Body2) files (reel k).0 (not_body reel is_reel k acks.within)) ∙ sound.file;
        hash = λ _.
            let noted = sound.hash second in
            let same : noted.body ≡ body = some_same (sym noted.there ∙ there) in
            record { body = t.left; there = t.there; is = other_record files t k acks.within other ∙ sym (ap (λ (l : List ℕ). record_of l k) same) ∙ noted.is };
      }

  -- each image is sound and fit where each was, and frame i is sound where it is acknowledged
  torn_sound : (reel : Reel) → IsReel count reel → ((files : Files) → IsImage (loosened moment place) files → Acks ledger.digest count i files → IsSoundAt reel i files)
      → Surely moment (IsSoundAndFit ledger.digest count reel) → Surely (loosened moment place) (IsSoundAndFit ledger.digest count reel)
  torn_sound reel is_reel mine all files image = record {
    sound = λ k acks. elim (cases_eq k i) [
      | inl is ↦ subst (λ n. IsSoundAt reel n files) (sym is) (mine files image (subst (λ n. Acks ledger.digest count n files) is acks))
      | inr other ↦ other_sound reel is_reel files image (all (before files) (restored moment place files image)) k other acks
    ];
    fit = let t = torn files image in fit_by ledger.digest count files Two t.second (has files t);
  }

  module _ (fresh : get_or ledger.gates i false ≡ false) where
    -- the frame isn't acknowledged yet
    pub not_yet : Acks ledger.digest count i moment.view → ⊥
    not_yet acks = let set = (agrees_shown moment ledger agrees i moment.view (view_is_image moment)).1 acks in cc

    torn_keeps : (k : ℕ) → Acks ledger.digest count k moment.view → Surely (loosened moment place) (Acks ledger.digest count k)
    torn_keeps k acks files image =
        (other_acks files (torn files image) k (λ is. not_yet (subst (λ n. Acks ledger.digest count n moment.view) is acks))).1 acks

-- a write of such a part, and its sync
module _ (old new : History) (ledger : LedgerState) (agrees : Agrees (moment_of old) ledger) (i : ℕ) (within : i < length ledger.gates) (fresh : get_or ledger.gates i false ≡ false) where
  module _ (start len : ℕ) (low : 64 + 33 * i ≤ start) (high : start + len ≤ 97 + 33 * i) (put : IsPut old new (Range Body2 start len)) where
    pub part_keeps : KeepsAcks ledger.digest (length ledger.gates) old new
    part_keeps k = put_keeps old new (Range Body2 start len) put (Acks ledger.digest (length ledger.gates) k) (torn_keeps (moment_of old) ledger agrees i within start len low high fresh k)

    pub part_others : AddsAtMost i ledger.digest (length ledger.gates) old new
    part_others k other = put_leaves old new (Range Body2 start len) put (λ files. Acks ledger.digest (length ledger.gates) k files ↔ Acks ledger.digest (length ledger.gates) k (view_of old))
        (λ files image. other_acks (moment_of old) ledger agrees i within start len low high files (torn (moment_of old) ledger agrees i within start len low high files image) k other)

    part_run : (reel : Reel) → IsReel (length ledger.gates) reel
        → ((files : Files) → IsImage (loosened (moment_of old) (Range Body2 start len)) files → Acks ledger.digest (length ledger.gates) i files → IsSoundAt reel i files) → IsRun ledger.digest (length ledger.gates) reel old new
    part_run reel is_reel mine = record {
      extends = put_extends old new (Range Body2 start len) put;
      sound = λ all. put_leaves old new (Range Body2 start len) put (IsSoundAndFit ledger.digest (length ledger.gates) reel) (torn_sound (moment_of old) ledger agrees i within start len low high reel is_reel mine all);
      keeps = part_keeps;
    }

  -- of the record
  module _ (start len : ℕ) (at : start ≡ 65 + 33 * i) (size : len ≡ 32) (had : IsPut old new (Range Body2 start len)) where
    put : IsPut old new (Range Body2 (65 + 33 * i) len)
    put = subst (λ n. IsPut old new (Range Body2 n len)) at had

    low : 64 + 33 * i ≤ 65 + 33 * i
    low = omega arith

    high : 65 + 33 * i + len ≤ 97 + 33 * i
    high = omega (arith, size)

    note_acks : (files : Files) → IsImage (loosened (moment_of old) (Range Body2 (65 + 33 * i) len)) files → (k : ℕ) → Acks ledger.digest (length ledger.gates) k files ↔ Acks ledger.digest (length ledger.gates) k (view_of old)
    note_acks files image k =
        let t = torn (moment_of old) ledger agrees i within (65 + 33 * i) len low high files image in
        same_acks (moment_of old) ledger agrees i within (65 + 33 * i) len low high files t k (λ lt. t.same (64 + 33 * k) (omega (arith, lt, agrees.has.own.size)) (λ inside. omega (arith, inside.0, inside.1, size)))

    note_keeps : KeepsAcks ledger.digest (length ledger.gates) old new
    note_keeps = part_keeps (65 + 33 * i) len low high put

    note_others : AddsNothing ledger.digest (length ledger.gates) old new
    note_others k = put_leaves old new (Range Body2 (65 + 33 * i) len) put (λ files. Acks ledger.digest (length ledger.gates) k files ↔ Acks ledger.digest (length ledger.gates) k (view_of old)) (λ files image. note_acks files image k)

    note_run : (reel : Reel) → IsReel (length ledger.gates) reel → IsRun ledger.digest (length ledger.gates) reel old new
    note_run reel is_reel = part_run (65 + 33 * i) len low high put reel is_reel (λ files image acks. absurd (not_yet (moment_of old) ledger agrees i within (65 + 33 * i) len low high fresh ((note_acks files image i).0 acks)))

    pub note_safe : Spares old new (λ q. q ≡ Body2) → IsSafeNote ledger old new
    note_safe spares = record { past = put_extends old new (Range Body2 start len) had; run = note_run; none_lost = note_keeps; others = note_others; spares = spares }

  -- of the gate
  module _ (start : ℕ) (at : start ≡ 64 + 33 * i) (had : IsPut old new (Range Body2 start 1)) where
    opens : IsPut old new (Range Body2 (64 + 33 * i) 1)
    opens = subst (λ n. IsPut old new (Range Body2 n 1)) at had

    from : 64 + 33 * i ≤ 64 + 33 * i
    from = omega arith

    to : 64 + 33 * i + 1 ≤ 97 + 33 * i
    to = omega arith

    ack_keeps : KeepsAcks ledger.digest (length ledger.gates) old new
    ack_keeps = part_keeps (64 + 33 * i) 1 from to opens

    ack_others : AddsAtMost i ledger.digest (length ledger.gates) old new
    ack_others = part_others (64 + 33 * i) 1 from to opens

    ack_run : (reel : Reel) → IsReel (length ledger.gates) reel → IsStored (moment_of old) reel i → IsRun ledger.digest (length ledger.gates) reel old new
    ack_run reel is_reel stored = part_run (64 + 33 * i) 1 from to opens reel is_reel mine
      where
        apart : (reel i).0 ≢ Body2
        apart = not_body (moment_of old) ledger agrees i within (64 + 33 * i) 1 from to reel is_reel i within

        mine : (files : Files) → IsImage (loosened (moment_of old) (Range Body2 (64 + 33 * i) 1)) files → Acks ledger.digest (length ledger.gates) i files → IsSoundAt reel i files
        mine files image acks =
            let t = torn (moment_of old) ledger agrees i within (64 + 33 * i) 1 from to files image in
            let firm : IsFirm (Range Body2 (64 + 33 * i) 1 ∷ loose_of old) (reel i).0 = firm_besides (loose_of old) (reel i).0 (Range Body2 (64 + 33 * i) 1) stored.firm (λ same. apart (sym same)) in
            let same : stored.noted.body ≡ agrees.has.body = some_same (sym stored.noted.there ∙ agrees.has.there) in
            let kept : record_of t.left i ≡ record_of agrees.has.body i = record_same t.left agrees.has.body i t.size (λ n after before. t.same n (omega (arith, within, before, agrees.has.own.size)) (λ inside. omega (arith, inside.1, after))) in
            record {
              file = firm_image (loosened (moment_of old) (Range Body2 (64 + 33 * i) 1)) files (reel i).0 firm image ∙ stored.there;
              hash = λ _. record { body = t.left; there = t.there; is = kept ∙ sym (ap (λ (l : List ℕ). record_of l i) same) ∙ stored.noted.is };
            }

    pub ack_safe : Spares old new (λ q. q ≡ Body2) → IsSafeAck i ledger old new
    ack_safe spares = record { past = put_extends old new (Range Body2 start 1) had; run = ack_run; none_lost = ack_keeps; others = ack_others; spares = spares }
