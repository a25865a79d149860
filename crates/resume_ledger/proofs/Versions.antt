-- Which version of the ledger counts, and what its body says.
use Rattle.std.proofs.Common.{◌≡◌, inl, inr, ℕ, ◌<◌, Bool, true, false, List, length, get_or, refl, sym, ◌∙◌, ap, subst, arith}
use Rattle.std.specs.Prelude.{◌↔◌, ◌==◌, Some}
use Rattle.std.proofs.lemmas.Bool.{cases_lt}
use Rattle.std.proofs.lemmas.Bool.Decides.{nat_tests}
use Rattle.std.proofs.lemmas.List.{get_or_past}
use Rattle.cf_base.specs.declared.file.FileId.{FileId}
use Rattle.cf_base.specs.declared.file.FileId.TheVariants.{Seal, Body, Seal2, Body2, Frame}
use Rattle.reel_disk.specs.Disk.{Files, Moment, IsImage}
use Rattle.reel_disk.specs.Runs.{Surely}
use Rattle.reel_disk.proofs.Images.{firm_image}
use Rattle.resume_ledger.specs.declared.layout.Version.{Version}
use Rattle.resume_ledger.specs.declared.layout.Version.TheVariants.{One, Two}
use Rattle.resume_ledger.specs.Body.{Layout, layout_of}
use Rattle.resume_ledger.specs.Ledger.{LedgerState, IsLedgerFile, IsInForce, HasOwn, Acks, IsFit, AreFlagsOf, AreGatesOf, Agrees}
use Rattle.resume_ledger.specs.Sound.{IsFrameFile}
use Rattle.resume_ledger.proofs.Bodies.{some_same}

-- one version counts
pub one_version : (files : Files) (v w : Version) → IsInForce v files → IsInForce w files → v ≡ w
one_version files One One first second = refl
one_version files One Two first second = absurd (first.0 second)
one_version files Two One first second = absurd (second.0 first)
one_version files Two Two first second = refl

-- a frame's file is none of the ledger's
pub frame_apart : (id : FileId) → IsFrameFile id → IsLedgerFile id → ⊥
frame_apart id frame (inl seal) = let is : id ≡ Frame frame.0 frame.1 = frame.2 in cc
frame_apart id frame (inr (inl body)) = let is : id ≡ Frame frame.0 frame.1 = frame.2 in cc
frame_apart id frame (inr (inr (inl seal))) = let is : id ≡ Frame frame.0 frame.1 = frame.2 in cc
frame_apart id frame (inr (inr (inr body))) = let is : id ≡ Frame frame.0 frame.1 = frame.2 in cc

-- a flag is set just where its gate is open
module _ (layout : Layout) (body : List ℕ) (count : ℕ) (flags : List Bool) (are : AreGatesOf layout body count flags) (i : ℕ) where
  pub flag_open : get_or flags i false ≡ true → (i < count) × (get_or body (layout.gate i) 0 ≡ 65)
  flag_open is = elim (cases_lt i count) [
    | inl within ↦ (within, let open_gate : (get_or body (layout.gate i) 0 == 65) ≡ true = sym (are.each i within) ∙ is in grind (arith, nat_tests))
    | inr past ↦ let none : get_or flags i false ≡ false = get_or_past flags i false (let e = are.size in omega arith) in cc
  ]

  pub open_flag : i < count → get_or body (layout.gate i) 0 ≡ 65 → get_or flags i false ≡ true
  open_flag within gate = are.each i within ∙ ap (λ n. n == 65) gate

module _ (digest : List ℕ) (count : ℕ) (files : Files) where
  -- the body in force is the one that the frame is acknowledged by
  pub acks_gate : (i : ℕ) (v : Version) → IsInForce v files → Acks digest count i files → (body : List ℕ) → files (layout_of v).body ≡ Some body → get_or body ((layout_of v).gate i) 0 ≡ 65
  acks_gate i v in_force acks body there =
      let Open : Version → Type 0 = λ w. (b : List ℕ) × (files (layout_of w).body ≡ Some b) × (get_or b ((layout_of w).gate i) 0 ≡ 65) in
      let is : Open v = subst Open (one_version files acks.version v acks.in_force in_force) (acks.has.body, acks.has.there, acks.gate) in
      subst (λ (b : List ℕ). get_or b ((layout_of v).gate i) 0 ≡ 65) (some_same (sym is.1 ∙ there)) is.2

  -- of files that one version counts in
  pub fit_by : (v : Version) → IsInForce v files → HasOwn v digest count files → IsFit digest count files
  fit_by v in_force has w other = subst (λ x. HasOwn x digest count files) (one_version files v w in_force other) has

  -- the flags of the body in force are those of the files
  pub flags_acks : (v : Version) → IsInForce v files → (has : HasOwn v digest count files) (flags : List Bool) → AreGatesOf (layout_of v) has.body count flags → AreFlagsOf digest count files flags
  flags_acks v in_force has flags are = record {
    size = are.size;
    flags_are = λ i. (
      λ set. let gate = flag_open (layout_of v) has.body count flags are i set in record { version = v; in_force = in_force; has = has; within = gate.0; gate = gate.1 },
      λ acks. open_flag (layout_of v) has.body count flags are i acks.within (acks_gate i v in_force acks has.body has.there),
    );
  }

-- where the ledger agrees, each image acknowledges just what the ledger does
module _ (moment : Moment) (ledger : LedgerState) (agrees : Agrees moment ledger) where
  pub agrees_force : (files : Files) → IsImage moment files → IsInForce Two files
  agrees_force files image = firm_image moment files Seal2 agrees.firm_seal image ∙ agrees.sealed

  pub agrees_there : (files : Files) → IsImage moment files → files Body2 ≡ Some agrees.has.body
  agrees_there files image = firm_image moment files Body2 agrees.firm_body image ∙ agrees.has.there

  pub agrees_flags : Surely moment (λ files. AreFlagsOf ledger.digest (length ledger.gates) files ledger.gates)
  agrees_flags files image =
      flags_acks ledger.digest (length ledger.gates) files Two (agrees_force files image)
      (record { body = agrees.has.body; there = agrees_there files image; own = agrees.has.own }) ledger.gates agrees.gates

  pub agrees_shown : (i : ℕ) → Surely moment (λ files. (get_or ledger.gates i false ≡ true) ↔ Acks ledger.digest (length ledger.gates) i files)
  agrees_shown i files image = (agrees_flags files image).flags_are i

-- what is acknowledged, and whether the files are fit, depends on the ledger's files alone
module _ (files others : Files) (same : (q : FileId) → IsLedgerFile q → others q ≡ files q) where
  at_seal : others Seal ≡ files Seal
  at_seal = same Seal (inl refl)

  at_second : others Seal2 ≡ files Seal2
  at_second = same Seal2 (inr (inr (inl refl)))

  force_as : (v : Version) → IsInForce v files → IsInForce v others
  force_as One in_force = (λ second. in_force.0 (sym at_second ∙ second), at_seal ∙ in_force.1)
  force_as Two in_force = at_second ∙ in_force

  force_back : (v : Version) → IsInForce v others → IsInForce v files
  force_back One in_force = (λ second. in_force.0 (at_second ∙ second), sym at_seal ∙ in_force.1)
  force_back Two in_force = sym at_second ∙ in_force

  module _ (digest : List ℕ) (count : ℕ) where
    abbrev own_as : (v : Version) → HasOwn v digest count files → HasOwn v digest count others
    own_as One has = record { body = has.body; there = same Body (inr (inl refl)) ∙ has.there; own = has.own }
    own_as Two has = record { body = has.body; there = same Body2 (inr (inr (inr refl))) ∙ has.there; own = has.own }

    acks_by : (i : ℕ) (v : Version) → IsInForce v files → (has : HasOwn v digest count files) → i < count → get_or has.body ((layout_of v).gate i) 0 ≡ 65 → Acks digest count i others
    acks_by i One in_force has within gate = record { version = One; in_force = force_as One in_force; has = own_as One has; within = within; gate = gate }
    acks_by i Two in_force has within gate = record { version = Two; in_force = force_as Two in_force; has = own_as Two has; within = within; gate = gate }

    pub acks_as : (i : ℕ) → Acks digest count i files → Acks digest count i others
    acks_as i acks = acks_by i acks.version acks.in_force acks.has acks.within acks.gate

    pub fit_as : IsFit digest count files → IsFit digest count others
    fit_as fit v in_force = own_as v (fit v (force_back v in_force))
