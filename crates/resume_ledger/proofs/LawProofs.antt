-- The laws of the ledger.
use Rattle.std.proofs.Common.{◌≡◌, inl, inr, ℕ, ◌<◌, Bool, true, false, List, length, refl, sym, ◌∙◌, ap, subst, arith}
use Rattle.std.specs.Prelude.{◌↔◌, count_by, slice_index_or, Some}
use Rattle.std.proofs.lemmas.List.{same_lists, get_or_default}
use Rattle.cf_base.specs.declared.file.FileId.{FileId}
use Rattle.cf_base.specs.declared.file.FileId.TheVariants.{Seal2, Body2}
use Rattle.reel_disk.specs.Disk.{History, view_of, loose_of, IsFirm}
use Rattle.resume_ledger.specs.declared.layout.Version.{Version}
use Rattle.resume_ledger.specs.Body.{layout_of, digest_of, IsWellFormed}
use Rattle.resume_ledger.specs.Ledger.{IsWrittenLedgerFile, IsFit, Acks}
use Rattle.resume_ledger.specs.Attach.{IsOtherJob, IsBadLedger}
use Rattle.resume_ledger.specs.Laws.{AgreesWhileSpared, SoundHasItsFiles, OneAnswer, OneNumber}
use Rattle.resume_ledger.proofs.Bodies.{some_same}
use Rattle.resume_ledger.proofs.Versions.{one_version}

pub agrees_spared : AgreesWhileSpared
agrees_spared ledger old new extends spares agrees = record {
  sealed = file Seal2 (inl refl) ∙ agrees.sealed;
  has = record { body = agrees.has.body; there = file Body2 (inr refl) ∙ agrees.has.there; own = agrees.has.own };
  gates = agrees.gates;
  firm_seal = firm Seal2 (inl refl) agrees.firm_seal;
  firm_body = firm Body2 (inr refl) agrees.firm_body;
}
  where
    file : (q : FileId) → IsWrittenLedgerFile q → view_of new q ≡ view_of old q
    file q own = spares.files new.now extends.later (omega arith) q (λ other. other own)

    firm : (q : FileId) → IsWrittenLedgerFile q → IsFirm (loose_of old) q → IsFirm (loose_of new) q
    firm q own before p there is = before p (spares.loose new.now extends.later (omega arith) p (λ other. other (subst IsWrittenLedgerFile (sym is) own)) there) is

pub sound_has_files : SoundHasItsFiles
sound_has_files digest count name size reel view named sized sound one i acks =
    ((reel i).1, sym (ap view (named i acks.within)) ∙ (sound.sound i acks).file, sized i acks.within)

-- a fit folder has no refusal
module _ (digest : List ℕ) (count : ℕ) (old other : History) (fit : IsFit digest count (view_of old)) where
  fit_not_others : (kept wanted : List ℕ) → IsOtherJob digest kept wanted old other → ⊥
  fit_not_others kept wanted refused =
      let has = fit refused.version refused.in_force in
      let same : has.body ≡ refused.body = some_same (sym has.there ∙ refused.there) in
      refused.others.differ (subst (λ (b : List ℕ). digest_of b ≡ digest) same has.own.job)

  fit_not_bad : (len : ℕ) → IsBadLedger digest count len old other → ⊥
  fit_not_bad len refused =
      let has = fit refused.version refused.in_force in
      (refused.bad.bad has.body has.there has.own.well).1 has.own.size

one_refusal : (digest : List ℕ) (count : ℕ) (old new other : History) (kept wanted : List ℕ) (len : ℕ) → IsOtherJob digest kept wanted old new → IsBadLedger digest count len old other → ⊥
one_refusal digest count old new other kept wanted len others bad =
    let Other : Version → Type 0 = λ v. (body : List ℕ) × (view_of old (layout_of v).body ≡ Some body) × IsWellFormed (layout_of v) body × (digest_of body ≡ digest → ⊥) in
    let is : Other bad.version = subst Other (one_version (view_of old) others.version bad.version others.in_force bad.in_force) (others.body, others.there, others.others.well, others.others.differ) in
    is.3 (bad.bad.bad is.0 is.1 is.2).0

pub one_answer : OneAnswer
one_answer = record {
  not_others = λ digest count name size old new other ledger kept wanted opened refused. fit_not_others digest count old other opened.fit kept wanted refused;
  not_bad = λ digest count name size old new other ledger len opened refused. fit_not_bad digest count old other opened.fit len refused;
  one_refusal = λ digest count name size old new other kept wanted len others bad. one_refusal digest count old new other kept wanted len others bad;
}

-- two flags that are set under the same condition
same_flag : (a b : Bool) (P : Type 0) → (a ≡ true ↔ P) → (b ≡ true ↔ P) → a ≡ b
same_flag true b P left right = sym (right.1 (left.0 refl))
same_flag false true P left right = left.1 (right.0 refl)
same_flag false false P left right = refl

-- lists of so many flags, each set under the same condition
same_flags : (count : ℕ) (P : ℕ → Type 0) (a b : List Bool) → length a ≡ count → length b ≡ count → ((i : ℕ) → slice_index_or a i false ≡ true ↔ P i) → ((i : ℕ) → slice_index_or b i false ≡ true ↔ P i) → a ≡ b
same_flags count P a b size_a size_b left right = same_lists a b (size_a ∙ sym size_b) (λ k d lt.
    let within : k < length b = omega (arith, lt, size_a, size_b) in
    get_or_default a k d false lt ∙ same_flag _ _ _ (left k) (right k) ∙ sym (get_or_default b k d false within))

number_of : {a b : List Bool} → a ≡ b → count_by (λ gate. gate) a ≡ count_by (λ gate. gate) b
number_of same = ap (λ (l : List Bool). count_by (λ gate. gate) l) same

pub one_number : OneNumber
one_number = record {
  same = λ digest count files acked other many others.
      many.number ∙ number_of (same_flags count (λ i. Acks digest count i files) many.flags others.flags many.acks.size others.acks.size many.acks.flags_are others.acks.flags_are) ∙ sym others.number;
  attached = λ digest count name size old new other ledger acked whole opened many.
      many.number ∙ number_of (same_flags count (λ i. Acks digest count i (view_of old)) many.flags ledger.gates many.acks.size opened.is.size many.acks.flags_are
      (λ i. (λ set. ((opened.gates i).0 set).0, λ acks. (opened.gates i).1 (acks, λ one. whole one i acks))));
  not_others = λ digest count old new other acked kept wanted many refused. fit_not_others digest count old other many.fit kept wanted refused;
  not_bad = λ digest count old new other acked len many refused. fit_not_bad digest count old other many.fit len refused;
}
