-- What a look answers.
use Rattle.std.proofs.Common.{◌≡◌, ◌∙◌, inl, inr, ℕ, Bool, true, false, List, length, get_or, replicate, refl, sym, ap, subst, arith}
use Rattle.std.specs.Prelude.{◌↔◌, Some, None, Result, Ok, Err, if◌then◌else◌}
use Rattle.std.specs.Option.{option_map}
use Rattle.std.proofs.lemmas.Bool.{false≢true, cases_lt}
use Rattle.std.proofs.lemmas.List.{get_or-replicate, get_or_past, length-replicate}
use Rattle.reel_disk.specs.Disk.{Files, History, IsStill}
use Rattle.reel_disk.proofs.Calls.{still_narrows}
use Rattle.resume_ledger.specs.declared.attach.OpenFault.{OpenFault}
use Rattle.resume_ledger.specs.declared.layout.Version.{Version}
use Rattle.resume_ledger.specs.declared.layout.Version.TheVariants.{One, Two}
use Rattle.resume_ledger.specs.Body.{layout_of, IsOwn, record_of}
use Rattle.resume_ledger.specs.Ledger.{IsInForce, Acks, AreFlagsOf, AreGatesOf}
use Rattle.resume_ledger.specs.Look.{ViewState, IsRecordIn, IsViewOf, HasLooked}
use Rattle.resume_ledger.specs.Steps.{records_in}
use Rattle.resume_ledger.proofs.Attaching.{refused_along}
use Rattle.resume_ledger.proofs.Reading.{still_view}
use Rattle.resume_ledger.proofs.Versions.{fit_by, flags_acks}

module _ (digest : List ℕ) (count : ℕ) (files : Files) where
  -- a body that was read and is this job's
  module _ (body : List ℕ) (gates : List Bool) where
    record_by : (v : Version) → IsInForce v files → files (layout_of v).body ≡ Some body → (i : ℕ) (flag : Bool) → (flag ≡ true ↔ Acks digest count i files)
        → IsRecordIn digest count i files (if flag then option_map (λ b. record_of b i) (records_in v body) else None)
    record_by One in_force there i true acks = λ _ second. in_force.0 second
    record_by One in_force there i false acks = λ _ second. in_force.0 second
    record_by Two in_force there i true acks = (acks.0 refl, in_force, record { body = body; there = there; is = refl })
    record_by Two in_force there i false acks = λ is _. false≢true (acks.1 is)

    pub viewed_own : (v : Version) → IsInForce v files → files (layout_of v).body ≡ Some body → IsOwn (layout_of v) digest count body → AreGatesOf (layout_of v) body count gates
        → IsViewOf digest count files (record { gates = gates; body = records_in v body })
    viewed_own v in_force there own are =
        let flags : AreFlagsOf digest count files gates = flags_acks digest count files v in_force (record { body = body; there = there; own = own }) gates are in
        record {
          fit = fit_by digest count files v in_force (record { body = body; there = there; own = own });
          acks = flags;
          hashes = λ i lt. record_by v in_force there i (get_or gates i false) (flags.flags_are i);
        }

-- The answer speaks of the view, which is the same before a read.
pub looked_along : (digest : List ℕ) (count : ℕ) (old mid new : History) → IsStill old mid → (result : Result ViewState OpenFault) → HasLooked digest count mid new result → HasLooked digest count old new result
looked_along digest count old mid new still (Ok view) looked = subst (λ (v : Files). IsViewOf digest count v view) (still_view old mid still) looked
looked_along digest count old mid new still (Err fault) refusal = refused_along digest count old mid new (still_narrows old mid still) (still_view old mid still) fault refusal

-- nothing is acknowledged where no version counts
pub viewed_none : (digest : List ℕ) (count : ℕ) (files : Files) → ((version : Version) → IsInForce version files → ⊥) → (gates : List Bool) → gates ≡ replicate count false → IsViewOf digest count files (record { gates = gates; body = None })
viewed_none digest count files unsealed gates shut = record {
  fit = λ version in_force. absurd (unsealed version in_force);
  acks = record {
    size = ap length shut ∙ length-replicate count false;
    flags_are = λ i. (λ open_gate. absurd (false≢true (sym (each i) ∙ open_gate)), λ acks. absurd (unsealed acks.version acks.in_force));
  };
  hashes = λ i lt. no_record i (get_or gates i false);
}
  where
    each : (i : ℕ) → get_or gates i false ≡ false
    each i = elim (cases_lt i count) [
      | inl lt ↦ ap (λ (l : List Bool). get_or l i false) shut ∙ get_or-replicate count i false false lt
      | inr le ↦ get_or_past gates i false (omega (arith, le, ap length shut ∙ length-replicate count false))
    ]

    no_record : (i : ℕ) (flag : Bool) → IsRecordIn digest count i files (if flag then option_map (λ b. record_of b i) None else None)
    no_record i true = λ _ second. unsealed Two second
    no_record i false = λ _ second. unsealed Two second
