-- After a record or a gate was written the ledger agrees with the disk.
use Rattle.std.proofs.Common.{◌≡◌, ℕ, ◌+◌, ◌*◌, ◌<◌, ◌≤◌, Bool, true, false, List, [], ◌∷◌, length, set, sym, ◌∙◌, ap, subst, arith}
use Rattle.std.specs.Prelude.{Some}
use Rattle.std.proofs.lemmas.List.{length-set, get_or-set_same}
use Rattle.cf_base.specs.declared.file.FileId.TheVariants.{Seal2, Body2}
use Rattle.reel_disk.specs.Disk.{History, moment_of, view_of, overwritten, with_range}
use Rattle.reel_disk.specs.Runs.{Surely}
use Rattle.resume_ledger.specs.declared.layout.Version.TheVariants.{Two}
use Rattle.resume_ledger.specs.Body.{layout_of, IsOwn}
use Rattle.resume_ledger.specs.Ledger.{LedgerState, HasRecord, Acks, AreGatesOf, Agrees}
use Rattle.resume_ledger.specs.Steps.{IsFirmly}
use Rattle.resume_ledger.proofs.Bodies.{patched_own, gate_opened, gates_noted, record_noted}
use Rattle.resume_ledger.proofs.Versions.{agrees_shown}

module _ (old new : History) (ledger : LedgerState) (agrees : Agrees (moment_of old) ledger) (i : ℕ) (within : i < length ledger.gates) where
  module _ (start : ℕ) (bytes : List ℕ) (low : 64 + 33 * i ≤ start) (high : start + length bytes ≤ 97 + 33 * i) (wrote : IsFirmly old new Body2 (with_range (view_of old Body2) start bytes)) where
    there : view_of new Body2 ≡ Some (overwritten agrees.has.body start bytes)
    there = wrote.there ∙ ap (λ o. with_range o start bytes) agrees.has.there

    agrees_with : (flags : List Bool) → AreGatesOf (layout_of Two) (overwritten agrees.has.body start bytes) (length ledger.gates) flags → Agrees (moment_of new) (record ledger { gates = flags })
    agrees_with flags are = record {
      sealed = wrote.same Seal2 (λ same. cc) ∙ agrees.sealed;
      has = record {
        body = overwritten agrees.has.body start bytes;
        there = there;
        own = subst (λ n. IsOwn (layout_of Two) ledger.digest n (overwritten agrees.has.body start bytes)) (sym are.size) (patched_own ledger.digest (length ledger.gates) agrees.has.body bytes agrees.has.own i start within low high);
      };
      gates = subst (λ n. AreGatesOf (layout_of Two) (overwritten agrees.has.body start bytes) n flags) (sym are.size) are;
      firm_seal = wrote.others Seal2 agrees.firm_seal;
      firm_body = wrote.firm;
    }

  -- the record
  module _ (start : ℕ) (at : start ≡ 65 + 33 * i) (hash : List ℕ) (size : length hash ≡ 32) (had : IsFirmly old new Body2 (with_range (view_of old Body2) start hash)) where
    wrote : IsFirmly old new Body2 (with_range (view_of old Body2) (65 + 33 * i) hash)
    wrote = subst (λ n. IsFirmly old new Body2 (with_range (view_of old Body2) n hash)) at had

    pub noted_agrees : Agrees (moment_of new) ledger
    noted_agrees = agrees_with (65 + 33 * i) hash (omega arith) (omega (arith, size)) wrote ledger.gates (gates_noted ledger.digest (length ledger.gates) agrees.has.body hash agrees.has.own i within size ledger.gates agrees.gates)

    pub noted_record : HasRecord i hash (view_of new)
    noted_record = record {
      body = overwritten agrees.has.body (65 + 33 * i) hash;
      there = there (65 + 33 * i) hash (omega arith) (omega (arith, size)) wrote;
      is = record_noted ledger.digest (length ledger.gates) agrees.has.body hash agrees.has.own i within size;
    }

  -- the gate
  module _ (start : ℕ) (at : start ≡ 64 + 33 * i) (had : IsFirmly old new Body2 (with_range (view_of old Body2) start (65 ∷ []))) where
    opened : IsFirmly old new Body2 (with_range (view_of old Body2) (64 + 33 * i) (65 ∷ []))
    opened = subst (λ n. IsFirmly old new Body2 (with_range (view_of old Body2) n (65 ∷ []))) at had

    pub acked_agrees : Agrees (moment_of new) (record ledger { gates = set ledger.gates i true })
    acked_agrees = agrees_with (64 + 33 * i) (65 ∷ []) (omega arith) (omega arith) opened (set ledger.gates i true) (gate_opened ledger.digest (length ledger.gates) agrees.has.body agrees.has.own i within ledger.gates agrees.gates)

    pub acked_then : Surely (moment_of new) (Acks ledger.digest (length ledger.gates) i)
    acked_then files image =
        let acks = (agrees_shown (moment_of new) (record ledger { gates = set ledger.gates i true }) acked_agrees i files image).0 (get_or-set_same ledger.gates i true false within) in
        subst (λ n. Acks ledger.digest n i files) (length-set ledger.gates i true) acks
