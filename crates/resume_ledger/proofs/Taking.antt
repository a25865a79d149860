-- What an opening finds of a folder that is not sealed by version 2, and what it leaves.
use Rattle.std.proofs.Common.{◌≡◌, ℕ, ◌+◌, ◌*◌, ◌<◌, ◌≤◌, Bool, List, length, get_or, take, sym, ◌∙◌, ap, subst, Vec}
use Rattle.std.specs.declared.alloc.Global.{Global}
use Rattle.std.specs.Prelude.{Some, Result, Ok, Err}
use Rattle.cf_base.specs.declared.file.FileId.{FileId}
use Rattle.cf_base.specs.declared.file.FileId.TheVariants.{Seal, Body, Seal2}
use Rattle.reel_disk.specs.Disk.{Files, Moment, History, moment_of, view_of, loose_of, IsFirm, IsStill}
use Rattle.reel_disk.specs.Runs.{Narrows}
use Rattle.resume_ledger.specs.declared.attach.OpenFault.{OpenFault}
use Rattle.resume_ledger.specs.declared.layout.Version.{Version}
use Rattle.resume_ledger.specs.declared.layout.Version.TheVariants.{One, Two}
use Rattle.resume_ledger.specs.Body.{layout_of, IsOwn, closed_body}
use Rattle.resume_ledger.specs.Ledger.{LedgerState, HasSeal, IsInForce, IsFit, AreGatesOf, AreFlagsOf}
use Rattle.resume_ledger.specs.Attach.{IsOpened, IsOpenFor}
use Rattle.resume_ledger.specs.inside.Steps.{IsReadFirmly, IsAckedFirmly, IsOlder, IsFirstBody, HasFirstBody, IsReadyFor, AreRecorded, IsBegun}
use Rattle.resume_ledger.proofs.Attaching.{refused_along}
use Rattle.resume_ledger.proofs.Bodies.{closed_is_own, closed_shut, own_by_head}
use Rattle.resume_ledger.proofs.Versions.{fit_by, flag_open, open_flag}

module _ (digest : List ℕ) (count : ℕ) (name : ℕ → FileId) (size : ℕ) (old : History) (long : length digest ≡ 32) (most : count ≤ 262144) where
  -- an unsealed folder begins with the closed body
  pub unsealed_ready : (new : History) → (IsInForce Two (view_of old) → ⊥) → IsFirm (loose_of old) Seal2 → IsReadFirmly Seal old new → (HasSeal One (view_of old) → ⊥)
      → (body : List ℕ) → body ≡ closed_body digest count → IsReadyFor digest count name size old new body
  unsealed_ready new not_second firm read not_first body is = record {
    view = read.view;
    older = record {
      not_second = λ second. not_second (subst (IsInForce Two) read.view second);
      firm_second = read.others Seal2 firm;
      firm_first = read.firm;
      firm_body = λ one. absurd (none One one);
      fit = λ v in_force. absurd (none v in_force);
    };
    first = record {
      own = subst (IsOwn (layout_of Two) digest count) (sym is) (closed_is_own digest count long most);
      gates = λ i lt. (λ gate. absurd (shut i lt gate), λ kept. absurd (none kept.0.version kept.0.in_force));
      hashes = λ i lt gate. absurd (shut i lt gate);
    };
    made = λ _. is;
  }
    where
      none : (v : Version) → IsInForce v (view_of new) → ⊥
      none One in_force = not_first (subst (λ (v : Files). HasSeal One v) read.view in_force.1)
      none Two in_force = not_second (subst (IsInForce Two) read.view in_force)

      shut : (i : ℕ) → i < count → get_or body (64 + 33 * i) 0 ≡ 65 → ⊥
      shut = closed_shut digest count long body is

  -- a folder of version 1 begins with the records of its frames
  module _ (mid new : History) (one : IsInForce One (view_of old)) (firm : IsFirm (loose_of old) Seal2) (firm_first : IsFirm (loose_of old) Seal) (gates : List Bool) (acked : IsAckedFirmly digest count old mid gates)
      (still : IsStill mid new) (body first : List ℕ) (is : first ≡ closed_body digest count) (same_size : length body ≡ length first) (recorded : AreRecorded gates count name size (view_of mid) first body) where
    read : IsReadFirmly Body old mid
    read = acked.read

    flags : AreFlagsOf digest count (view_of mid) gates
    flags = subst (λ (v : Files). AreFlagsOf digest count v gates) (sym read.view) acked.flags

    in_force : IsInForce One (view_of mid)
    in_force = subst (IsInForce One) (sym read.view) one

    taken_older : IsOlder digest count (moment_of mid)
    taken_older = record {
      not_second = λ second. in_force.0 second;
      firm_second = read.others Seal2 firm;
      firm_first = read.others Seal firm_first;
      firm_body = λ _. read.firm;
      fit = subst (IsFit digest count) (sym read.view) (fit_by digest count (view_of old) One one acked.has);
    }

    taken_first : IsFirstBody digest count name size (view_of mid) body
    taken_first = record {
      own = own_by_head digest count (closed_body digest count) body (closed_is_own digest count long most) (same_size ∙ ap length is) (recorded.head ∙ ap (take 64) is);
      gates = λ i lt. (
        λ gate. let both = (recorded.each i lt).opens.0 gate in ((flags.flags_are i).0 both.0, λ _. both.1),
        λ kept. (recorded.each i lt).opens.1 ((flags.flags_are i).1 kept.0, kept.1 in_force),
      );
      hashes = λ i lt gate. (recorded.each i lt).hash gate;
    }

    pub taken_ready : IsReadyFor digest count name size old new body
    taken_ready = record {
      view = ap (λ (m : Moment). m.view) still.same ∙ read.view;
      older = subst (IsOlder digest count) (sym still.same) taken_older;
      first = subst (λ (m : Moment). IsFirstBody digest count name size m.view body) (sym still.same) taken_first;
      made = λ unsealed. absurd (unsealed (One, subst (λ (m : Moment). IsInForce One m.view) (sym still.same) in_force));
    }

-- behind the first seal's sync
pub ready_along : (digest : List ℕ) (count : ℕ) (name : ℕ → FileId) (size : ℕ) (old mid new : History) → Narrows old mid → view_of mid ≡ view_of old → (result : Result (Vec ℕ Global) OpenFault) → HasFirstBody digest count name size mid new result → HasFirstBody digest count name size old new result
ready_along digest count name size old mid new narrows view (Ok body) ready = record { view = ready.view ∙ view; older = ready.older; first = ready.first; made = ready.made }
ready_along digest count name size old mid new narrows view (Err fault) refused = refused_along digest count old mid new narrows view fault refused

-- version 2 was put in force
module _ (digest : List ℕ) (count : ℕ) (name : ℕ → FileId) (size : ℕ) (old mid new : History) (body : List ℕ) (ready : IsReadyFor digest count name size old mid body) (begun : IsBegun body (moment_of new)) where
  opened_mid : (ledger : LedgerState) → IsOpenFor digest count ledger → AreGatesOf (layout_of Two) body count ledger.gates → IsOpened digest count name size (view_of mid) new ledger
  opened_mid ledger is gates = record {
    fit = ready.older.fit;
    is = is;
    gates = λ i. (
      λ set. let gate = flag_open (layout_of Two) body count ledger.gates gates i set in (ready.first.gates i gate.0).0 gate.1,
      λ kept. open_flag (layout_of Two) body count ledger.gates gates i kept.0.within ((ready.first.gates i kept.0.within).1 kept),
    );
    agrees = record {
      sealed = begun.sealed;
      has = record {
        body = body;
        there = begun.there;
        own = subst (λ (d : List ℕ). IsOwn (layout_of Two) d (length ledger.gates) body) (sym is.digest_is) (subst (λ n. IsOwn (layout_of Two) digest n body) (sym is.size) ready.first.own);
      };
      gates = subst (λ n. AreGatesOf (layout_of Two) body n ledger.gates) (sym is.size) gates;
      firm_seal = begun.firm_seal;
      firm_body = begun.firm_body;
    };
    made = λ unsealed. begun.there ∙ ap Some (ready.made unsealed);
    taken = λ one i set bytes there.
        let gate = flag_open (layout_of Two) body count ledger.gates gates i set in
        record { body = body; there = begun.there; is = ready.first.hashes i gate.0 gate.1 bytes there };
    found = λ second. absurd (ready.older.not_second second);
  }

  pub opened : (ledger : LedgerState) → IsOpenFor digest count ledger → AreGatesOf (layout_of Two) body count ledger.gates → IsOpened digest count name size (view_of old) new ledger
  opened ledger is gates = subst (λ (v : Files). IsOpened digest count name size v new ledger) ready.view (opened_mid ledger is gates)
