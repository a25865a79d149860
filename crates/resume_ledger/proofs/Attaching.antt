-- What an attach answers.
use Rattle.std.proofs.Common.{◌≡◌, ◌≢◌, ℕ, Bool, List, length, sym, ◌∙◌, ap, subst, arith, Vec}
use Rattle.std.specs.declared.alloc.Global.{Global}
use Rattle.std.specs.Prelude.{Some, Result, Ok, Err}
use Rattle.cf_base.specs.declared.file.FileId.{FileId}
use Rattle.cf_base.specs.declared.file.FileId.TheVariants.{Body, Seal2, Body2}
use Rattle.reel_disk.specs.Disk.{Files, History, view_of, loose_of, IsFirm}
use Rattle.reel_disk.specs.Runs.{Narrows}
use Rattle.reel_disk.proofs.Calls.{narrows_along}
use Rattle.resume_ledger.specs.declared.layout.Version.{Version}
use Rattle.resume_ledger.specs.declared.layout.Version.TheVariants.{One, Two}
use Rattle.resume_ledger.specs.Body.{layout_of, IsOwn}
use Rattle.resume_ledger.specs.Ledger.{LedgerState, IsInForce, HasOwn, AreGatesOf, AreFlagsOf}
use Rattle.resume_ledger.specs.Attach.{IsUnwritten, IsBad, IsRefused, IsRefusalFor, IsOpened, IsOpenFor, HasAttached}
use Rattle.resume_ledger.specs.Steps.{IsJudged}
use Rattle.resume_ledger.specs.inside.Steps.{IsReadFirmly, HasBody, HasRead, HasAcked}
use Rattle.resume_ledger.specs.declared.attach.OpenFault.{OpenFault}
use Rattle.resume_ledger.specs.declared.attach.OpenFault.TheVariants.{OtherJob, BadLedger, DiskFault, NoMemory}
use Rattle.resume_ledger.proofs.Versions.{fit_by, flags_acks}

-- calls that only read and sync before
module _ (digest : List ℕ) (count : ℕ) (old mid new : History) (narrows : Narrows old mid) (view : view_of mid ≡ view_of old) where
  unwritten_along : IsUnwritten mid new → IsUnwritten old new
  unwritten_along rest = record { narrows = narrows_along old mid new narrows rest.narrows; view = rest.view ∙ view }

  pub refused_along : (fault : OpenFault) → IsRefused digest count mid new fault → IsRefused digest count old new fault
  refused_along (OtherJob kept wanted) refused = record {
    version = refused.version;
    in_force = subst (IsInForce refused.version) view refused.in_force;
    body = refused.body;
    there = sym (ap (λ (v : Files). v (layout_of refused.version).body) view) ∙ refused.there;
    others = refused.others;
    unwritten = unwritten_along refused.unwritten;
  }
  refused_along (BadLedger len) refused = record {
    version = refused.version;
    in_force = subst (IsInForce refused.version) view refused.in_force;
    bad = subst (λ (v : Files). IsBad (layout_of refused.version) digest count len (v (layout_of refused.version).body)) view refused.bad;
    unwritten = unwritten_along refused.unwritten;
  }
  refused_along DiskFault none = tt
  refused_along NoMemory unwritten = unwritten_along unwritten

  pub attached_along : (name : ℕ → FileId) (size : ℕ) (result : Result LedgerState OpenFault) → HasAttached digest count name size mid new result → HasAttached digest count name size old new result
  attached_along name size (Ok ledger) opened = subst (λ (v : Files). IsOpened digest count name size v new ledger) view opened
  attached_along name size (Err fault) refused = refused_along fault refused

module _ (digest : List ℕ) (count : ℕ) (version : Version) (old new : History) (in_force : IsInForce version (view_of old)) where
  -- a body that couldn't be read
  pub unread : (fault : OpenFault) → (fault ≢ DiskFault → IsUnwritten old new) → HasBody (layout_of version) (view_of old (layout_of version).body) (Err fault) → IsRefused digest count old new fault
  unread (OtherJob kept wanted) unwritten read = absurd read
  unread (BadLedger len) unwritten read = record {
    version = version;
    in_force = in_force;
    bad = record { size = read.0; bad = λ body is well. absurd (omega (arith, read.1 body is, well.no_longer)) };
    unwritten = unwritten (λ same. cc);
  }
  unread DiskFault unwritten read = tt
  unread NoMemory unwritten read = unwritten (λ same. cc)

  -- a body that was read and is refused
  pub refused : (body : List ℕ) (fault : OpenFault) → IsUnwritten old new → view_of old (layout_of version).body ≡ Some body → IsJudged (layout_of version) digest count body (Err fault) → IsRefused digest count old new fault
  refused body (OtherJob kept wanted) unwritten there others = record { version = version; in_force = in_force; body = body; there = there; others = others; unwritten = unwritten }
  refused body (BadLedger len) unwritten there bad = record { version = version; in_force = in_force; bad = subst (IsBad (layout_of version) digest count len) (sym there) bad; unwritten = unwritten }
  refused body DiskFault unwritten there none = absurd none
  refused body NoMemory unwritten there none = unwritten

-- what version 1 acknowledges, or a refusal
pub acked_by : (digest : List ℕ) (count : ℕ) (old new : History) → IsInForce One (view_of old) → Narrows old new → IsReadFirmly Body old new → (body : List ℕ) → view_of old Body ≡ Some body
    → (result : Result (Vec Bool Global) OpenFault) → IsJudged (layout_of One) digest count body result → HasAcked digest count old new result
acked_by digest count old new one narrows read body there (Ok gates) (own, are) =
    let has : HasOwn One digest count (view_of old) = record { body = body; there = there; own = own } in
    record { read = read; has = has; flags = flags_acks digest count (view_of old) One one (record { body = body; there = there; own = own }) gates.items are }
acked_by digest count old new one narrows read body there (Err fault) is = refused digest count One old new one body fault (record { narrows = narrows; view = read.view }) there is

-- the same over any disk
pub unread_known : (digest : List ℕ) (version : Version) (fault : OpenFault) → HasRead (layout_of version) (Err fault) → IsRefusalFor digest fault
unread_known digest version (OtherJob kept wanted) never = absurd never
unread_known digest version (BadLedger len) never = tt
unread_known digest version DiskFault never = tt
unread_known digest version NoMemory never = tt

pub refused_known : (digest : List ℕ) (count : ℕ) (version : Version) (body : List ℕ) (fault : OpenFault) → IsJudged (layout_of version) digest count body (Err fault) → IsRefusalFor digest fault
refused_known digest count version body (OtherJob kept wanted) others = (λ same. others.differ (sym others.kept_is ∙ same ∙ others.wanted_is), others.wanted_is)
refused_known digest count version body (BadLedger len) bad = tt
refused_known digest count version body DiskFault none = tt
refused_known digest count version body NoMemory none = tt

-- a folder of version 2 that is this job's
module _ (digest : List ℕ) (count : ℕ) (name : ℕ → FileId) (size : ℕ) (old new : History) (second : IsInForce Two (view_of old)) (firm : IsFirm (loose_of old) Seal2) (read : IsReadFirmly Body2 old new)
    (body : List ℕ) (there : view_of old Body2 ≡ Some body) (own : IsOwn (layout_of Two) digest count body) where
  pub found : (ledger : LedgerState) → IsOpenFor digest count ledger → AreGatesOf (layout_of Two) body count ledger.gates → IsOpened digest count name size (view_of old) new ledger
  found ledger is gates = record {
    fit = fit_by digest count (view_of old) Two second has;
    is = is;
    gates = λ i. (
      λ set. ((flags.flags_are i).0 set, λ first. absurd (first.0 second)),
      λ kept. (flags.flags_are i).1 kept.0,
    );
    agrees = record {
      sealed = subst (IsInForce Two) (sym read.view) second;
      has = record {
        body = body;
        there = ap (λ (v : Files). v Body2) read.view ∙ there;
        own = subst (λ (d : List ℕ). IsOwn (layout_of Two) d (length ledger.gates) body) (sym is.digest_is) (subst (λ n. IsOwn (layout_of Two) digest n body) (sym is.size) own);
      };
      gates = subst (λ n. AreGatesOf (layout_of Two) body n ledger.gates) (sym is.size) gates;
      firm_seal = read.others Seal2 firm;
      firm_body = read.firm;
    };
    made = λ unsealed. absurd (unsealed (Two, second));
    taken = λ first. absurd (first.0 second);
    found = λ _. read.view;
  }
    where
      has : HasOwn Two digest count (view_of old)
      has = record { body = body; there = there; own = own }

      flags : AreFlagsOf digest count (view_of old) ledger.gates
      flags = flags_acks digest count (view_of old) Two second has ledger.gates gates
