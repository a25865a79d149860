-- What calls leave of a scan, one after another.
--     failed_last, failed_behind      one call failed, and others before it didn't
--     leaves_by      by its clauses
--     leaves_still      no call was made
--     leaves_as, leaves_done      the same under another name of the failure, and where there is none
--     leaves_then      a call that didn't fail, and then another
use Rattle.std.proofs.Common.{◌≡◌, ◌∙◌, ℕ, Contains, Option, None, Some, IfSome, refl, sym, subst, arith}
use Rattle.cf_base.specs.Count.{CountsOneFault, HasRisen, HasRisenByOne}
use Rattle.scan_source.specs.Plan.{Plan}
use Rattle.scan_source.specs.Planned.{FollowsIfTold}
use Rattle.scan_source.specs.State.{HasFailedLast, LeavesScan, ScanState}

last_by : {Failed : Type 0} (before now : Option Plan) → FollowsIfTold before now Failed → Failed → IfSome now (λ plan. Contains plan.fails plan.calls)
last_by None now none failed = subst (λ (p : Option Plan). IfSome p (λ plan. Contains plan.fails plan.calls)) (sym none) tt
last_by (Some plan) now follows failed =
    subst (λ (p : Option Plan). IfSome p (λ plan. Contains plan.fails plan.calls)) (sym follows.counted) (follows.failed.0 failed)

pub failed_last : {Failed : Type 0} {a b : ScanState} → CountsOneFault Failed a.faults b.faults → FollowsIfTold a.plan b.plan Failed → Failed → HasFailedLast a b
failed_last {a = a} {b = b} fault plan failed = record { once = fault.once failed; last = last_by a.plan b.plan plan failed }

pub leaves_by : {Failed : Type 0} {a b : ScanState} → CountsOneFault Failed a.faults b.faults → FollowsIfTold a.plan b.plan Failed
    → b.world ≡ a.world → b.loans ≡ a.loans → LeavesScan Failed a b
leaves_by fault plan told lent = record { counts = fault.counts; ends = failed_last fault plan; told = told; lent = lent }

pub leaves_still : {Failed : Type 0} {a : ScanState} → (Failed → ⊥) → LeavesScan Failed a a
leaves_still none = record {
  counts = record { cause = record { later = omega arith; failed = λ failed. absurd (none failed) }; steady = λ _. refl };
  ends = λ failed. absurd (none failed);
  told = refl;
  lent = refl;
}

pub leaves_as : {Failed Other : Type 0} {a b : ScanState} → (Other → Failed) → (Failed → Other) → LeavesScan Failed a b → LeavesScan Other a b
leaves_as to from left = record {
  counts = record {
    cause = record { later = left.counts.cause.later; failed = λ failed. left.counts.cause.failed (to failed) };
    steady = λ none. left.counts.steady (λ failed. none (from failed));
  };
  ends = λ failed. left.ends (to failed);
  told = left.told;
  lent = left.lent;
}

pub leaves_done : {Failed Other : Type 0} {a b : ScanState} → (Failed → ⊥) → (Other → ⊥) → LeavesScan Failed a b → LeavesScan Other a b
leaves_done none no_other = leaves_as (λ other. absurd (no_other other)) (λ failed. absurd (none failed))

-- what was made before it didn't fail
pub failed_behind : {a b c : ScanState} → b.faults ≡ a.faults → HasFailedLast b c → HasFailedLast a c
failed_behind {c = c} steady failed = record { once = subst (λ (n : ℕ). HasRisenByOne n c.faults) steady failed.once; last = failed.last }

pub leaves_then : {First Failed : Type 0} {a b c : ScanState} → (First → ⊥) → LeavesScan First a b → LeavesScan Failed b c → LeavesScan Failed a c
leaves_then {c = c} none first second = record {
  counts = record {
    cause = record {
      later = omega (arith, first.counts.cause.later, second.counts.cause.later);
      failed = λ failed. subst (λ (n : ℕ). HasRisen n c.faults) (first.counts.steady none) (second.counts.cause.failed failed);
    };
    steady = λ no. second.counts.steady no ∙ first.counts.steady none;
  };
  ends = λ failed. failed_behind (first.counts.steady none) (second.ends failed);
  told = second.told ∙ first.told;
  lent = second.lent ∙ first.lent;
}
