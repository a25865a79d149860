-- What calls leave of a disk, one after another.
--     disk_once      one call on it
--     disk_still      no call was made
--     disk_as, disk_done      the same under another name of the failure, and where there is none
--     disk_then      a call that didn't fail, and then another
use Rattle.std.proofs.Common.{◌≡◌, ◌∙◌, ℕ, refl, subst, arith}
use Rattle.cf_base.specs.Count.{CountsOneFault, HasRisen}
use Rattle.reel_disk.specs.State.{DiskState, LeavesDisk}

pub disk_once : {Failed : Type 0} {a b : DiskState} → CountsOneFault Failed a.faults b.faults → b.loans ≡ a.loans → LeavesDisk Failed a b
disk_once fault lent = record { counts = fault.counts; lent = lent }

pub disk_still : {Failed : Type 0} {a : DiskState} → (Failed → ⊥) → LeavesDisk Failed a a
disk_still none = record { counts = record { cause = record { later = omega arith; failed = λ failed. absurd (none failed) }; steady = λ _. refl }; lent = refl }

pub disk_as : {Failed Other : Type 0} {a b : DiskState} → (Other → Failed) → (Failed → Other) → LeavesDisk Failed a b → LeavesDisk Other a b
disk_as to from left = record {
  counts = record {
    cause = record { later = left.counts.cause.later; failed = λ failed. left.counts.cause.failed (to failed) };
    steady = λ none. left.counts.steady (λ failed. none (from failed));
  };
  lent = left.lent;
}

pub disk_done : {Failed Other : Type 0} {a b : DiskState} → (Failed → ⊥) → (Other → ⊥) → LeavesDisk Failed a b → LeavesDisk Other a b
disk_done none no_other = disk_as (λ other. absurd (no_other other)) (λ failed. absurd (none failed))

pub disk_then : {First Failed : Type 0} {a b c : DiskState} → (First → ⊥) → LeavesDisk First a b → LeavesDisk Failed b c → LeavesDisk Failed a c
disk_then {c = c} none first second = record {
  counts = record {
    cause = record {
      later = omega (arith, first.counts.cause.later, second.counts.cause.later);
      failed = λ failed. subst (λ (n : ℕ). HasRisen n c.faults) (first.counts.steady none) (second.counts.cause.failed failed);
    };
    steady = λ no. second.counts.steady no ∙ first.counts.steady none;
  };
  lent = second.lent ∙ first.lent;
}
