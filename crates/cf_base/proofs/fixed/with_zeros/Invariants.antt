use Rattle.std.proofs.Common.{◌≡◌, ◌*◌, ◌^◌, min}
use Rattle.cf_base.specs.declared.fixed.TheConstants.{GREATEST}
use Rattle.cf_base.proofs.fixed.with_zeros.Given as goal

abbrev pub invariant-loop : goal.invariant-loop
invariant-loop l = l.sum ≡ min GREATEST (l.value * 10 ^ l.counter)
