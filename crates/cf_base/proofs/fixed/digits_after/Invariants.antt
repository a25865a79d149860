use Rattle.std.proofs.Common.{◌≡◌, take, min}
use Rattle.std.specs.Str.Parse.{digits_value_after}
use Rattle.cf_base.specs.declared.fixed.TheConstants.{GREATEST}
use Rattle.cf_base.proofs.fixed.digits_after.Given as goal

abbrev pub invariant-loop-c : goal.invariant-loop-c
invariant-loop-c l = l.value ≡ min GREATEST (digits_value_after 10 l.fn.start (take l.c-index l.ds))
