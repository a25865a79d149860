use Rattle.std.proofs.Common.{◌-◌, length, min, ap, sym, ◌∙◌, ℕ, List, arith}
use Rattle.std.specs.Str.Parse.{digits_value}
use Rattle.cf_base.specs.declared.fixed.TheConstants.{GREATEST}
use Rattle.cf_base.proofs.Capped.{all-take, take-two}
use Rattle.cf_base.proofs.fixed.first_digits.Goals as goal

pub digits_after-requires-clause-digits : goal.digits_after-requires-clause-digits
digits_after-requires-clause-digits c = all-take c.args.whole.now c.args.keep c.requires.whole

pub digits_of_two-requires-clause-decimals : goal.digits_of_two-requires-clause-decimals
digits_of_two-requires-clause-decimals c = all-take c.args.decimals.now (c.args.keep - length c.args.whole.now) c.requires.decimals

pub returns-else-keep-whole : goal.returns-else-keep-whole
returns-else-keep-whole c =
    c.digits_of_two.ensures ∙ ap (λ (ds : List ℕ). min GREATEST (digits_value 10 ds)) (sym (take-two c.args.whole.now c.args.decimals.now c.args.keep (omega arith)))
