use Rattle.std.proofs.Common.{min, ap, ◌∙◌, ℕ}
use Rattle.std.specs.Str.Parse.{digits_value_after}
use Rattle.cf_base.specs.declared.fixed.TheConstants.{GREATEST}
use Rattle.cf_base.proofs.Capped.{capped_two}
use Rattle.cf_base.proofs.fixed.digits_of_two.Goals as goal

pub returns : goal.returns
returns c =
    c.digits_after-2.ensures
    ∙ ap (λ (n : ℕ). min GREATEST (digits_value_after 10 n c.args.decimals.now)) c.digits_after.ensures
    ∙ capped_two GREATEST c.args.whole.now c.args.decimals.now
