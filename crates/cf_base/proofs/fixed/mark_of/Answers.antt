use Rattle.std.proofs.Common.{length, sym, ◌∙◌, arith}
use Rattle.std.proofs.lemmas.List.Sums.{position_or_len_is}
use Rattle.cf_base.specs.Fixed.{is_exponent_mark}
use Rattle.cf_base.proofs.fixed.mark_of.Goals as goal

pub returns-then-is_mark-clause-mark : goal.returns-then-is_mark-clause-mark
returns-then-is_mark-clause-mark c =
    sym (position_or_len_is is_exponent_mark c.args.body.now c.loop-at.at 0 (omega arith) c.loop-at.invariant (λ h. sym c.is_mark.ensures ∙ c.if-is_mark.true))

pub returns-clause-mark : goal.returns-clause-mark
returns-clause-mark c =
    sym (position_or_len_is is_exponent_mark c.args.body.now (length c.args.body.now) 0 (omega arith) (λ k h. c.loop-at.invariant k (omega arith)) (λ h. absurd (omega arith)))
