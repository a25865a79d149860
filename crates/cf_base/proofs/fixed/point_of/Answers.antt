use Rattle.std.proofs.Common.{length, sym, refl, arith}
use Rattle.std.proofs.lemmas.List.Sums.{position_or_len_is}
use Rattle.cf_base.specs.Fixed.{is_point}
use Rattle.cf_base.proofs.fixed.point_of.Goals as goal

pub returns-then-c-eq46-clause-point : goal.returns-then-c-eq46-clause-point
returns-then-c-eq46-clause-point c =
    sym (position_or_len_is is_point c.args.mantissa.now c.loop-at.at 0 (omega arith) c.loop-at.invariant (λ h. rw c.if-c-eq46.true refl))

pub returns-clause-point : goal.returns-clause-point
returns-clause-point c =
    sym (position_or_len_is is_point c.args.mantissa.now (length c.args.mantissa.now) 0 (omega arith) (λ k h. c.loop-at.invariant k (omega arith)) (λ h. absurd (omega arith)))
