use Rattle.cf_base.proofs.Marks.{exponent_digits}
use Rattle.cf_base.proofs.fixed.places_of.Goals as goal

pub digits_after-requires-clause-digits : goal.digits_after-requires-clause-digits
digits_after-requires-clause-digits c = rw (c.without_sign.ensures, c.exponent_of.ensures) (exponent_digits c.args.token.now c.requires)
