-- A cut that stands between the one before it and the record's end is in turn.
use Rattle.std.proofs.Common.{◌≡◌, true, nat_lt, refl, arith, sym, ◌∙◌}
use Rattle.std.proofs.lemmas.Bool.Decides.{nat_tests}
use Rattle.conform_job.proofs.cuts.number_in_turn.Goals as goal

pub returns-then-cut-end-clause-some : goal.returns-then-cut-end-clause-some
returns-then-cut-end-clause-some c =
    let above = c.if-before-cut.true in
    let below = c.if-cut-end.true in
    let above_test : nat_lt c.args.before c.in-Some.cut ≡ true = grind (arith, nat_tests, above) in
    let below_test : nat_lt c.in-Some.cut c.args.end ≡ true = grind (arith, nat_tests, below) in
    (sym c.number_of.ensures ∙ c.in-Some.is, rw (above_test, below_test) refl)
