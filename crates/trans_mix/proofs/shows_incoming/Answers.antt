-- The wipe from the corner at the right is two tests; of the others two are left open.
use Rattle.std.proofs.Common.{rules}
use Rattle.trans_mix.proofs.WipeLemmas.{both_tested, first_failed}
use Rattle.trans_mix.proofs.shows_incoming.Goals as goal

pub returns-then-passed-2 : goal.returns-then-passed-2
returns-then-passed-2 c =
    rw c.in-4.is
    (record {
      incoming =
          both_tested c.passed-in-4.result c.passed-then-passed-2.result _ _ c.if-passed-2.true
          (rw (c.from-w.ensures, c.from-across.ensures) at c.passed-in-4.ensures)
          (rw (c.from-along.ensures, c.from-h.ensures) at c.passed-then-passed-2.ensures);
    })

pub returns-else-passed-2 : goal.returns-else-passed-2
returns-else-passed-2 c =
    rw c.in-4.is
    (record {
      incoming =
          first_failed c.passed-in-4.result _ _ c.if-passed-2.false
          (rw (c.from-w.ensures, c.from-across.ensures) at c.passed-in-4.ensures);
    })

pub returns-then-passed-5 : goal.returns-then-passed-5
returns-then-passed-5 c = rw c.in-101.is (search rules)

pub returns-in-102 : goal.returns-in-102
returns-in-102 c = rw c.in-102.is (record { incoming = cc })
