use Rattle.std.proofs.Common.{◌∙◌, sym, subst, ap, arith, ℕ, List, get_or}
use Rattle.reel_qc.specs.Tones.{IsToneTable}
use Rattle.reel_qc.proofs.Squares.{square_is, squares_are}
use Rattle.reel_qc.proofs.sheet.curves.square_table.Goals as goal

pub unreachable-requires : goal.unreachable-requires
unreachable-requires c =
    let kept = c.loop-code.invariant in
    let same = squares_are c.loop-code.values kept.0 (λ k lt. kept.1 k (omega (arith, lt, c.loop-code-test.false))) in
    c.in-None.ensures (subst IsToneTable (sym same) square_is)

pub returns-clause-at : goal.returns-clause-at
returns-clause-at c code le =
    let kept = c.loop-code.invariant in
    sym (ap (λ (l : List ℕ). get_or l code 0) c.in-Some.ensures.0 ∙ kept.1 code (omega (arith, le, c.loop-code-test.false)))

pub returns-clause-table : goal.returns-clause-table
returns-clause-table c =
    let kept = c.loop-code.invariant in
    c.in-Some.ensures.0 ∙ squares_are c.loop-code.values kept.0 (λ k lt. kept.1 k (omega (arith, lt, c.loop-code-test.false)))
