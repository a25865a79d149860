-- No code of a table is over 1023.
use Rattle.std.proofs.Common.{◌≤◌, sym, subst, arith}
use Rattle.reel_qc.proofs.sheet.drawing.toned_code.Goals as goal

pub returns-clause-small : goal.returns-clause-small
returns-clause-small g c = subst (λ n. n ≤ 1023) (sym c.at.ensures.value) (c.at.ensures.table.codes c.args.code (omega (arith, c.requires)))
