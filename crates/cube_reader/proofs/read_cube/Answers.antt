use Rattle.std.proofs.Common.{◌≡◌, sym, ◌∙◌, arith, length}
use Rattle.std.specs.Prelude.{max}
use Rattle.cube_reader.specs.Text.{lines_in}
use Rattle.cube_reader.proofs.EndLaws.{by_end, by_table, table_read}
use Rattle.cube_reader.proofs.read_cube.Goals as goal

pub returns-in-Some : goal.returns-in-Some
returns-in-Some c =
    let line : c.max.result ≡ max 1 (length (lines_in c.args.text.now)) = (let done = c.in_ok-reading.ensures.done in let most = c.max.ensures in omega (arith, done, most)) in
    by_end c.args.text.now c.if-text-gt-CUBE_BYTES.false c.in_ok-reading.reading c.in_ok-reading.ensures c.in-Some.kind (sym c.end_fault.ensures ∙ c.in-Some.is) c.max.result line

pub invariant_of-result : goal.invariant_of-result
invariant_of-result c = table_read c.args.text.now c.if-text-gt-CUBE_BYTES.false c.in_ok-reading.reading c.in_ok-reading.ensures (sym c.end_fault.ensures ∙ c.in_default.is)

pub returns : goal.returns
returns c = by_table c.args.text.now c.if-text-gt-CUBE_BYTES.false c.in_ok-reading.reading c.in_ok-reading.ensures (sym c.end_fault.ensures ∙ c.in_default.is)
