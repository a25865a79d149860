-- The lines of all ranges stand before the line of both numbers.
use Rattle.std.proofs.Common.{◌∙◌}
use Rattle.std.proofs.lemmas.List.{take_all}
use Rattle.printed_tables.proofs.Pulls.{pull_joined}
use Rattle.printed_tables.proofs.pull.pull_of.Goals as goal

pub returns : goal.returns
returns c =
    let p = c.args.job.now.parts in
    let ranges = c.items-ranges.result.now in
    rw (
      c.in_ok-put_bytes-3.ensures,
      c.in_ok-put_number-2.ensures,
      c.size_of.ensures,
      c.in_ok-put_bytes-2.ensures,
      c.in_ok-put_number.ensures,
      c.in_ok-put_bytes.ensures,
    )
    (pull_joined p.project.rate p.reels c.args.list.now _ ranges ranges c.loop-range.text.items c.loop-range.invariant
    (take_all c.loop-range.range-index ranges c.loop-range-test.false ∙ c.items-ranges.ensures) c.items-ranges.ensures c.items-ranges.ensures)
