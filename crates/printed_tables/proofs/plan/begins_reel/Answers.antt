-- Where the record is cut, the frame is the first of its reel where the reel's span begins.
use Rattle.std.proofs.Common.{sym, ◌∙◌}
use Rattle.printed_tables.proofs.Plans.{first_of_reel}
use Rattle.printed_tables.proofs.plan.begins_reel.Goals as goal

pub returns-then-not-is_empty : goal.returns-then-not-is_empty
returns-then-not-is_empty c =
    first_of_reel c.args.job.now.parts c.args.reel c.args.i c.reel_span.result c.requires.own c.reel_span.ensures.span
    (rw (c.items.ensures, c.project.ensures) at (sym c.is_empty.ensures ∙ c.if-not-is_empty.true))
