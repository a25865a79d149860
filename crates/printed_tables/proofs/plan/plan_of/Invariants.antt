use Rattle.std.proofs.Common.{◌≡◌}
use Rattle.std.specs.List.{flat_map, range_with_len}
use Rattle.printed_tables.specs.Plan.{plan_line}
use Rattle.printed_tables.proofs.plan.plan_of.Given as goal

-- the lines of the first frames
abbrev pub invariant-loop-i : goal.invariant-loop-i
invariant-loop-i l = l.text.items ≡ flat_map (plan_line l.job.parts) (range_with_len 0 l.i)
