-- The lines of all frames stand before their number.
use Rattle.std.proofs.Common.{◌≡◌, ap, ◌∙◌, arith}
use Rattle.std.specs.List.{flat_map, range_with_len}
use Rattle.printed_tables.specs.Plan.{plan_line}
use Rattle.printed_tables.proofs.Plans.{plan_grown, plan_joined}
use Rattle.printed_tables.proofs.plan.plan_of.Goals as goal

pub loop-i-preserved : goal.loop-i-preserved
loop-i-preserved c =
    plan_grown c.args.job.now.parts c.loop-i.i c.loop-i.text.items c.put_reel.new.text.items c.put_frame.new.text.items c.loop-i.invariant c.in_ok-put_reel.ensures c.in_ok-put_frame.ensures

pub returns : goal.returns
returns c =
    let whole : c.loop-i.i ≡ c.count-count.result = omega (arith, c.loop-i.auto.i-end, c.loop-i-test.false) in
    rw (c.in_ok-put_bytes-2.ensures, c.in_ok-put_number.ensures, c.in_ok-put_bytes.ensures)
    (plan_joined c.args.job.now.parts c.loop-i.text.items c.count-count.result c.count-count.ensures.count
    (c.loop-i.invariant ∙ ap (λ n. flat_map (plan_line c.args.job.now.parts) (range_with_len 0 n)) whole))
