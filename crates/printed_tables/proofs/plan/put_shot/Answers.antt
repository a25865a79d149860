-- The pieces make up the transition.
use Rattle.std.proofs.Common.{◌≡◌, ◌++◌}
use Rattle.printed_tables.specs.Plan.{side_text}
use Rattle.printed_tables.proofs.Plans.{two_joined}
use Rattle.printed_tables.proofs.plan.put_shot.Goals as goal

pub returns-in_ok-put_side-in-Two-2 : goal.returns-in_ok-put_side-in-Two-2
returns-in_ok-put_side-in-Two-2 c =
    let old_side : c.put_side-in-Two.new.text.items ≡ c.put_bytes-in-Two-3.new.text.items ++ side_text c.args.events.now c.in-Two.old = c.in_ok-put_side-in-Two.ensures in
    rw (
      c.in_ok-put_side-in-Two-2.ensures,
      c.in_ok-put_bytes-in-Two-4.ensures,
      old_side,
      c.in_ok-put_bytes-in-Two-3.ensures,
      c.in_ok-put_number-in-Two-2.ensures,
      c.in_ok-put_bytes-in-Two-2.ensures,
      c.in_ok-put_number-in-Two.ensures,
      c.in_ok-put_bytes-in-Two.ensures,
      c.in_ok-put_kind-in-Two.ensures,
      c.in-Two.is,
    )
    (two_joined c.args.text.now.items _ _ _ _ _)
