-- The tests of whole lines, and those whose summands were moved to the other side.
use Rattle.trans_mix.proofs.ColumnLemmas.{same_columns, left_moved, middle_moved}
use Rattle.trans_mix.proofs.columns.incoming_columns.Goals as goal

pub returns-in-2 : goal.returns-in-2
returns-in-2 c = rw c.in-2.is (record { incoming = same_columns _ _ _ _ _ (λ x lt. cc) c.whole_line.ensures })

pub returns-in-22 : goal.returns-in-22
returns-in-22 c = rw c.in-22.is (record { incoming = same_columns _ _ _ _ _ (λ x lt. cc) c.whole_line-in-22.ensures })

pub returns-in-41 : goal.returns-in-41
returns-in-41 c =
    rw c.in-41.is
    (record {
      incoming =
          left_moved c.args.y c.args.w c.args.h c.args.k c.args.d _ _ _ _ _ _ _ _
          c.from-across.ensures c.from-along.ensures c.from-2.ensures c.from.ensures c.from-whole.ensures c.saturating_sub-left.ensures c.columns_left-in-41.ensures;
    })

pub returns-in-102 : goal.returns-in-102
returns-in-102 c =
    rw c.in-102.is
    (record {
      incoming =
          middle_moved c.args.y c.args.w c.args.h c.args.k c.args.d _ _ _ _ _ _ _ _ _
          c.from-across.ensures c.from-along.ensures c.from-2.ensures c.from.ensures c.from-whole.ensures c.abs_diff-from_centre.ensures
          c.saturating_sub-left-in-102.ensures c.columns_middle-in-102.ensures;
    })
