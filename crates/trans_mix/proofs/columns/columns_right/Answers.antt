-- From the right they are as many as from the left.
use Rattle.std.proofs.Common.{arith}
use Rattle.trans_mix.proofs.ColumnLemmas.{right_columns}
use Rattle.trans_mix.proofs.columns.columns_right.Goals as goal

pub returns : goal.returns
returns c = right_columns c.args.by c.args.reach c.args.w c.odd_multiples_below.result c.min-count.result c.odd_multiples_below.ensures (omega arith)
