use Rattle.std.proofs.Common.{◌∙◌}
use Rattle.edl_events.proofs.MapLaws.{same_line, same_place}
use Rattle.edl_events.proofs.table.Table.add.Goals as goal

pub returns-clause-counts : goal.returns-clause-counts
returns-clause-counts c q = c.in_ok-put.ensures.counts q ∙ same_line _ _ c.begin.ensures.counts c.args.reel.now q

pub returns-clause-places : goal.returns-clause-places
returns-clause-places c q nth = c.in_ok-put.ensures.places q nth ∙ same_place _ _ _ _ c.begin.ensures.counts c.begin.ensures.places c.args.place c.args.reel.now q nth
