-- A run goes on where its number is the same.
use Rattle.std.proofs.Common.{◌≡◌, rules}
use Rattle.std.proofs.Math.Bool.{not}
use Rattle.edl_events.specs.inside.Table.{goes_on}
use Rattle.edl_events.proofs.MapLaws.{ends_where}
use Rattle.edl_events.proofs.table.Table.begin.Goals as goal
use Rattle.edl_events.proofs.table.Table.begin.Goals.{then-ne, else-ne}

pub returns-clause-counts : goal.returns-clause-counts
returns-clause-counts c q =
    let ends : c.ne.result ≡ not (goes_on c.args.self.now.number c.args.number) = ends_where c.args.self.now.number c.args.number c.ne.result c.ne.ensures in
    elim c.if-ne.branch [ then-ne w ↦ search rules | else-ne w ↦ search rules ]

pub returns-clause-places : goal.returns-clause-places
returns-clause-places c q nth =
    let ends : c.ne.result ≡ not (goes_on c.args.self.now.number c.args.number) = ends_where c.args.self.now.number c.args.number c.ne.result c.ne.ensures in
    elim c.if-ne.branch [ then-ne w ↦ search rules | else-ne w ↦ search rules ]
