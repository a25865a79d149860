use Rattle.std.proofs.Common.{length, refl, rules}
use Rattle.std.proofs.lemmas.Option.{slice_get_read}
use Rattle.source_reels.proofs.Faults.{accepted_fits}
use Rattle.source_reels.proofs.table.path_in.Goals as goal

pub path_of-requires-clause-number : goal.path_of-requires-clause-number
path_of-requires-clause-number c =
    let e = c.index-entries-from.result in
    (accepted_fits c.args.entries.now c.requires.accepted c.args.reel e (slice_get_read c.args.entries.now (length c.args.entries.now) c.args.reel e refl c.requires.reel (rw c.from.ensures at c.index-entries-from.is))).0

pub returns : goal.returns
returns c = rw (slice_get_read c.args.entries.now (length c.args.entries.now) c.args.reel c.index-entries-from.result refl c.requires.reel (rw c.from.ensures at c.index-entries-from.is)) (search rules)
