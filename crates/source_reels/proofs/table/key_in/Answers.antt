use Rattle.std.proofs.Common.{length, refl, rules}
use Rattle.std.proofs.lemmas.Option.{slice_get_read}
use Rattle.source_reels.proofs.Faults.{accepted_fits}
use Rattle.source_reels.proofs.table.key_in.Goals as goal

pub key_of-requires : goal.key_of-requires
key_of-requires c =
    let e = c.index-entries-from.result in
    (accepted_fits c.args.entries.now c.requires.accepted c.args.reel e (slice_get_read c.args.entries.now (length c.args.entries.now) c.args.reel e refl c.requires.reel (rw c.from.ensures at c.index-entries-from.is))).1

pub returns : goal.returns
returns c = rw (slice_get_read c.args.entries.now (length c.args.entries.now) c.args.reel c.index-entries-from.result refl c.requires.reel (rw c.from.ensures at c.index-entries-from.is)) (search rules)
