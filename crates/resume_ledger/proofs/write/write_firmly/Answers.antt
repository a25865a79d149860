use Rattle.std.proofs.Common.{refl}
use Rattle.reel_disk.specs.declared.disk.Place.TheVariants.{Whole}
use Rattle.reel_disk.proofs.Calls.{write_loosens}
use Rattle.reel_disk.proofs.Sparing.{write_spares}
use Rattle.reel_disk.proofs.Writing.{writing_once, writing_then}
use Rattle.resume_ledger.proofs.Writing.{put_alone, put_synced, spares_both, firmly}
use Rattle.resume_ledger.proofs.write.write_firmly.Goals as goal

-- the write failed
pub returns-in_default-clause-put : goal.returns-in_default-clause-put
returns-in_default-clause-put g c told = put_alone _ _ _ (write_loosens _ _ _ _ _ (c.write_whole.ensures.told told))

pub returns-in_default-clause-spares : goal.returns-in_default-clause-spares
returns-in_default-clause-spares g c told = write_spares _ _ _ _ _ (c.write_whole.ensures.told told)

pub returns-in_default-clause-own : goal.returns-in_default-clause-own
returns-in_default-clause-own g c = writing_once c.write_whole.ensures.call refl

-- the sync failed
pub returns-in_default-sync-clause-put : goal.returns-in_default-sync-clause-put
returns-in_default-sync-clause-put g c told = put_synced _ _ _ _ _ (write_loosens _ _ _ _ _ (c.write_whole.ensures.told told)) (c.sync.ensures.told told)

pub returns-in_default-sync-clause-spares : goal.returns-in_default-sync-clause-spares
returns-in_default-sync-clause-spares g c told = spares_both _ _ _ _ _ _ (write_loosens _ _ _ _ _ (c.write_whole.ensures.told told)) (write_spares _ _ _ _ _ (c.write_whole.ensures.told told)) (c.sync.ensures.told told)

pub returns-in_default-sync-clause-own : goal.returns-in_default-sync-clause-own
returns-in_default-sync-clause-own g c = writing_then (writing_once c.write_whole.ensures.call refl) (writing_once c.sync.ensures.call tt)

-- both were done
pub returns-clause-put : goal.returns-clause-put
returns-clause-put g c told = put_synced _ _ _ _ _ (write_loosens _ _ _ _ _ (c.write_whole.ensures.told told)) (c.sync.ensures.told told)

pub returns-clause-spares : goal.returns-clause-spares
returns-clause-spares g c told = spares_both _ _ _ _ _ _ (write_loosens _ _ _ _ _ (c.write_whole.ensures.told told)) (write_spares _ _ _ _ _ (c.write_whole.ensures.told told)) (c.sync.ensures.told told)

pub returns-clause-own : goal.returns-clause-own
returns-clause-own g c = writing_then (writing_once c.write_whole.ensures.call refl) (writing_once c.sync.ensures.call tt)

pub returns-clause-firmly : goal.returns-clause-firmly
returns-clause-firmly g c told = firmly _ _ _ (Whole c.args.id) _ (c.in-Done.ensures.told told) (c.in-Done-sync.ensures.told told)
