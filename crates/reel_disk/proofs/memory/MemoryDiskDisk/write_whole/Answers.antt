-- A write that fails by its number leaves its place loose, and what a read answers as it was.
use Rattle.std.proofs.Common.{◌∙◌, ap, subst}
use Rattle.reel_disk.specs.declared.disk.Place.TheVariants.{Whole}
use Rattle.reel_disk.specs.declared.store.Store.{Store}
use Rattle.reel_disk.specs.Disk.{HasFailedAt, view_of}
use Rattle.reel_disk.specs.Memory.{history_of}
use Rattle.reel_disk.proofs.memory.MemoryDiskDisk.write_whole.Goals as goal

pub returns-then-begins-clause-told : goal.returns-then-begins-clause-told
returns-then-begins-clause-told c =
    subst (λ (s : Store). HasFailedAt (history_of s) (history_of c.loosen.new.store) (Whole c.args.id)) c.begins.ensures.store c.loosen.ensures.time

pub returns-then-begins-clause-kept : goal.returns-then-begins-clause-kept
returns-then-begins-clause-kept c failed q = c.loosen.ensures.files q ∙ ap (λ (s : Store). view_of (history_of s) q) c.begins.ensures.store
