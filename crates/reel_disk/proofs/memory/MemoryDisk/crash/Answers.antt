use Rattle.std.proofs.Common.{ℕ, List, subst, sym}
use Rattle.std.specs.Prelude.{Option}
use Rattle.reel_disk.specs.Disk.{view_of}
use Rattle.reel_disk.specs.Crash.{IsPicked}
use Rattle.reel_disk.specs.MemoryDisk.{history_in}
use Rattle.reel_disk.proofs.CrashLaws.{crash_image}
use Rattle.reel_disk.proofs.memory.MemoryDisk.crash.Goals as goal

-- the new disk shows the files that are left
pub returns-in-Ok-clause-picked : goal.returns-in-Ok-clause-picked
returns-in-Ok-clause-picked c id =
    subst (λ (left : Option (List ℕ)). IsPicked c.args.pick (history_in c.args.self.now) id (view_of (history_in c.args.self.now) id) left) (sym (c.with_files.ensures.disk.view id)) (c.in-Ok.ensures id)

pub returns-in-Ok-clause-image : goal.returns-in-Ok-clause-image
returns-in-Ok-clause-image c = crash_image c.args.pick (history_in c.args.self.now) (view_of (history_in c.with_files.result)) (returns-in-Ok-clause-picked c)
