use Rattle.std.proofs.Common.{◌≡◌, ◌⊎◌}
use Rattle.std.specs.Prelude.{None}
use Rattle.cf_base.specs.declared.file.FileId.{FileId}
use Rattle.reel_disk.specs.Disk.{view_of}
use Rattle.reel_disk.specs.Crash.{IsPicked}
use Rattle.reel_disk.specs.Memory.{history_of, find_file}
use Rattle.reel_disk.specs.inside.Memory.{find_in}
use Rattle.reel_disk.proofs.crash.files_left.Given as goal

-- Each file is picked, or isn't reached yet.
abbrev pub invariant-loop-id : goal.invariant-loop-id
invariant-loop-id l = (q : FileId)
    → IsPicked l.pick (history_of l.store) q (view_of (history_of l.store) q) (find_file l.files q) ⊎ ((find_file l.files q ≡ None) × (find_in l.id-iterator q ≡ view_of (history_of l.store) q))
