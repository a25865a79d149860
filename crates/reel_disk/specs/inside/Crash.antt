-- What a crash leaves of a disk, by the number that picks one of the images: words of private clauses.
use Rattle.std.specs.Prelude.{◌≡◌, ℕ, Option}
use Rattle.cf_base.specs.declared.file.FileId.{FileId}
use Rattle.reel_disk.specs.Disk.{History}
use Rattle.reel_disk.specs.inside.Memory.{byte_of}
use Rattle.reel_disk.specs.Crash.{IsLastFirm}

-- the same, or that the file had none there
abbrev pub WasFirm : History → FileId → ℕ → Option ℕ → Type 0
WasFirm h id k byte = (m : ℕ) × IsLastFirm h id k m × (byte ≡ byte_of ((h.past m).view id) k)
