-- What an attach answers: words of private clauses.
use Rattle.std.specs.Prelude.{ℕ, List, Result}
use Rattle.cf_base.specs.declared.file.FileId.{FileId}
use Rattle.reel_disk.specs.Disk.{History}
use Rattle.resume_ledger.specs.Ledger.{LedgerState}
use Rattle.resume_ledger.specs.declared.attach.OpenFault.{OpenFault}
use Rattle.resume_ledger.specs.Attach.{HasAttached}

-- the same, whatever files the frames have, as where version 2 counts
abbrev pub HasAttachedSecond : List ℕ → ℕ → History → History → Result LedgerState OpenFault → Type 0
HasAttachedSecond digest count old new result = (name : ℕ → FileId) (size : ℕ) → HasAttached digest count name size old new result
