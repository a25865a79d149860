-- A fault counts once, as far as 64 bits count.
use Rattle.std.proofs.Common.{arith}
use Rattle.reel_disk.proofs.folder.FolderDisk.fault.Goals as goal

pub returns-clause-fault : goal.returns-clause-fault
returns-clause-fault g c = record { counts = record { cause = record { later = omega arith; failed = λ _. omega arith }; steady = λ never. absurd (never tt) }; once = λ _. omega arith }
