-- From its number on each call fails.
use Rattle.std.proofs.Common.{ℕ, ap, sym}
use Rattle.std.specs.Prelude.{Option}
use Rattle.reel_disk.specs.MemoryDisk.{is_stopped}
use Rattle.reel_disk.proofs.memory.has_stopped.Goals as goal

pub returns-in-Some : goal.returns-in-Some
returns-in-Some c = ap (λ (o : Option ℕ). is_stopped o c.args.call) (sym c.in-Some.is)
