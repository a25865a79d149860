use Rattle.std.proofs.Common.{◌≡◌, ◌-◌, ◌≤◌, length, take}
use Rattle.std.specs.Io.KnownBytes.{Consumes}
use Rattle.cf_base.proofs.reading.fill.Given as goal

-- what is filled are the next bytes of the file
abbrev pub invariant-loop-filled : goal.invariant-loop-filled
invariant-loop-filled g l = (length l.into ≡ length l.fn.into) × (l.filled ≤ length l.into) × Consumes (g.F.Read.remaining l.fn.file) (g.F.Read.remaining l.file) (take l.filled l.into)

abbrev pub decreases-loop-filled : goal.decreases-loop-filled
decreases-loop-filled g l = length l.fn.into - l.filled
