-- No more than `most` bytes are there, and each turn but the last brings more.
use Rattle.std.proofs.Common.{◌-◌, ◌≤◌, vec_len}
use Rattle.scan_source.proofs.system.read_more.Given as goal

abbrev pub invariant-loop-piece : goal.invariant-loop-piece
invariant-loop-piece g l = vec_len l.into ≤ l.most

abbrev pub decreases-loop-piece : goal.decreases-loop-piece
decreases-loop-piece g l = l.most - vec_len l.into
