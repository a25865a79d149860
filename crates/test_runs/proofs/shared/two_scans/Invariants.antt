-- One scan is made a turn.
use Rattle.std.proofs.Common.{◌≡◌, vec_len}
use Rattle.test_runs.proofs.shared.two_scans.Given as goal

abbrev pub invariant-loop : goal.invariant-loop
invariant-loop l = vec_len l.scans ≡ l.counter
