use Rattle.std.proofs.Common.{◌≡◌, ◌<◌, ◌==◌, ℕ, false, length, get_or}
use Rattle.resume_ledger.specs.Body.{layout_of}
use Rattle.resume_ledger.proofs.body.gates.Given as goal

-- the flags of the gates below i
abbrev pub invariant-loop-i : goal.invariant-loop-i
invariant-loop-i l = record {
  size : length l.gates.items ≡ l.i;
  each : (k : ℕ) → k < l.i → get_or l.gates.items k false ≡ (get_or l.body ((layout_of l.version).gate k) 0 == 65);
}
