-- One frame after another gets its gate and its record.
use Rattle.std.proofs.Common.{◌≡◌, ◌≢◌, ℕ, ◌+◌, ◌*◌, Bool, true, List, get_or, sym, ◌∙◌}
use Rattle.std.specs.Prelude.{Option}
use Rattle.resume_ledger.specs.Sound.{HasSize}
use Rattle.resume_ledger.specs.Steps.{OthersKept}
use Rattle.resume_ledger.specs.inside.Steps.{IsRecorded}

-- a frame whose gate stays closed
pub shut : (was_open : Bool) (content : Option (List ℕ)) (size : ℕ) (body : List ℕ) (i : ℕ) → get_or body (64 + 33 * i) 0 ≢ 65 → ((was_open ≡ true) × HasSize size content → ⊥) → IsRecorded was_open content size body i
shut was_open content size body i closed never = record { opens = (λ is. absurd (closed is), λ both. absurd (never both)); hash = λ is. absurd (closed is) }

-- what a frame got stays so while another one gets its own
pub recorded_on : (was_open : Bool) (content : Option (List ℕ)) (size : ℕ) (old new : List ℕ) (i k : ℕ) → OthersKept old new i → k ≢ i → IsRecorded was_open content size old k → IsRecorded was_open content size new k
recorded_on was_open content size old new i k kept other is = record {
  opens = (λ here. is.opens.0 (sym (kept.gates k other) ∙ here), λ both. kept.gates k other ∙ is.opens.1 both);
  hash = λ here bytes there. kept.records k other ∙ is.hash (sym (kept.gates k other) ∙ here) bytes there;
}
