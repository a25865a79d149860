-- The bytes of a ledger's two files, by its version: the seal, and the body with a gate for each frame: words of private clauses.
use Rattle.std.specs.Prelude.{◌≡◌, ℕ, Option, MatchOption}
use Rattle.resume_ledger.specs.Body.{Layout}

-- for how many frames a body of that length is, where it is for any
abbrev pub IsCountFor : Layout → ℕ → Option ℕ → Type 0
IsCountFor layout len count = MatchOption count ((frames : ℕ) → len ≡ layout.size frames → ⊥) (λ frames. len ≡ layout.size frames)
