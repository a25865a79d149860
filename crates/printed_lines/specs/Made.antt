-- The lines that are made in memory.
use Rattle.std.specs.Prelude.{◌≡◌, ℕ, Vec, Option, Result, MatchOption, IfOk}
use Rattle.std.specs.declared.alloc.Global.{Global}
use Rattle.printed_lines.specs.Lines.{IsMade, line_of}
use Rattle.outcome.specs.declared.Outcome.{Outcome}

-- an outcome whose line is made has it, unless memory runs out; any other has none
abbrev pub HasMadeLine : {E : Type 0} → Outcome → Option (Result (Vec ℕ Global) E) → Type 0
HasMadeLine outcome line = MatchOption line (IsMade outcome → ⊥) (λ made. IsMade outcome × IfOk made (λ text. text.items ≡ line_of outcome))
