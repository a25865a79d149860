-- What a run on one thread finishes and asks for: words of private clauses.
use Rattle.std.specs.Prelude.{ℕ, Bool, false, List, [], ◌∷◌, slice_index_or, if◌then◌else◌}

-- frame i, where its gate is closed
abbrev pub frame_if_closed : List Bool → ℕ → List ℕ
frame_if_closed gates i = if slice_index_or gates i false then [] else (i ∷ [])
