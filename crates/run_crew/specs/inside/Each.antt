-- What became of the items of a slice. This is this project's own rule.
use Rattle.std.specs.Prelude.{ℕ, ◌<◌, List, slice_index_or}

-- each of the first so many items became what it may
abbrev pub EachBecame : {T : Type 0} → (count : ℕ) → (Has : T → T → Type 0) → (old new : List T) → Type 0
EachBecame {T = T} count Has old new = (k : ℕ) (d : T) → k < count → Has (slice_index_or old k d) (slice_index_or new k d)
