-- Lines of printed text.
-- * spaced line: words with single spaces between them, and the end of the line
--     ended text      a text and the end of its line
--     spaced words, spaced_line words      words with single spaces between them, and the same with the end of the line
use Rattle.std.specs.Prelude.{ℕ, List, [], ◌∷◌, ◌++◌}
use Rattle.std.specs.List.{join_with_byte}

abbrev pub ended : List ℕ → List ℕ
ended text = text ++ 10 ∷ []

abbrev pub spaced : List (List ℕ) → List ℕ
spaced words = join_with_byte 32 words

abbrev pub spaced_line : List (List ℕ) → List ℕ
spaced_line words = ended (spaced words)
