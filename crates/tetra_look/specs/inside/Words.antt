-- A pixel's word under a look: the word of the colour that its codes have there, so its two lowest bits are 0: words of private clauses.
use Rattle.std.specs.Prelude.{ℕ, map}
use Rattle.dpx_pack.specs.Pixels.{word_codes, colour_word}
use Rattle.tetra_look.specs.Look.{Lattice, cube_code, line_code, channels}

-- the same under a table of three dimensions, and under one of one dimension
abbrev pub cube_word : Lattice → ℕ → ℕ
cube_word l word = colour_word (map (cube_code l (word_codes word)) channels)

abbrev pub line_word : Lattice → ℕ → ℕ
line_word l word = colour_word (map (line_code l (word_codes word)) channels)
