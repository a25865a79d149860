-- What each code of a channel adds to a pixel's word under a table of one dimension, where each channel goes along its own
-- column: words of private clauses.
--     AddsTo l channel scale count parts      the parts of the first so many codes of a channel, whose code 1 has that part
--     AddUp l reds greens blues      those of all codes of all channels
--     ShadesBy reds greens blues before after      words by these parts
use Rattle.std.specs.Prelude.{◌≡◌, ℕ, ◌*◌, ◌^◌, ◌<◌, ◌≤◌, List, [], ◌∷◌, length, slice_index, EachIndex}
use Rattle.tetra_look.specs.Look.{Lattice, line_code}
use Rattle.tetra_look.specs.inside.Words.{line_word}

pub record AddsTo (l : Lattice) (channel scale count : ℕ) (parts : List ℕ) : Type 0 where
  pub count_is : length parts ≡ count
  pub each : (code : ℕ) → code < count → slice_index parts code ≡ line_code l (code ∷ code ∷ code ∷ []) channel * scale
  pub most : (code : ℕ) → slice_index parts code ≤ 1023 * scale

pub record AddUp (l : Lattice) (reds greens blues : List ℕ) : Type 0 where
  pub red : AddsTo l 0 (2 ^ 22) 1024 reds
  pub green : AddsTo l 1 (2 ^ 12) 1024 greens
  pub blue : AddsTo l 2 (2 ^ 2) 1024 blues

-- words are shaded by these parts: each has come to the word that it has under any table that they are of
abbrev pub ShadesBy : (reds greens blues before after : List ℕ) → Type 0
ShadesBy reds greens blues before after =
    (l : Lattice) → AddUp l reds greens blues → EachIndex after (λ k. slice_index after k ≡ line_word l (slice_index before k))
