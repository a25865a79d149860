-- Numbers in a fixed number of decimal digits.
-- * digits, file name of a frame: the last digits of a number; `r`, three digits, `.`, seven digits, `.dpx`
use Rattle.std.specs.Prelude.{ℕ, zero, suc, ◌+◌, ◌/◌, ◌%◌, ◌^◌, List, [], ◌∷◌, ◌++◌, codes}

-- the last digits of n in ASCII, that many
abbrev pub digits : ℕ → ℕ → List ℕ
digits zero n = []
digits (suc count) n = (48 + n / 10 ^ count % 10) ∷ digits count n

-- the name of the file of a record frame: `r`, the reel in three digits, a point, the frame in seven, and `.dpx`
unfoldable pub frame_file_name : ℕ → ℕ → List ℕ
frame_file_name reel frame = codes "r" ++ digits 3 reel ++ codes "." ++ digits 7 frame ++ codes ".dpx"
