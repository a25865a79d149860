-- What is counted over a picture's words (10-bit RGB, filled by method A: R in bits 31 to 22, G in 21 to 12, B in 11 to 2).
-- * counts: of the words of a picture: those whose greatest code is 1020 or more (high), those whose least code is 3 or less
--   (low), all three codes of all of them added up (sum)
use Rattle.std.specs.Prelude.{◌≡◌, ℕ, ◌+◌, ◌/◌, ◌%◌, ◌^◌, ◌≤◌, Bool, List, length, map, max, min, nat_le, slice_index}
use Rattle.std.specs.List.{count_by, sum_by}
use Rattle.reel_qc.specs.declared.words.TheConstants.{PIXELS}
use Rattle.reel_qc.specs.declared.table.probe.ProbeKind.{ProbeKind}
use Rattle.reel_qc.specs.declared.table.probe.ProbeKind.TheVariants.{High, Low, Sum}

-- as many words as a frame of the largest size has, or fewer
abbrev pub AreFrameWords : List ℕ → Type 0
AreFrameWords words = length words ≤ PIXELS

abbrev pub red_of : ℕ → ℕ
red_of word = word / 2 ^ 22

abbrev pub green_of : ℕ → ℕ
green_of word = word / 2 ^ 12 % 2 ^ 10

abbrev pub blue_of : ℕ → ℕ
blue_of word = word / 2 ^ 2 % 2 ^ 10

abbrev pub greatest_code : ℕ → ℕ
greatest_code word = max (max (red_of word) (green_of word)) (blue_of word)

abbrev pub least_code : ℕ → ℕ
least_code word = min (min (red_of word) (green_of word)) (blue_of word)

abbrev pub code_sum : ℕ → ℕ
code_sum word = red_of word + green_of word + blue_of word

-- near the top of the range: its greatest code is 1020 or more
abbrev pub reaches_high : ℕ → Bool
reaches_high word = nat_le 1020 (greatest_code word)

-- near the bottom: its least code is 3 or less
abbrev pub reaches_low : ℕ → Bool
reaches_low word = nat_le (least_code word) 3

-- the count of a kind: how many words are near the top or the bottom, or all codes added up
abbrev pub count_of : ProbeKind → List ℕ → ℕ
count_of High words = count_by reaches_high words
count_of Low words = count_by reaches_low words
count_of Sum words = sum_by code_sum words

-- the counts of several kinds, in order
abbrev pub counts_of : List ProbeKind → List ℕ → List ℕ
counts_of kinds words = map (λ kind. count_of kind words) kinds

-- each of these is added to its own count, and wraps past 64 bits
pub record HasAdded (added old new : List ℕ) : Type 0 where
  pub size : length new ≡ length old
  pub each : (k : ℕ) → slice_index new k ≡ (slice_index old k + slice_index added k) % 2 ^ 64
