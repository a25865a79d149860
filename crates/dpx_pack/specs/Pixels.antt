-- The pixels of a file (SMPTE 268M: 10-bit RGB, filled to 32-bit words by method A).
-- * pixel word: R in bits 31 to 22, G in 21 to 12, B in 11 to 2; the word of pixel (x, y) stands at `start + y*(4*width + pad) +
--   4*x`; the codes of a word by channel, and the word of a colour
use Rattle.std.specs.Prelude.{◌≡◌, ℕ, ◌+◌, ◌-◌, ◌*◌, ◌/◌, ◌%◌, ◌^◌, ◌<◌, Bool, true, false, List, [], ◌∷◌, map, drop, slice_index}
use Rattle.std.specs.List.{flat_map, range_with_len}
use Rattle.byteorder.specs.Endian.{big_number, little_number}
use Rattle.cf_base.specs.declared.pixel.Rgb.{Rgb}
use Rattle.dpx_header.specs.Frame.{stride}
use Rattle.dpx_header.specs.declared.info.FrameInfo.{FrameInfo}

-- the word of three codes: R in bits 31 to 22, G in 21 to 12, B in 11 to 2
abbrev pub pixel_word : ℕ → ℕ → ℕ → ℕ
pixel_word r g b = r * 2 ^ 22 + g * 2 ^ 12 + b * 2 ^ 2

-- the pixel has the codes that stand in these bits of the word
pub record IsPixelOf (word : ℕ) (p : Rgb) : Type 0 where
  pub red : p.r ≡ word / 2 ^ 22
  pub green : p.g ≡ word / 2 ^ 12 % 2 ^ 10
  pub blue : p.b ≡ word / 2 ^ 2 % 2 ^ 10

-- a word's codes by channel (red, green, blue), and the word of a colour, which has its codes by channel
abbrev pub word_codes : ℕ → List ℕ
word_codes word = (word / 2 ^ 22) ∷ (word / 2 ^ 12 % 2 ^ 10) ∷ (word / 2 ^ 2 % 2 ^ 10) ∷ []

abbrev pub colour_word : List ℕ → ℕ
colour_word colour = pixel_word (slice_index colour 0) (slice_index colour 1) (slice_index colour 2)

-- a word with its two lowest bits, the filler, 0
abbrev pub without_filler : ℕ → ℕ
without_filler word = word - word % 4

-- the word at an offset, where `number` reads numbers in the file's byte order
abbrev pub word_at : (ℕ → List ℕ → ℕ) → List ℕ → ℕ → ℕ
word_at number bytes offset = without_filler (number 4 (drop offset bytes))

-- a line of words from an offset on, from left to right
unfoldable pub line : (ℕ → List ℕ → ℕ) → ℕ → ℕ → List ℕ → List ℕ
line number start width bytes = map (λ x. word_at number bytes (start + 4 * x)) (range_with_len 0 width)

-- the first lines of a file, from the top
unfoldable pub lines : (ℕ → List ℕ → ℕ) → FrameInfo → ℕ → List ℕ → List ℕ
lines number info count bytes =
    flat_map (λ y. line number (info.start + y * stride info) info.width bytes) (range_with_len 0 count)

-- how numbers are read in a byte order: true is little-endian
abbrev pub number_in : Bool → ℕ → List ℕ → ℕ
number_in true = little_number
number_in false = big_number

-- all words of a file
abbrev pub pixels : FrameInfo → List ℕ → List ℕ
pixels info bytes = lines (number_in info.little) info info.height bytes

-- each place has the word of the pixel in column x of line y
abbrev pub HasPixels : FrameInfo → List ℕ → List ℕ → Type 0
HasPixels info bytes words =
    (x y : ℕ) → x < info.width → y < info.height
    → slice_index words (y * info.width + x) ≡ word_at (number_in info.little) bytes (info.start + y * stride info + 4 * x)
