-- What a word of a band is, from the words of the two sides at its place.
--     mixed_word k d old new      at frame k of a dissolve of d frames: each channel is mixed
--     chosen_word shows old new      in a wipe: the new side's where it shows, else the old side's
--     HasChosen shows w old new words      lines of w words, each word chosen by its column and line
use Rattle.std.specs.Prelude.{◌≡◌, ℕ, ◌+◌, ◌*◌, ◌<◌, Bool, List, length, map, slice_index, if◌then◌else◌}
use Rattle.dpx_pack.specs.Pixels.{word_codes, colour_word}
use Rattle.trans_mix.specs.Mix.{mixed_code}
use Rattle.tetra_look.specs.Look.{channels}

abbrev pub mixed_word : (k d old new : ℕ) → ℕ
mixed_word k d old new =
    colour_word (map (λ c. mixed_code (slice_index (word_codes old) c) (slice_index (word_codes new) c) k d) channels)

abbrev pub chosen_word : Bool → (old new : ℕ) → ℕ
chosen_word shows old new = if shows then new else old

-- lines of w words each, where the test says of column x of line n, from 0, whether the new side shows
abbrev pub HasChosen : (shows : (x n : ℕ) → Bool) (w : ℕ) (old new words : List ℕ) → Type 0
HasChosen shows w old new words =
    (x n : ℕ) → x < w → n * w + x < length words
    → slice_index words (n * w + x) ≡ chosen_word (shows x n) (slice_index old (n * w + x)) (slice_index new (n * w + x))
