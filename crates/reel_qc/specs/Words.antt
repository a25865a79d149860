-- The words of a frame's file (SMPTE 268M: 10-bit RGB in words of four bytes, from byte 2048 on).
-- * words of a frame's file: its big-endian words from byte 2048 on, as many as are whole and at most as many as the frame has
--   pixels; none without a file
--     frame_words job file      its words, as many as are whole and at most as many as the frame has pixels; none without a file
use Rattle.std.specs.Prelude.{ℕ, ◌+◌, ◌-◌, ◌*◌, ◌/◌, min, List, [], length, drop, map, Option, Some, None}
use Rattle.std.specs.List.{range_with_len}
use Rattle.cf_base.specs.declared.limits.TheConstants.{HEADER}
use Rattle.byteorder.specs.Endian.{big_number}
use Rattle.conform_job.specs.Job.{JobData}
use Rattle.frame_render.specs.Frame.{pixel_count}

-- how many words are whole in a file of this length from a byte on, at most so many
abbrev pub whole_words : (start most len : ℕ) → ℕ
whole_words start most len = min most ((len - start) / 4)

-- these words, big-endian
unfoldable pub words_from : (start most : ℕ) → List ℕ → List ℕ
words_from start most bytes =
    map (λ k. big_number 4 (drop (start + 4 * k) bytes)) (range_with_len 0 (whole_words start most (length bytes)))

-- the words of the image data from the `first`-th on, at most so many; an absent file has none
abbrev pub words_in : (first most : ℕ) → Option (List ℕ) → List ℕ
words_in first most None = []
words_in first most (Some bytes) = words_from (HEADER + 4 * first) most bytes

abbrev pub frame_words : JobData → Option (List ℕ) → List ℕ
frame_words job file = words_in 0 (pixel_count job) file
