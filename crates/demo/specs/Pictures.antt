-- The source frames of the demonstration job (SMPTE 268M): 32 by 18 pixels. What they show is this project's own rule.
--     source_word reel frame x y      the word of a pixel
--     source_file reel frame      the file of a frame: its header, then its picture
use Rattle.std.specs.Prelude.{ℕ, ◌+◌, ◌*◌, ◌%◌, List, [], ◌++◌, map, None}
use Rattle.std.specs.List.{flat_map, range_with_len}
use Rattle.byteorder.specs.Endian.{big_bytes}
use Rattle.dpx_header.specs.Writing.{header_of}
use Rattle.dpx_header.specs.declared.writing.OutHead.{OutHead}
use Rattle.dpx_pack.specs.Pixels.{pixel_word}

-- the word of the pixel in column x of line y
unfoldable pub source_word : (reel frame x y : ℕ) → ℕ
source_word reel frame x y =
    pixel_word
    ((7 * frame + 3 * x + 101 * reel) % 1024)
    ((5 * frame + 11 * y + 37 * reel) % 1024)
    ((frame + x * y) % 1024)

-- the words of line y, from left to right, and their bytes
unfoldable pub line_words : (reel frame y : ℕ) → List ℕ
line_words reel frame y = map (λ x. source_word reel frame x y) (range_with_len 0 32)

abbrev pub source_line : (reel frame y : ℕ) → List ℕ
source_line reel frame y = flat_map (big_bytes 4) (line_words reel frame y)

-- the lines from the top
unfoldable pub picture : (reel frame : ℕ) → List ℕ
picture reel frame = flat_map (source_line reel frame) (range_with_len 0 18)

abbrev pub source_head : (reel frame : ℕ) → OutHead
source_head reel frame = record {
  width = 32;
  height = 18;
  reel = reel;
  frame = frame;
  position = frame;
  length = 1;
  timecode = None;
  title = [];
}

unfoldable pub source_file : (reel frame : ℕ) → List ℕ
source_file reel frame = header_of (source_head reel frame) ++ picture reel frame
