-- Rows that compute.
use Rattle.std.proofs.Common.{◌≡◌, true, false, [], ◌∷◌, refl}
use Rattle.std.specs.List.{flat_map}
use Rattle.byteorder.specs.Endian.{big_bytes}
use Rattle.dpx_header.specs.declared.info.FrameInfo.{FrameInfo}
use Rattle.dpx_pack.specs.Pixels.{pixel_word, without_filler, number_in, line, lines, pixels}

-- (1023, 0, 512) and (64, 940, 95)
white_and_green : pixel_word 1023 0 512 ≡ 0xFFC0_0800
white_and_green = refl

dark : pixel_word 64 940 95 ≡ 0x103A_C17C
dark = refl

little_endian : number_in true 4 (0x7C ∷ 0xC1 ∷ 0x3A ∷ 0x10 ∷ []) ≡ 0x103A_C17C
little_endian = refl

filler : without_filler 0x103A_C17F ≡ 0x103A_C17C
filler = refl

-- a big-endian file of one column and two lines: one byte before the first line, and two bytes behind it
abbrev column : FrameInfo
column = record {
  little = false;
  width = 1;
  height = 2;
  start = 1;
  pad = 2;
}

two_lines : pixels column (9 ∷ 0xFF ∷ 0xC0 ∷ 0x08 ∷ 0x03 ∷ 9 ∷ 9 ∷ 0x10 ∷ 0x3A ∷ 0xC1 ∷ 0x7C ∷ 9 ∷ []) ≡ 0xFFC0_0800 ∷ 0x103A_C17C ∷ []
unfolding line lines
two_lines = refl

-- each word in four bytes, the highest first
packed : flat_map (big_bytes 4) (0xFFC0_0800 ∷ 0x103A_C17C ∷ []) ≡ 0xFF ∷ 0xC0 ∷ 0x08 ∷ 0x00 ∷ 0x10 ∷ 0x3A ∷ 0xC1 ∷ 0x7C ∷ []
packed = refl
