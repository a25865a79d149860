-- Rows that compute.
use Rattle.std.proofs.Common.{◌≡◌, ℕ, false, [], ◌∷◌, refl}
use Rattle.std.specs.Prelude.{codes, Ok, Err}
use Rattle.byteorder.specs.Endian.{big_number, little_number}
use Rattle.dpx_header.specs.Frame.{need_of}
use Rattle.dpx_header.specs.Reading.{HeaderFields, info_by}
use Rattle.dpx_header.specs.Writing.{u32, text}
use Rattle.dpx_header.specs.declared.info.FrameInfo.{FrameInfo}
use Rattle.dpx_header.specs.declared.fault.DpxFault.TheVariants.{Elements, Descriptor, Depth, Packing, Encoding, Orientation, Sign, Encrypted, Offset, Padding, Size, Short}

-- the magic number in both byte orders
big_magic : big_number 4 (codes "SDPX") ≡ 0x5344_5058
big_magic = refl

little_magic : little_number 4 (codes "XPDS") ≡ 0x5344_5058
little_magic = refl

big_endian_size : u32 2064 ≡ 0 ∷ 0 ∷ 8 ∷ 16 ∷ []
unfolding u32
big_endian_size = refl

version : text 8 (codes "V1.0") ≡ codes "V1.0\0\0\0\0"
unfolding text
version = refl

abbrev size_of : ℕ → ℕ → ℕ → ℕ → FrameInfo
size_of width height start pad = record {
  little = false;
  width = width;
  height = height;
  start = start;
  pad = pad;
}

-- the last line has no padding behind it
two_by_two : need_of (size_of 2 2 2048 0) ≡ 2064
two_by_two = refl

padded_lines : need_of (size_of 3 5 8192 8) ≡ 8284
padded_lines = refl

greatest : need_of (size_of 4096 4096 1048576 4092) ≡ 84914180
greatest = refl

abbrev fields : ℕ → ℕ → ℕ → ℕ → ℕ → ℕ → ℕ → ℕ → FrameInfo → HeaderFields
fields elements descriptor depth packing encoding orientation sign encryption info = record {
  elements = elements;
  descriptor = descriptor;
  depth = depth;
  packing = packing;
  encoding = encoding;
  orientation = orientation;
  sign = sign;
  encryption = encryption;
  info = info;
}

abbrev good : FrameInfo → HeaderFields
good info = fields 1 50 10 1 0 0 0 0 info

taken : info_by (good (size_of 2 2 2048 0)) 2064 ≡ Ok (size_of 2 2 2048 0)
taken = refl

undefined_is_taken : info_by (fields 1 50 10 1 0xFFFF 0xFFFF 0xFFFF_FFFF 0xFFFF_FFFF (size_of 2 2 2048 0)) 2064 ≡ Ok (size_of 2 2 2048 0)
undefined_is_taken = refl

-- each fault comes before all that follow
all_faulty : info_by (fields 2 51 8 2 1 1 1 1 (size_of 0 0 2047 2)) 0 ≡ Err Elements
all_faulty = refl

rgb_alpha : info_by (fields 1 51 8 2 1 1 1 1 (size_of 0 0 2047 2)) 0 ≡ Err Descriptor
rgb_alpha = refl

eight_bits : info_by (fields 1 50 8 2 1 1 1 1 (size_of 0 0 2047 2)) 0 ≡ Err Depth
eight_bits = refl

method_b : info_by (fields 1 50 10 2 1 1 1 1 (size_of 0 0 2047 2)) 0 ≡ Err Packing
method_b = refl

run_lengths : info_by (fields 1 50 10 1 1 1 1 1 (size_of 0 0 2047 2)) 0 ≡ Err Encoding
run_lengths = refl

from_below : info_by (fields 1 50 10 1 0 1 1 1 (size_of 0 0 2047 2)) 0 ≡ Err Orientation
from_below = refl

signed : info_by (fields 1 50 10 1 0 0 1 1 (size_of 0 0 2047 2)) 0 ≡ Err Sign
signed = refl

encrypted : info_by (fields 1 50 10 1 0 0 0 1 (size_of 0 0 2047 2)) 0 ≡ Err Encrypted
encrypted = refl

in_the_header : info_by (good (size_of 0 0 2047 2)) 0 ≡ Err Offset
in_the_header = refl

far_behind : info_by (good (size_of 2 2 1048577 0)) 4000000 ≡ Err Offset
far_behind = refl

half_a_word : info_by (good (size_of 0 0 2048 2)) 0 ≡ Err Padding
half_a_word = refl

long_padding : info_by (good (size_of 2 2 2048 4096)) 9000 ≡ Err Padding
long_padding = refl

no_width : info_by (good (size_of 0 2 2048 0)) 0 ≡ Err Size
no_width = refl

too_wide : info_by (good (size_of 4097 2 2048 0)) 40000 ≡ Err Size
too_wide = refl

one_byte_short : info_by (good (size_of 2 2 2048 0)) 2063 ≡ Err Short
one_byte_short = refl
