-- A header as it is read (SMPTE 268M, file information and image information headers).
-- `number size bytes` is the number in the first `size` bytes, in the byte order of the file.
-- * picture information of a header: the fields by offset and size in the file's byte order, and the first of the thirteen cases
--   that holds
use Rattle.std.specs.Prelude.{ℕ, ◌%◌, Bool, true, false, not, ◌==◌, ◌||◌, nat_lt, if◌then◌else◌, List, [], ◌∷◌, drop, slice_index, Result, Ok, Err}
use Rattle.cf_base.specs.declared.limits.TheConstants.{HEADER, LARGEST}
use Rattle.byteorder.specs.Endian.{big_number, little_number}
use Rattle.dpx_header.specs.Frame.{need_of}
use Rattle.dpx_header.specs.declared.info.FrameInfo.{FrameInfo}
use Rattle.dpx_header.specs.declared.fault.DpxFault.{DpxFault}
use Rattle.dpx_header.specs.declared.fault.DpxFault.TheVariants.{Magic, Elements, Descriptor, Depth, Packing, Encoding, Orientation, Sign, Encrypted, Offset, Padding, Size, Short}

-- the fields of a header that decide whether it is read
pub record HeaderFields : Type 0 where
  pub elements : ℕ
  pub descriptor : ℕ
  pub depth : ℕ
  pub packing : ℕ
  pub encoding : ℕ
  pub orientation : ℕ
  pub sign : ℕ
  pub encryption : ℕ
  pub info : FrameInfo

-- the number of `size` bytes at an offset
abbrev pub number_at : (ℕ → List ℕ → ℕ) → ℕ → ℕ → List ℕ → ℕ
number_at number size offset head = number size (drop offset head)

-- a field of which all bits are one is undefined: these fields may be so, or 0
abbrev pub is_unset16 : ℕ → Bool
is_unset16 n = n == 0 || n == 0xFFFF

abbrev pub is_unset32 : ℕ → Bool
is_unset32 n = n == 0 || n == 0xFFFF_FFFF

-- the data offset of the element, or where it is unset, the offset of the image data
abbrev pub data_offset : (ℕ → List ℕ → ℕ) → List ℕ → ℕ
data_offset number head =
    if is_unset32 (number_at number 4 808 head) then number_at number 4 4 head else number_at number 4 808 head

-- the end-of-line padding, 0 where it is undefined
abbrev pub line_padding : (ℕ → List ℕ → ℕ) → List ℕ → ℕ
line_padding number head =
    if number_at number 4 812 head == 0xFFFF_FFFF then 0 else number_at number 4 812 head

-- the fields by their sizes and offsets
abbrev pub fields_of : (ℕ → List ℕ → ℕ) → Bool → List ℕ → HeaderFields
fields_of number little head = record {
  elements = number_at number 2 770 head;
  descriptor = slice_index head 800;
  depth = slice_index head 803;
  packing = number_at number 2 804 head;
  encoding = number_at number 2 806 head;
  orientation = number_at number 2 768 head;
  sign = number_at number 4 780 head;
  encryption = number_at number 4 660 head;
  info = record {
    little = little;
    width = number_at number 4 772 head;
    height = number_at number 4 776 head;
    start = data_offset number head;
    pad = line_padding number head;
  };
}

-- a side that this program doesn't take
abbrev pub is_bad_side : ℕ → Bool
is_bad_side pixels = pixels == 0 || nat_lt LARGEST pixels

-- the faults of a file of `len` bytes, each with the case in which it stands
abbrev pub faults : HeaderFields → ℕ → List (Bool × DpxFault)
faults f len =
    (not (f.elements == 1), Elements)
    ∷ (not (f.descriptor == 50), Descriptor)
    ∷ (not (f.depth == 10), Depth)
    ∷ (not (f.packing == 1), Packing)
    ∷ (not (is_unset16 f.encoding), Encoding)
    ∷ (not (is_unset16 f.orientation), Orientation)
    ∷ (not (is_unset32 f.sign), Sign)
    ∷ (not (is_unset32 f.encryption), Encrypted)
    ∷ (nat_lt f.info.start HEADER || nat_lt 1048576 f.info.start, Offset)
    ∷ (nat_lt 4092 f.info.pad || not (f.info.pad % 4 == 0), Padding)
    ∷ (is_bad_side f.info.width || is_bad_side f.info.height, Size)
    ∷ (nat_lt len (need_of f.info), Short)
    ∷ []

-- the first fault whose case holds, and else the value
abbrev pub first_fault : {A : Type 0} → List (Bool × DpxFault) → A → Result A DpxFault
first_fault [] value = Ok value
first_fault (fault ∷ others) value = if fault.0 then Err fault.1 else first_fault others value

-- what the fields say of the pixels, or the first fault
abbrev pub info_by : HeaderFields → ℕ → Result FrameInfo DpxFault
info_by f len = first_fault (faults f len) f.info

-- What a file says of its pixels, or its first fault: `head` is its first 2048 bytes, with zeros where it is
-- shorter, and `len` is its length. The magic number is `SDPX`, and its bytes stand in the order of the file.
abbrev pub info_of : List ℕ → ℕ → Result FrameInfo DpxFault
info_of head len =
    if big_number 4 head == 0x5344_5058 then info_by (fields_of big_number false head) len
    else if little_number 4 head == 0x5344_5058 then info_by (fields_of little_number true head) len
    else Err Magic
