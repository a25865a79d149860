-- A header as it is written (SMPTE 268M): 2048 bytes, all 00 but for a table of fields. Numbers are big-endian. Which
-- fields are written, and what they say, is this project's own rule.
-- * written header [ReadBack]: a table of fields, each an offset and its bytes, laid over 2048 zeros. Laws: each field stands at
--   its offset, none reaches into another, all other bytes are 00, and what is written is read back
use Rattle.std.specs.Prelude.{◌≡◌, ◌⊎◌, ℕ, ◌+◌, ◌-◌, ◌*◌, ◌<◌, ◌≤◌, ◌&&◌, nat_le, Bool, false, List, [], ◌∷◌, ◌++◌, All, length, take, drop, replicate, Option, None, Some, codes}
use Rattle.std.specs.List.{splice}
use Rattle.cf_base.specs.declared.limits.TheConstants.{HEADER, LARGEST}
use Rattle.byteorder.specs.Endian.{big_bytes}
use Rattle.cf_base.specs.Digits.{frame_file_name}
use Rattle.dpx_header.specs.declared.info.FrameInfo.{FrameInfo}
use Rattle.dpx_header.specs.declared.writing.OutHead.{OutHead}

-- what can be written
pub record IsOutHead (head : OutHead) : Type 0 where
  pub some_width : 1 ≤ head.width
  pub most_width : head.width ≤ LARGEST
  pub some_height : 1 ≤ head.height
  pub most_height : head.height ≤ LARGEST
  pub most_reel : head.reel ≤ 999
  pub most_frame : head.frame ≤ 9999999

-- a field: its offset and its bytes
abbrev pub Field : Type 0
Field = ℕ × List ℕ

-- numbers of 16 and 32 bits, fields of which all bits are one, and texts with zeros up to the field's size
unfoldable pub u16 : ℕ → List ℕ
u16 n = big_bytes 2 n

unfoldable pub u32 : ℕ → List ℕ
u32 n = big_bytes 4 n

unfoldable pub undefined : ℕ → List ℕ
undefined size = replicate size 255

unfoldable pub text : ℕ → List ℕ → List ℕ
text size bytes = bytes ++ replicate (size - length bytes) 0

-- file information header
abbrev pub file_fields : OutHead → List Field
file_fields head =
    (0, codes "SDPX")
    ∷ (4, u32 HEADER)
    ∷ (8, text 8 (codes "V1.0"))
    ∷ (16, u32 (HEADER + 4 * head.width * head.height))
    ∷ (20, u32 1)
    ∷ (24, u32 1664)
    ∷ (28, u32 384)
    ∷ (32, u32 0)
    ∷ (36, text 100 (frame_file_name head.reel head.frame))
    ∷ (160, text 100 (codes "CONFORM STATION"))
    ∷ (260, text 200 head.title)
    ∷ (660, undefined 4)
    ∷ []

-- image information header: the image, and its one element
abbrev pub image_fields : OutHead → List Field
image_fields head =
    (768, u16 0)
    ∷ (770, u16 1)
    ∷ (772, u32 head.width)
    ∷ (776, u32 head.height)
    ∷ []

abbrev pub element_fields : List Field
element_fields =
    (780, u32 0)
    ∷ (784, u32 0)
    ∷ (788, undefined 4)
    ∷ (792, u32 1023)
    ∷ (796, undefined 4)
    ∷ (800, 50 ∷ [])
    ∷ (801, 1 ∷ [])
    ∷ (802, 1 ∷ [])
    ∷ (803, 10 ∷ [])
    ∷ (804, u16 1)
    ∷ (806, u16 0)
    ∷ (808, u32 HEADER)
    ∷ (812, u32 0)
    ∷ (816, u32 0)
    ∷ []

-- the number fields of the seven elements that aren't used
abbrev pub unused_fields : List Field
unused_fields =
    (852, undefined 40)
    ∷ (924, undefined 40)
    ∷ (996, undefined 40)
    ∷ (1068, undefined 40)
    ∷ (1140, undefined 40)
    ∷ (1212, undefined 40)
    ∷ (1284, undefined 40)
    ∷ []

-- image orientation header
abbrev pub orientation_fields : List Field
orientation_fields = (1408, undefined 24) ∷ (1620, undefined 16) ∷ []

-- the timecode's digits, or undefined
abbrev pub timecode_field : Option ℕ → List ℕ
timecode_field None = undefined 4
timecode_field (Some digits) = u32 digits

-- motion picture film and television headers
abbrev pub industry_fields : OutHead → List Field
industry_fields head =
    (1712, u32 head.position)
    ∷ (1716, u32 head.length)
    ∷ (1720, undefined 12)
    ∷ (1920, timecode_field head.timecode)
    ∷ (1924, undefined 4)
    ∷ (1928, undefined 3)
    ∷ (1932, undefined 40)
    ∷ []

-- all fields, in the order of their offsets
unfoldable pub header_fields : OutHead → List Field
header_fields head =
    file_fields head ++ image_fields head ++ element_fields ++ unused_fields ++ orientation_fields ++ industry_fields head

-- the bytes with a field's in their place
unfoldable pub laid : List ℕ → Field → List ℕ
laid bytes field = splice bytes field.0 (field.0 + length field.1) field.1

-- the bytes with those of several fields in their places
unfoldable pub all_laid : List ℕ → List Field → List ℕ
all_laid bytes [] = bytes
all_laid bytes (field ∷ fields) = all_laid (laid bytes field) fields

-- the header
unfoldable pub header_of : OutHead → List ℕ
header_of head = all_laid (replicate HEADER 0) (header_fields head)

-- the field's bytes stand at its offset
abbrev pub Stands : List ℕ → Field → Type 0
Stands bytes field = take (length field.1) (drop field.0 bytes) ≡ field.1

-- the fields come one after another between two places: none reaches into the next one
unfoldable pub lie_apart : ℕ → ℕ → List Field → Bool
lie_apart start end [] = nat_le start end
lie_apart start end (field ∷ fields) = nat_le start field.0 && lie_apart (field.0 + length field.1) end fields

-- a place that is in none of the fields
abbrev pub IsOutside : List Field → ℕ → Type 0
IsOutside fields at = All (λ field. (at < field.0) ⊎ (field.0 + length field.1 ≤ at)) fields

-- what the header says of the pixels behind it
abbrev pub written_info : OutHead → FrameInfo
written_info head = record {
  little = false;
  width = head.width;
  height = head.height;
  start = HEADER;
  pad = 0;
}
