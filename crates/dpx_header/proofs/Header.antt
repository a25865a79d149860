-- The written header's fields, in their places.
use Rattle.std.proofs.Common.{◌≡◌, ℕ, ◌-◌, ◌≤◌, List, length, slice_index, replicate, Option, None, Some, IsTrue, Contains, codes, refl, ap, ◌∙◌, arith, inl, inr}
use Rattle.std.proofs.lemmas.Bool.{cases_lt}
use Rattle.std.proofs.lemmas.List.{length-append, length-replicate, get_or-replicate, get_or_past}
use Rattle.cf_base.specs.Digits.{frame_file_name}
use Rattle.dpx_header.specs.Writing.{Field, IsOutside, Stands, u16, u32, undefined, text, file_fields, image_fields, element_fields, unused_fields, orientation_fields, industry_fields, timecode_field, header_fields, header_of, all_laid, lie_apart}
use Rattle.dpx_header.specs.declared.writing.OutHead.{OutHead}
use Rattle.dpx_header.proofs.Table.{length-all_laid, stands_all, outside_all, all_laid-append}

length-text : (size : ℕ) (bytes : List ℕ) → length bytes ≤ size → length (text size bytes) ≡ size
unfolding text
length-text size bytes fits = omega (arith, length-append bytes (replicate (size - length bytes) 0), length-replicate {A = ℕ} (size - length bytes) 0)

length-file_name : (reel frame : ℕ) → length (frame_file_name reel frame) ≡ 16
unfolding frame_file_name
length-file_name reel frame = refl

length-timecode : (timecode : Option ℕ) → length (timecode_field timecode) ≡ 4
unfolding u32 undefined
length-timecode None = refl
length-timecode (Some digits) = refl

-- no two fields share a byte
pub header_apart : (head : OutHead) → length head.title ≤ 199 → IsTrue (lie_apart 0 2048 (header_fields head))
unfolding header_fields lie_apart u16 u32 undefined
header_apart head fits =
    let name = length-file_name head.reel head.frame in
    rw (length-text 8 (codes "V1.0") (omega arith), length-text 100 (frame_file_name head.reel head.frame) (omega arith), length-text 100 (codes "CONFORM STATION") (omega arith), length-text 200 head.title (omega arith), length-timecode head.timecode)

pub length-header : (head : OutHead) → length head.title ≤ 199 → length (header_of head) ≡ 2048
unfolding header_of
length-header head fits = length-all_laid 0 2048 (header_fields head) (replicate 2048 0) (header_apart head fits) (omega (arith, length-replicate {A = ℕ} 2048 0)) ∙ length-replicate {A = ℕ} 2048 0

pub header_stands : (head : OutHead) (field : Field) → length head.title ≤ 199 → Contains (header_fields head) field → Stands (header_of head) field
unfolding header_of
header_stands head field fits has =
    stands_all 0 2048 (header_fields head) (replicate 2048 0) has.0 field (header_apart head fits) (omega (arith, length-replicate {A = ℕ} 2048 0)) has.1 has.2

zeros_read : (size at : ℕ) → slice_index (replicate size 0) at ≡ 0
zeros_read size at = elim (cases_lt at size) [
  | inl within ↦ get_or-replicate size at 0 0 within
  | inr past ↦ get_or_past (replicate size 0) at 0 (omega (arith, length-replicate {A = ℕ} size 0))
]

-- all other bytes are 0
pub header_others : (head : OutHead) (at : ℕ) → length head.title ≤ 199 → IsOutside (header_fields head) at → slice_index (header_of head) at ≡ 0
unfolding header_of
header_others head at fits outside =
    outside_all 0 2048 (header_fields head) (replicate 2048 0) at (header_apart head fits) (omega (arith, length-replicate {A = ℕ} 2048 0)) outside
    ∙ zeros_read 2048 at

sections : (head : OutHead) (zeros : List ℕ) →
    all_laid (all_laid (all_laid (all_laid (all_laid (all_laid zeros (file_fields head)) (image_fields head)) element_fields) unused_fields) orientation_fields) (industry_fields head)
    ≡ all_laid zeros (header_fields head)
unfolding header_fields
sections head zeros = rw (all_laid-append, all_laid-append, all_laid-append, all_laid-append, all_laid-append) refl

-- the sections that are laid over zeros one after another make the header
pub header_made : (head : OutHead) (zeros file image element unused orientation whole : List ℕ)
    → zeros ≡ replicate 2048 0
    → file ≡ all_laid zeros (file_fields head)
    → image ≡ all_laid file (image_fields head)
    → element ≡ all_laid image element_fields
    → unused ≡ all_laid element unused_fields
    → orientation ≡ all_laid unused orientation_fields
    → whole ≡ all_laid orientation (industry_fields head)
    → whole ≡ header_of head
unfolding header_of
header_made head zeros file image element unused orientation whole cleared e1 e2 e3 e4 e5 e6 =
    rw (e6, e5, e4, e3, e2, e1) (sections head zeros) ∙ ap (λ bytes. all_laid bytes (header_fields head)) cleared
