-- Lines of pixels, one more at a time.
use Rattle.std.proofs.Common.{◌≡◌, ℕ, zero, suc, ◌+◌, ◌-◌, ◌*◌, ◌<◌, ◌≤◌, Bool, List, [], ◌∷◌, ◌++◌, length, take, get_or, slice_index, refl, ap, ◌∙◌, arith, add-one, append-nil, inl, inr}
use Rattle.std.proofs.lemmas.List.Concat.{flat_map-append}
use Rattle.std.proofs.Math.Nat.{mul-le-mul_right}
use Rattle.std.proofs.lemmas.Bool.{cases_lt}
use Rattle.std.proofs.lemmas.List.{length-append, get_or_append_left, get_or-append_right}
use Rattle.std.proofs.lemmas.List.FromFn.{fill_by_all, get_or-map-range_with_len, length-map-range_with_len}
use Rattle.std.proofs.lemmas.Slice.{take-put_mid}
use borrow.Rule.Slice.PartMut.{put_mid}
use Rattle.std.specs.List.{flat_map, range_with_len}
use Rattle.cf_base.proofs.RangeLaws.{range_more}
use Rattle.dpx_header.specs.declared.info.FrameInfo.{FrameInfo}
use Rattle.dpx_header.specs.Frame.{stride}
use Rattle.dpx_pack.specs.Pixels.{HasPixels, line, lines, number_in, word_at}

-- words that stand in their places make a line
pub line_of_words : (number : ℕ → List ℕ → ℕ) (start : ℕ) (bytes words : List ℕ)
    → ((x : ℕ) → x < length words → get_or words x 0 ≡ word_at number bytes (start + 4 * x))
    → words ≡ line number start (length words) bytes
unfolding line
line_of_words number start bytes words places =
    fill_by_all (λ x. word_at number bytes (start + 4 * x)) words (length words) 0 refl places

pub lines_more : (number : ℕ → List ℕ → ℕ) (info : FrameInfo) (count : ℕ) (bytes : List ℕ)
    → lines number info (count + 1) bytes ≡ lines number info count bytes ++ line number (info.start + count * stride info) info.width bytes
unfolding lines
lines_more number info count bytes =
    ap (flat_map (λ y. line number (info.start + y * stride info) info.width bytes)) (range_more count)
    ∙ flat_map-append _ (range_with_len 0 count) (count ∷ [])
    ∙ ap (λ r. lines number info count bytes ++ r) (append-nil _)

-- no lines at the start
pub lines_none : (number : ℕ → List ℕ → ℕ) (info : FrameInfo) (bytes out : List ℕ) → take (0 * info.width) out ≡ lines number info 0 bytes
unfolding lines
lines_none number info bytes out =
    let none : 0 * info.width ≡ 0 = omega arith in
    rw none refl

-- one line more, when it has been written behind those before it
pub line_written : (number : ℕ → List ℕ → ℕ) (info : FrameInfo) (y n : ℕ) (bytes out new : List ℕ)
    → take (y * info.width) out ≡ lines number info y bytes
    → new ≡ line number (info.start + y * stride info) n bytes
    → n ≡ info.width
    → length new ≡ info.width
    → y * info.width + info.width ≤ length out
    → take ((y + 1) * info.width) (put_mid (y * info.width) ((y + 1) * info.width - y * info.width) out new) ≡ lines number info (y + 1) bytes
line_written number info y n bytes out new before made wide len room =
    take-put_mid (y * info.width) _ out new ((y + 1) * info.width) (omega (arith, len)) (omega arith)
    ∙ rw (lines_more, before, made, wide) refl

-- The place of a pixel in the words of a file.
length-line : (number : ℕ → List ℕ → ℕ) (start width : ℕ) (bytes : List ℕ) → length (line number start width bytes) ≡ width
unfolding line
length-line number start width bytes = length-map-range_with_len (λ x. word_at number bytes (start + 4 * x)) 0 width

length-no_lines : (number : ℕ → List ℕ → ℕ) (info : FrameInfo) (bytes : List ℕ) → length (lines number info 0 bytes) ≡ 0 * info.width
unfolding lines
length-no_lines number info bytes = omega arith

length-lines : (number : ℕ → List ℕ → ℕ) (info : FrameInfo) (count : ℕ) (bytes : List ℕ) → length (lines number info count bytes) ≡ count * info.width
length-lines number info zero bytes = length-no_lines number info bytes
length-lines number info (suc count) bytes =
    let before = length-lines number info count bytes in
    let last = length-line number (info.start + count * stride info) info.width bytes in
    let both = length-append (lines number info count bytes) (line number (info.start + count * stride info) info.width bytes) in
    rw (← add-one, lines_more) (omega (arith, before, last, both))

word_in_line : (number : ℕ → List ℕ → ℕ) (start width x : ℕ) (bytes : List ℕ) → x < width
    → slice_index (line number start width bytes) x ≡ word_at number bytes (start + 4 * x)
unfolding line
word_in_line number start width x bytes within =
    get_or-map-range_with_len (λ k. word_at number bytes (start + 4 * k)) 0 width x x 0 within (omega arith)

-- the pixel in column x of line y
word_in_lines : (number : ℕ → List ℕ → ℕ) (info : FrameInfo) (count : ℕ) (bytes : List ℕ) (x y : ℕ) → x < info.width → y < count
    → slice_index (lines number info count bytes) (y * info.width + x) ≡ word_at number bytes (info.start + y * stride info + 4 * x)
word_in_lines number info zero bytes x y wide high = absurd (omega arith)
word_in_lines number info (suc count) bytes x y wide high =
    let last : List ℕ = line number (info.start + count * stride info) info.width bytes in
    let more : lines number info (suc count) bytes ≡ lines number info count bytes ++ last = rw (← add-one) (lines_more number info count bytes) in
    let size = length-lines number info count bytes in
    ap (λ l. slice_index l (y * info.width + x)) more
    ∙ elim (cases_lt y count) [
      | inl before ↦
          let rows : (y + 1) * info.width ≤ count * info.width = mul-le-mul_right info.width (omega arith) in
          get_or_append_left (lines number info count bytes) last 0 (y * info.width + x) (omega arith)
          ∙ word_in_lines number info count bytes x y wide before
      | inr behind ↦
          let same : y ≡ count = omega arith in
          let rest : y * info.width + x - y * info.width ≡ x = omega arith in
          get_or-append_right (lines number info count bytes) last (y * info.width) (y * info.width + x) 0 (rw same size) (omega arith)
          ∙ ap (slice_index last) rest
          ∙ rw (← same) (word_in_line number (info.start + y * stride info) info.width x bytes wide)
    ]

pub has_pixels : (info : FrameInfo) (little : Bool) (bytes words : List ℕ) → info.little ≡ little
    → words ≡ lines (number_in little) info info.height bytes → HasPixels info bytes words
has_pixels info little bytes words same is =
    λ x y wide high. rw same (ap (λ w. slice_index w (y * info.width + x)) is ∙ word_in_lines (number_in little) info info.height bytes x y wide high)
