-- The header of a source frame is read.
use Rattle.std.proofs.Common.{◌≡◌, ℕ, zero, suc, ◌+◌, ◌-◌, ◌*◌, ◌<◌, ◌≤◌, List, [], ◌∷◌, ◌++◌, length, refl, ap, ◌∙◌, arith, length-append, append-nil}
use Rattle.std.specs.Prelude.{Ok}
use Rattle.std.specs.List.{flat_map, range_with_len}
use Rattle.std.proofs.Math.Seq.{take-append_seam}
use Rattle.byteorder.specs.Endian.{big_bytes}
use Rattle.dpx_header.specs.Reading.{info_of}
use Rattle.dpx_header.specs.Writing.{IsOutHead, header_of, written_info}
use Rattle.dpx_header.proofs.Header.{length-header}
use Rattle.dpx_header.proofs.ReadBack.{header_reads_back}
use Rattle.scan_source.specs.Answers.{first_bytes}
use Rattle.source_reels.specs.Seen.{info_of_file}
use Rattle.demo.specs.Pictures.{source_head, source_file, picture, source_line, line_words}

four_each : (ns : List ℕ) → length (flat_map (big_bytes 4) ns) ≡ 4 * length ns
four_each [] = refl
four_each (n ∷ ns) = omega (arith, length-append (big_bytes 4 n) (flat_map (big_bytes 4) ns), four_each ns)

line_length : (r m y : ℕ) → length (source_line r m y) ≡ 128
unfolding line_words
line_length r m y = four_each (line_words r m y) ∙ refl

lines_length : (r m a n : ℕ) → length (flat_map (source_line r m) (range_with_len a n)) ≡ 128 * n
lines_length r m a zero = refl
lines_length r m a (suc n) = omega (arith, length-append (source_line r m a) (flat_map (source_line r m) (range_with_len (a + 1) n)), line_length r m a, lines_length r m (a + 1) n)

picture_length : (r m : ℕ) → length (picture r m) ≡ 2304
unfolding picture
picture_length r m = lines_length r m 0 18

is_head : (r m : ℕ) → r < 4 → m < 100000 → IsOutHead (source_head r m)
is_head r m reel small = record { some_width = omega arith; most_width = omega arith; some_height = omega arith; most_height = omega arith; most_reel = omega arith; most_frame = omega arith }

head_first : (head rest : List ℕ) → length head ≡ 2048 → first_bytes 2048 (head ++ rest) ≡ head
unfolding first_bytes
head_first head rest size =
    let none : 2048 - length (head ++ rest) ≡ 0 = omega (arith, length-append head rest) in
    rw (none, ← size, take-append_seam head rest) (append-nil head)

pub head_reads : (r m : ℕ) → r < 4 → m < 100000 → info_of_file (source_file r m) ≡ Ok (written_info (source_head r m))
unfolding source_file
head_reads r m reel small =
    let head = source_head r m in
    let fits : length head.title ≤ 199 = omega arith in
    let size = length-header head fits in
    let whole : length (header_of head ++ picture r m) ≡ 4352 = omega (arith, length-append (header_of head) (picture r m), picture_length r m) in
    ap (λ (l : List ℕ). info_of l (length (header_of head ++ picture r m))) (head_first (header_of head) (picture r m) size)
    ∙ header_reads_back head (length (header_of head ++ picture r m)) (is_head r m reel small) fits (omega arith)
