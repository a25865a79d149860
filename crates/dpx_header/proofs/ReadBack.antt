-- A header that was written, read again.
use Rattle.std.proofs.Common.{◌≡◌, ℕ, zero, suc, ◌+◌, ◌-◌, ◌*◌, ◌^◌, ◌<◌, ◌≤◌, Bool, true, false, ◌||◌, ◌==◌, nat_lt, if◌then◌else◌, List, [], ◌∷◌, length, take, drop, get_or, slice_index, Ok, Err, refl, sym, ap, subst, ◌∙◌, arith}
use Rattle.std.proofs.lemmas.Bool.{le-ltb}
use Rattle.std.proofs.lemmas.Bool.Decides.{nat_tests}
use Rattle.std.proofs.lemmas.List.Elements.{Contains-get_or}
use Rattle.std.proofs.lemmas.List.{append-nil, get_or-take, get_or-drop}
use Rattle.std.proofs.Math.Nat.{mul-suc, mul_comm}
use Rattle.byteorder.specs.Endian.{big_number, big_bytes, big_from, little_number}
use Rattle.byteorder.specs.Numbers.{big_from-take, length-bytes_high_first, big_number-reads_back}
use Rattle.dpx_header.specs.Frame.{need_of}
use Rattle.dpx_header.specs.Reading.{HeaderFields, is_unset32, fields_of, is_bad_side, info_by, info_of}
use Rattle.dpx_header.specs.Writing.{IsOutHead, Stands, u16, u32, undefined, header_fields, header_of, written_info}
use Rattle.dpx_header.specs.declared.writing.OutHead.{OutHead}
use Rattle.dpx_header.specs.declared.fault.DpxFault.{DpxFault}
use Rattle.dpx_header.specs.declared.fault.DpxFault.TheVariants.{Magic, Size, Short}
use Rattle.dpx_header.proofs.Choice.{choose_first}
use Rattle.dpx_header.proofs.Header.{header_stands}

-- a number is read where its bytes stand
number_stands : (size n offset : ℕ) (bytes : List ℕ) → n < 256 ^ size → Stands bytes (offset, big_bytes size n) → big_number size (drop offset bytes) ≡ n
number_stands size n offset bytes fits stands =
    let long = length-bytes_high_first size n in
    sym (big_from-take 0 size size (drop offset bytes) (omega arith))
    ∙ ap (big_from 0 size) (ap (λ k. take k (drop offset bytes)) (sym long) ∙ stands)
    ∙ ap (big_from 0 size) (sym (append-nil (big_bytes size n)))
    ∙ big_number-reads_back size n [] fits

byte_stands : (byte offset : ℕ) (bytes : List ℕ) → take 1 (drop offset bytes) ≡ byte ∷ [] → slice_index bytes offset ≡ byte
byte_stands byte offset bytes stands =
    let at : offset ≡ offset + 0 = omega arith in
    ap (λ k. get_or bytes k 0) at
    ∙ sym (get_or-drop offset bytes 0 0)
    ∙ sym (get_or-take 1 (drop offset bytes) 0 0 (omega arith))
    ∙ ap (λ l. get_or l 0 0) stands

-- the field at a place of the table stands in the header
nth_stands : (head : OutHead) (k : ℕ) → length head.title ≤ 199 → k < 46 → Stands (header_of head) (get_or (header_fields head) k (0, []))
unfolding header_fields
nth_stands head k fits lt = header_stands head (get_or (header_fields head) k (0, [])) fits (Contains-get_or (header_fields head) k (0, []) lt)

-- the fields that are read from a written header
abbrev written_fields : OutHead → HeaderFields
written_fields head = record {
  elements = 1;
  descriptor = 50;
  depth = 10;
  packing = 1;
  encoding = 0;
  orientation = 0;
  sign = 0;
  encryption = 0xFFFF_FFFF;
  info = written_info head;
}

set_offset : (n other : ℕ) → n ≡ 2048 → (if is_unset32 n then other else n) ≡ 2048
set_offset n other is = subst (λ m. (if is_unset32 m then other else m) ≡ 2048) (sym is) refl

no_padding : (n : ℕ) → n ≡ 0 → (if n == 0xFFFF_FFFF then 0 else n) ≡ 0
no_padding n is = subst (λ m. (if m == 0xFFFF_FFFF then 0 else m) ≡ 0) (sym is) refl

fields_back : (head : OutHead) → IsOutHead head → length head.title ≤ 199 → fields_of big_number false (header_of head) ≡ written_fields head
unfolding header_fields u16 u32 undefined
fields_back head is fits i = record {
  elements = number_stands 2 1 770 (header_of head) (omega arith) (nth_stands head 13 fits (omega arith)) i;
  descriptor = byte_stands 50 800 (header_of head) (nth_stands head 21 fits (omega arith)) i;
  depth = byte_stands 10 803 (header_of head) (nth_stands head 24 fits (omega arith)) i;
  packing = number_stands 2 1 804 (header_of head) (omega arith) (nth_stands head 25 fits (omega arith)) i;
  encoding = number_stands 2 0 806 (header_of head) (omega arith) (nth_stands head 26 fits (omega arith)) i;
  orientation = number_stands 2 0 768 (header_of head) (omega arith) (nth_stands head 12 fits (omega arith)) i;
  sign = number_stands 4 0 780 (header_of head) (omega arith) (nth_stands head 16 fits (omega arith)) i;
  encryption = number_stands 4 0xFFFF_FFFF 660 (header_of head) (omega arith) (nth_stands head 11 fits (omega arith)) i;
  info = record {
    little = false;
    width = number_stands 4 head.width 772 (header_of head) (omega (arith, is.most_width)) (nth_stands head 14 fits (omega arith)) i;
    height = number_stands 4 head.height 776 (header_of head) (omega (arith, is.most_height)) (nth_stands head 15 fits (omega arith)) i;
    start = set_offset (big_number 4 (drop 808 (header_of head))) (big_number 4 (drop 4 (header_of head))) (number_stands 4 2048 808 (header_of head) (omega arith) (nth_stands head 27 fits (omega arith))) i;
    pad = no_padding (big_number 4 (drop 812 (header_of head))) (number_stands 4 0 812 (header_of head) (omega arith) (nth_stands head 28 fits (omega arith))) i;
  };
}

magic_back : (head : OutHead) → length head.title ≤ 199 → big_number 4 (header_of head) ≡ 0x5344_5058
unfolding header_fields
magic_back head fits = number_stands 4 0x5344_5058 0 (header_of head) (omega arith) (nth_stands head 0 fits (omega arith))

good_side : (pixels : ℕ) → 1 ≤ pixels → pixels ≤ 4096 → is_bad_side pixels ≡ false
good_side pixels some most = grind (arith, nat_tests)

-- the whole of a file without padding
need_exact : (width height : ℕ) → 1 ≤ height → 2048 + (height - 1) * (4 * width + 0) + 4 * width ≡ 2048 + 4 * width * height
need_exact width zero some = absurd (omega arith)
need_exact width (suc rows) some =
    let less : suc rows - 1 ≡ rows = omega arith in
    let plain : 4 * width + 0 ≡ 4 * width = omega arith in
    rw (less, plain) (omega (arith, mul-suc (4 * width) rows, mul_comm (4 * width) rows))

no_fault : {A : Type 0} (a b c : Bool) (e f : DpxFault) (value : A) → a ≡ false → b ≡ false → c ≡ false
    → (if a || b then Err e else if c then Err f else Ok value) ≡ Ok value
no_fault a b c e f value ha hb hc = rw (ha, hb, hc) refl

-- what was written is read with the same size, and without a fault where the file is whole
pub header_reads_back : (head : OutHead) (len : ℕ) → IsOutHead head → length head.title ≤ 199 → 2048 + 4 * head.width * head.height ≤ len
    → info_of (header_of head) len ≡ Ok (written_info head)
header_reads_back head len is fits whole =
    let need = need_exact head.width head.height is.some_height in
    choose_first (big_number 4 (header_of head)) (big_number 4 (header_of head)) (little_number 4 (header_of head)) 0x5344_5058
    (info_by (fields_of big_number false (header_of head)) len) (info_by (fields_of little_number true (header_of head)) len) (Err Magic)
    refl (magic_back head fits)
    ∙ ap (λ f. info_by f len) (fields_back head is fits)
    ∙ no_fault (is_bad_side head.width) (is_bad_side head.height) (nat_lt len (need_of (written_info head))) Size Short (written_info head)
    (good_side head.width is.some_width is.most_width) (good_side head.height is.some_height is.most_height)
    (le-ltb len (need_of (written_info head)) (omega arith))
