-- The words of the lines: numbers and labels are words, and say their numbers.
use Rattle.std.proofs.Common.{◌≡◌, ℕ, zero, suc, ◌+◌, ◌*◌, ◌/◌, ◌%◌, ◌<◌, ◌^◌, true, ◌&&◌, List, [], ◌∷◌, length, refl, ap, arith}
use Rattle.std.specs.Prelude.{Some, Ok, slice_index}
use Rattle.std.specs.List.{list_all}
use Rattle.std.specs.Char.{is_ascii_digit, digit_value}
use Rattle.std.proofs.lemmas.Bool.{and_parts}
use Rattle.std.proofs.lemmas.Bool.Decides.{nat_tests}
use Rattle.cf_base.specs.Digits.{digits}
use Rattle.cf_base.specs.Text.{is_name_byte}
use Rattle.cf_base.specs.Tokens.{is_solid}
use Rattle.cf_base.specs.declared.timing.Rate.TheVariants.{R24}
use Rattle.cf_base.specs.declared.timing.Mode.TheVariants.{NonDrop}
use Rattle.cf_timecode.specs.declared.Label.{Label}
use Rattle.cf_timecode.specs.Counting.{label_after, IsValid}
use Rattle.cf_timecode.specs.Spelling.{parsed, spelled}
use Rattle.cf_timecode.proofs.Laws.{counted, is_in_range-from}
use Rattle.cf_timecode.proofs.Spelled.{spells_back}
use Rattle.edl_lines.specs.Numbers.{decimal}
use Rattle.edl_events.specs.Pictures.{numbered}
use Rattle.demo.specs.Texts.{label_text}
use Rattle.demo.proofs.SpacedTokens.{IsWord}

-- some bytes that are printable and no blanks
pub record IsPlainWord (w : List ℕ) : Type 0 where
  pub some : 0 < length w
  pub plain : list_all is_name_byte w ≡ true

name_solid : (b : ℕ) → is_name_byte b ≡ true → is_solid b ≡ true
name_solid b h = grind (arith, nat_tests)

all_solid : (w : List ℕ) → list_all is_name_byte w ≡ true → list_all is_solid w ≡ true
all_solid [] h = refl
all_solid (b ∷ w) h =
    let parts = and_parts (is_name_byte b) (list_all is_name_byte w) h in
    rw (name_solid b parts.0, all_solid w parts.1) refl

pub word_of : (w : List ℕ) → IsPlainWord w → IsWord w
word_of w h = record { some = h.some; solid = all_solid w h.plain }

-- digits
digit_name : (n : ℕ) → is_name_byte (48 + n % 10) ≡ true
digit_name n = grind (arith, nat_tests)

digit_digit : (n : ℕ) → is_ascii_digit (48 + n % 10) ≡ true
digit_digit n = grind (arith, nat_tests)

digit_worth : (n : ℕ) → digit_value (48 + n % 10) ≡ n % 10
digit_worth n = grind (arith, nat_tests)

pub digits_plain : (count n : ℕ) → list_all is_name_byte (digits count n) ≡ true
digits_plain zero n = refl
digits_plain (suc count) n = rw (digit_name (n / 10 ^ count), digits_plain count n) refl

pub number_word : (n : ℕ) → IsPlainWord (digits 6 n)
number_word n = record { some = omega arith; plain = digits_plain 6 n }

pub number_first : (n : ℕ) → is_ascii_digit (slice_index (digits 6 n) 0) ≡ true
number_first n = digit_digit (n / 100000)

all_digits : (count n : ℕ) → list_all is_ascii_digit (digits count n) ≡ true
all_digits zero n = refl
all_digits (suc count) n = rw (digit_digit (n / 10 ^ count), all_digits count n) refl

six : (n a b c d e f : ℕ) → n < 1000000 → a ≡ n / 100000 % 10 → b ≡ n / 10000 % 10 → c ≡ n / 1000 % 10 → d ≡ n / 100 % 10 → e ≡ n / 10 % 10 → f ≡ n / 1 % 10
    → (((((0 * 10 + a) * 10 + b) * 10 + c) * 10 + d) * 10 + e) * 10 + f ≡ n
six n a b c d e f small ha hb hc hd he hf = omega arith

pub number_reads : (n : ℕ) → n < 1000000 → decimal 6 (digits 6 n) ≡ Some n
number_reads n small =
    rw (all_digits 6 n) (ap Some (six n _ _ _ _ _ _ small (digit_worth (n / 100000)) (digit_worth (n / 10000)) (digit_worth (n / 1000)) (digit_worth (n / 100)) (digit_worth (n / 10)) (digit_worth (n / 1))))

-- labels
two_plain : (n : ℕ) → n < 100 → (is_name_byte (48 + n / 10) && is_name_byte (48 + n % 10)) ≡ true
two_plain n small = grind (arith, nat_tests)

spelled_plain : (h m s f : ℕ) → h < 100 → m < 100 → s < 100 → f < 100 → list_all is_name_byte (spelled NonDrop (record { h = h; m = m; s = s; f = f })) ≡ true
spelled_plain h m s f hh hm hs hf =
    let a = and_parts (is_name_byte (48 + h / 10)) (is_name_byte (48 + h % 10)) (two_plain h hh) in
    let b = and_parts (is_name_byte (48 + m / 10)) (is_name_byte (48 + m % 10)) (two_plain m hm) in
    let c = and_parts (is_name_byte (48 + s / 10)) (is_name_byte (48 + s % 10)) (two_plain s hs) in
    let d = and_parts (is_name_byte (48 + f / 10)) (is_name_byte (48 + f % 10)) (two_plain f hf) in
    rw (a.0, a.1, b.0, b.1, c.0, c.1, d.0, d.1) refl

abbrev the_label : ℕ → Label
the_label n = label_after R24 NonDrop n

record IsLabel (n : ℕ) : Type 0 where
  pub hour : (the_label n).h < 24
  pub minute : (the_label n).m < 60
  pub second : (the_label n).s < 60
  pub frame : (the_label n).f < 24

is_label : (n : ℕ) → n < 2073600 → IsLabel n
is_label n small =
    let c = counted R24 NonDrop tt n in
    let k = c.is_kept in
    let m = k.minute in
    let s = k.second in
    let f = k.frame in
    let e = c.numbered in
    record { hour = omega arith; minute = m; second = s; frame = f }

pub label_word : (n : ℕ) → n < 2073600 → IsPlainWord (label_text n)
unfolding label_text
label_word n small =
    let l = is_label n small in
    let h = l.hour in
    let m = l.minute in
    let s = l.second in
    let f = l.frame in
    record { some = omega arith; plain = spelled_plain (the_label n).h (the_label n).m (the_label n).s (the_label n).f (omega arith) (omega arith) (omega arith) (omega arith) }

pub label_length : (n : ℕ) → length (label_text n) ≡ 11
unfolding label_text
label_length n = refl

pub label_reads : (n : ℕ) → n < 2073600 → numbered R24 NonDrop (parsed R24 NonDrop (label_text n)) ≡ Ok n
unfolding label_text
label_reads n small =
    let l = is_label n small in
    let valid : IsValid R24 NonDrop (the_label n) = (is_in_range-from R24 (the_label n) l.hour l.minute l.second l.frame, refl) in
    rw (spells_back R24 NonDrop (the_label n) tt valid) (ap Ok (counted R24 NonDrop tt n).numbered)
