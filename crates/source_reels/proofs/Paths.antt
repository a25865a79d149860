-- The path of a frame is a path.
use Rattle.std.proofs.Common.{◌≡◌, ℕ, zero, suc, ◌+◌, ◌/◌, ◌%◌, ◌^◌, ◌≤◌, true, List, ◌++◌, length, codes, refl, arith, length-append, ap, ◌∙◌, Option}
use Rattle.std.specs.Prelude.{Some}
use Rattle.std.specs.List.{list_all}
use Rattle.std.proofs.lemmas.Bool.Decides.{nat_tests}
use Rattle.std.proofs.lemmas.List.Folds.{list_all-append}
use Rattle.cf_base.specs.Digits.{digits}
use Rattle.cf_base.specs.Text.{IsPathText, is_printable, path_text_of}
use Rattle.cf_base.specs.declared.reel.ReelEntry.{ReelEntry}
use Rattle.cf_base.proofs.TextParts.{path_size, path_whole, path_prints}
use Rattle.source_reels.specs.Reels.{path_text}

digit_prints : (n : ℕ) → is_printable (48 + n % 10) ≡ true
digit_prints n = grind (arith, nat_tests)

digits_print : (count n : ℕ) → list_all is_printable (digits count n) ≡ true
digits_print zero n = refl
digits_print (suc count) n = rw (digit_prints (n / 10 ^ count), digits_print count n) refl

digits_long : (count n : ℕ) → length (digits count n) ≡ count
digits_long zero n = refl
digits_long (suc count) n = omega (arith, digits_long count n)

-- a prefix and eleven printable bytes
like_path : (prefix number : List ℕ) → IsPathText prefix → length prefix ≤ 200 → length number ≡ 11 → list_all is_printable number ≡ true → IsPathText (prefix ++ number)
like_path prefix number is short long prints =
    let size = path_size prefix is in
    let all : length (prefix ++ number) ≡ length prefix + 11 = rw (length-append, long) refl in
    path_whole (prefix ++ number) (omega (arith, all, size.0)) (omega (arith, all, short)) (list_all-append is_printable prefix number ∙ rw (path_prints prefix is, prints) refl)

path_is : (e : ReelEntry) (k : ℕ) → IsPathText e.prefix → length e.prefix ≤ 200 → IsPathText (path_text e k)
unfolding path_text
path_is e k is short = like_path e.prefix (digits 7 (e.file + k) ++ codes ".dpx") is short refl (list_all-append is_printable (digits 7 (e.file + k)) (codes ".dpx") ∙ rw (digits_print 7 (e.file + k)) refl)

whole : (e : ReelEntry) (k : ℕ) → e.prefix ++ (digits 7 (e.file + k) ++ codes ".dpx") ≡ path_text e k
unfolding path_text
whole e k = refl

-- what `PathText::of` answers at these bytes
pub path_made : (e : ReelEntry) (k : ℕ) (r : Option (List ℕ)) (bytes prefix number : List ℕ) → IsPathText e.prefix → length e.prefix ≤ 200
    → r ≡ path_text_of bytes → bytes ≡ prefix ++ number → prefix ≡ e.prefix → number ≡ digits 7 (e.file + k) ++ codes ".dpx" → r ≡ Some (path_text e k)
path_made e k r bytes prefix number is short made joined same digits_are =
    let text : bytes ≡ path_text e k = joined ∙ rw (same, digits_are) (whole e k) in
    made ∙ ap path_text_of text ∙ rw (path_is e k is short) refl
