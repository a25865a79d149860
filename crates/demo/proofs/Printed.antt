-- The path of a source frame is a path.
use Rattle.std.proofs.Common.{◌≡◌, ℕ, zero, suc, ◌+◌, ◌/◌, ◌%◌, ◌^◌, true, List, ◌++◌, codes, refl, sym, ◌∙◌, ap, arith}
use Rattle.std.specs.Prelude.{Option, Some, None}
use Rattle.std.specs.List.{list_all}
use Rattle.std.proofs.lemmas.Bool.Decides.{nat_tests}
use Rattle.std.proofs.lemmas.List.Folds.{list_all-append}
use Rattle.cf_base.specs.Digits.{digits}
use Rattle.cf_base.specs.Text.{IsPathText, is_printable, path_text_of}
use Rattle.cf_base.proofs.TextParts.{path_whole}
use Rattle.demo.specs.Files.{source_path}
use Rattle.demo.specs.Texts.{prefix}

digit_prints : (n : ℕ) → is_printable (48 + n % 10) ≡ true
digit_prints n = grind (arith, nat_tests)

digits_print : (count n : ℕ) → list_all is_printable (digits count n) ≡ true
digits_print zero n = refl
digits_print (suc count) n = rw (digit_prints (n / 10 ^ count), digits_print count n) refl

path_prints : (reel frame : ℕ) → list_all is_printable (prefix reel ++ digits 7 frame ++ codes ".dpx") ≡ true
path_prints reel frame =
    list_all-append is_printable (prefix reel ++ digits 7 frame) (codes ".dpx")
    ∙ rw (list_all-append is_printable (prefix reel) (digits 7 frame), digits_print 7 frame, digit_prints (reel / 10 ^ 0)) refl

path_is : (reel frame : ℕ) → IsPathText (source_path reel frame)
unfolding source_path
path_is reel frame = path_whole (prefix reel ++ digits 7 frame ++ codes ".dpx") (omega arith) (omega arith) (path_prints reel frame)

pub path_made : (reel frame : ℕ) (made : Option (List ℕ)) (bytes path : List ℕ) → bytes ≡ source_path reel frame → made ≡ path_text_of bytes → made ≡ Some path → path ≡ source_path reel frame
path_made reel frame made bytes path is of there =
    let taken : path_text_of (source_path reel frame) ≡ Some (source_path reel frame) = rw (path_is reel frame) refl in
    let same : Some path ≡ Some (source_path reel frame) = sym there ∙ of ∙ ap path_text_of is ∙ taken in
    cc

pub path_there : (reel frame : ℕ) (made : Option (List ℕ)) (bytes : List ℕ) → bytes ≡ source_path reel frame → made ≡ path_text_of bytes → made ≡ None → ⊥
path_there reel frame made bytes is of none =
    let taken : path_text_of (source_path reel frame) ≡ Some (source_path reel frame) = rw (path_is reel frame) refl in
    let same : made ≡ Some (source_path reel frame) = of ∙ ap path_text_of is ∙ taken in
    cc
