-- A label's text is parsed again.
use Rattle.std.proofs.Common.{◌≡◌, ℕ, ◌+◌, ◌-◌, ◌*◌, ◌/◌, ◌%◌, ◌<◌, ◌≤◌, true, false, ◌&&◌, List, refl, ap, ◌∙◌, arith, Result}
use Rattle.std.specs.Prelude.{Ok}
use Rattle.std.specs.Char.{is_ascii_digit}
use Rattle.std.proofs.lemmas.Bool.Decides.{nat_tests}
use Rattle.cf_base.specs.declared.timing.Rate.{Rate}
use Rattle.cf_base.specs.declared.timing.Mode.{Mode}
use Rattle.cf_base.specs.declared.timing.Mode.TheVariants.{NonDrop, Drop}
use Rattle.cf_base.specs.Timing.{base_of}
use Rattle.cf_timecode.specs.declared.Label.{Label}
use Rattle.cf_timecode.specs.declared.TcFault.{TcFault}
use Rattle.cf_timecode.specs.Counting.{IsValid, is_in_range, is_passed_over}
use Rattle.cf_timecode.specs.Spelling.{parsed, spelled, has_shape, label_in, has_semicolon, is_non_drop, SpellsBack}
use Rattle.cf_timecode.proofs.Laws.{is_in_range-true, same_label}
use Rattle.cf_base.specs.declared.timing.Rate.TheVariants.{R24, R25, R30}

two_are_digits : (n : ℕ) → n < 100 → (is_ascii_digit (48 + n / 10) && is_ascii_digit (48 + n % 10)) ≡ true
two_are_digits n small = grind (arith, nat_tests)

number_back : (n : ℕ) → 10 * ((48 + n / 10) - 48) + ((48 + n % 10) - 48) ≡ n
number_back n = omega arith

base_small : (rate : Rate) → base_of rate ≤ 30
base_small R24 = omega arith
base_small R25 = omega arith
base_small R30 = omega arith

shape_back : (mode : Mode) (l : Label) → l.h < 100 → l.m < 100 → l.s < 100 → l.f < 100 → has_shape (spelled mode l) ≡ true
shape_back NonDrop l h m s f = rw (two_are_digits l.h h, two_are_digits l.m m, two_are_digits l.s s, two_are_digits l.f f) refl
shape_back Drop l h m s f = rw (two_are_digits l.h h, two_are_digits l.m m, two_are_digits l.s s, two_are_digits l.f f) refl

label_back : (mode : Mode) (l : Label) → label_in (spelled mode l) ≡ l
label_back NonDrop l = same_label (label_in (spelled NonDrop l)) l (number_back l.h) (number_back l.m) (number_back l.s) (number_back l.f)
label_back Drop l = same_label (label_in (spelled Drop l)) l (number_back l.h) (number_back l.m) (number_back l.s) (number_back l.f)

abbrev good : Label → Result Label TcFault
good l = Ok l

ok_label : (a b : Label) → a ≡ b → good a ≡ good b
ok_label a b e = ap good e

-- a token of this shape with this label
parsed_by : (rate : Rate) (mode : Mode) (t : List ℕ) (l : Label) → has_shape t ≡ true → label_in t ≡ l → IsValid rate mode l → (has_semicolon t && is_non_drop mode) ≡ false → parsed rate mode t ≡ Ok l
parsed_by rate mode t l shape label valid mark =
    let range : is_in_range rate (label_in t) ≡ true = ap (is_in_range rate) label ∙ valid.0 in
    let kept : is_passed_over mode (label_in t) ≡ false = ap (is_passed_over mode) label ∙ valid.1 in
    rw (shape, range, kept, mark) (ok_label (label_in t) l label)

pub spells_back : SpellsBack
spells_back rate NonDrop l can valid =
    let r = is_in_range-true rate l valid.0 in
    let b = base_small rate in
    parsed_by rate NonDrop (spelled NonDrop l) l (shape_back NonDrop l (omega arith) (omega arith) (omega arith) (omega arith)) (label_back NonDrop l) valid refl
spells_back rate Drop l can valid =
    let r = is_in_range-true rate l valid.0 in
    let b = base_small rate in
    parsed_by rate Drop (spelled Drop l) l (shape_back Drop l (omega arith) (omega arith) (omega arith) (omega arith)) (label_back Drop l) valid refl
