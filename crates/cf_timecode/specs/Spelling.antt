-- Labels as texts and as binary-coded decimals.
-- * label text: the four numbers with their separators, and the first of the four faults that holds
--     parsed rate mode token      the label that the token spells, or its first fault
--     spelled mode label      the eleven bytes of a label
--     bcd_of label      its eight digits, four bits each
use Rattle.std.specs.Prelude.{◌≡◌, ℕ, ◌+◌, ◌-◌, ◌*◌, ◌/◌, ◌%◌, Bool, true, false, not, ◌&&◌, ◌||◌, ◌==◌, ◌++◌, ◌^◌, if◌then◌else◌, List, [], ◌∷◌, length, slice_index, Result, Ok, Err}
use Rattle.std.specs.Char.{is_ascii_digit}
use Rattle.cf_base.specs.declared.timing.Rate.{Rate}
use Rattle.cf_base.specs.declared.timing.Mode.{Mode}
use Rattle.cf_base.specs.declared.timing.Mode.TheVariants.{NonDrop, Drop}
use Rattle.cf_timecode.specs.declared.Label.{Label}
use Rattle.cf_timecode.specs.declared.TcFault.{TcFault}
use Rattle.cf_timecode.specs.declared.TcFault.TheVariants.{Shape, Range, Dropped, DropMark}
use Rattle.cf_base.specs.Timing.{CanCount}
use Rattle.cf_timecode.specs.Counting.{is_in_range, is_passed_over, IsValid}

-- `:` and `;`
abbrev pub is_colon : ℕ → Bool
is_colon byte = byte == 58

abbrev pub is_semicolon : ℕ → Bool
is_semicolon byte = byte == 59

abbrev pub is_separator : ℕ → Bool
is_separator byte = is_colon byte || is_semicolon byte

abbrev pub has_digits : List ℕ → ℕ → Bool
has_digits token i = is_ascii_digit (slice_index token i) && is_ascii_digit (slice_index token (i + 1))

abbrev pub number_at : List ℕ → ℕ → ℕ
number_at token i = 10 * (slice_index token i - 48) + (slice_index token (i + 1) - 48)

-- two digits four times, with a separator between
abbrev pub has_shape : List ℕ → Bool
has_shape token = length token == 11
    && has_digits token 0 && is_separator (slice_index token 2)
    && has_digits token 3 && is_separator (slice_index token 5)
    && has_digits token 6 && is_separator (slice_index token 8)
    && has_digits token 9

abbrev pub has_semicolon : List ℕ → Bool
has_semicolon token = is_semicolon (slice_index token 2) || is_semicolon (slice_index token 5) || is_semicolon (slice_index token 8)

abbrev pub label_in : List ℕ → Label
label_in token = record { h = number_at token 0; m = number_at token 3; s = number_at token 6; f = number_at token 9 }

abbrev pub is_non_drop : Mode → Bool
is_non_drop NonDrop = true
is_non_drop Drop = false

-- the first case that holds is the fault
abbrev pub parsed : Rate → Mode → List ℕ → Result Label TcFault
parsed rate mode token =
    if not (has_shape token) then Err Shape
    else if not (is_in_range rate (label_in token)) then Err Range
    else if is_passed_over mode (label_in token) then Err Dropped
    else if has_semicolon token && is_non_drop mode then Err DropMark
    else Ok (label_in token)

abbrev pub two_digits : ℕ → List ℕ
two_digits n = (48 + n / 10) ∷ (48 + n % 10) ∷ []

abbrev pub last_separator : Mode → ℕ
last_separator NonDrop = 58
last_separator Drop = 59

abbrev pub spelled : Mode → Label → List ℕ
spelled mode label = two_digits label.h ++ 58 ∷ two_digits label.m ++ 58 ∷ two_digits label.s ++ last_separator mode ∷ two_digits label.f

-- two decimal digits, four bits each
abbrev pub bcd_pair : ℕ → ℕ
bcd_pair n = 16 * (n / 10) + n % 10

abbrev pub bcd_of : Label → ℕ
bcd_of label = bcd_pair label.h * 2 ^ 24 + bcd_pair label.m * 2 ^ 16 + bcd_pair label.s * 2 ^ 8 + bcd_pair label.f

-- what is spelled is parsed again
abbrev pub SpellsBack : Type 0
SpellsBack = (rate : Rate) (mode : Mode) (label : Label) → CanCount rate mode → IsValid rate mode label
    → parsed rate mode (spelled mode label) ≡ Ok label
