-- Counting by labels, after SMPTE ST 12-1.
-- * label counting: `next` adds one frame, carries, and in drop-frame mode passes over the dropped labels; the number of a label
--   is how many times `next` leads to it from 00:00:00:00 (SMPTE ST 12-1). Laws: no label comes twice, a day's frames lead to 24
--   hours, no step leads to a label that is passed over, of two labels exactly the earlier one has the lesser number
--     is_dropped label      drop-frame counting has no frames 00 and 01 at the start of a minute, but for every tenth minute
--     is_passed_over mode label      counting in this mode passes over the label
--     IsValid rate mode label      a label of a day
--     following rate label      the label one frame later, dropped or not
--     next rate mode label      the first of the labels that follow which isn't passed over
--     label_after rate mode n      the label to which n steps of next lead from 00:00:00:00
--     IsBefore a b      label a is read before label b
-- The number of a label in its day is the n for which `label_after` gives it. Hours go on past 23, so no label comes twice.
use Rattle.std.specs.Prelude.{◌≡◌, ◌<◌, ◌⊎◌, ◌↔◌, ℕ, suc, zero, ◌+◌, ◌*◌, ◌/◌, ◌%◌, Bool, true, false, not, ◌&&◌, nat_lt, ◌==◌, if◌then◌else◌}
use Rattle.cf_base.specs.declared.timing.Rate.{Rate}
use Rattle.cf_base.specs.declared.timing.Rate.TheVariants.{R24, R25, R30}
use Rattle.cf_base.specs.declared.timing.Mode.{Mode}
use Rattle.cf_base.specs.declared.timing.Mode.TheVariants.{NonDrop, Drop}
use Rattle.cf_base.specs.Timing.{base_of, CanCount, frames_in_day}
use Rattle.cf_timecode.specs.declared.Label.{Label}

abbrev pub is_dropped : Label → Bool
is_dropped label = nat_lt label.f 2 && label.s == 0 && not (label.m % 10 == 0)

abbrev pub is_passed_over : Mode → Label → Bool
is_passed_over NonDrop label = false
is_passed_over Drop label = is_dropped label

abbrev pub is_in_range : Rate → Label → Bool
is_in_range rate label = nat_lt label.h 24 && nat_lt label.m 60 && nat_lt label.s 60 && nat_lt label.f (base_of rate)

abbrev pub IsValid : Rate → Mode → Label → Type 0
IsValid rate mode label = (is_in_range rate label ≡ true) × (is_passed_over mode label ≡ false)

abbrev pub following : Rate → Label → Label
following rate label =
    if nat_lt (label.f + 1) (base_of rate) then record label { f = label.f + 1 }
    else if nat_lt (label.s + 1) 60 then record label { s = label.s + 1; f = 0 }
    else if nat_lt (label.m + 1) 60 then record label { m = label.m + 1; s = 0; f = 0 }
    else record { h = label.h + 1; m = 0; s = 0; f = 0 }

-- the label, or where it is passed over the one that follows
abbrev pub pass_over : Rate → Mode → Label → Label
pass_over rate mode label = if is_passed_over mode label then following rate label else label

-- No more than two labels in a row are dropped, so to pass over twice is enough: `NeverPassedOver` says so.
abbrev pub next : Rate → Mode → Label → Label
next rate mode label = pass_over rate mode (pass_over rate mode (following rate label))

abbrev pub midnight : Label
midnight = record { h = 0; m = 0; s = 0; f = 0 }

abbrev pub label_after : Rate → Mode → ℕ → Label
label_after rate mode zero = midnight
label_after rate mode (suc n) = next rate mode (label_after rate mode n)

-- The number of a label by arithmetic, for definitions that compute with it; `NumbersCount` says that it is the number by counting.
abbrev pub second_of : Label → ℕ
second_of l = (l.h * 60 + l.m) * 60 + l.s

abbrev pub minute_of : Label → ℕ
minute_of l = l.h * 60 + l.m

-- in Drop a minute has 1798 frames, and every tenth two more
abbrev pub number_of : Rate → Mode → Label → ℕ
number_of R24 mode l = second_of l * 24 + l.f
number_of R25 mode l = second_of l * 25 + l.f
number_of R30 NonDrop l = second_of l * 30 + l.f
number_of R30 Drop l = minute_of l * 1798 + minute_of l / 10 * 2 + l.s * 30 + l.f

abbrev pub NumbersCount : Type 0
NumbersCount = (rate : Rate) (mode : Mode) (label : Label) → CanCount rate mode → IsValid rate mode label
    → label_after rate mode (number_of rate mode label) ≡ label

-- a step from a label of the day leads to no label that is passed over
abbrev pub NeverPassedOver : Type 0
NeverPassedOver = (rate : Rate) (mode : Mode) (label : Label) → CanCount rate mode → IsValid rate mode label
    → is_passed_over mode (next rate mode label) ≡ false

-- the number of a label of the day is below the day's number of labels
abbrev pub NumbersFit : Type 0
NumbersFit = (rate : Rate) (mode : Mode) (label : Label) → CanCount rate mode → IsValid rate mode label
    → number_of rate mode label < frames_in_day rate mode

-- no two numbers have one label
abbrev pub CountsOnce : Type 0
CountsOnce = (rate : Rate) (mode : Mode) (m n : ℕ) → CanCount rate mode → label_after rate mode m ≡ label_after rate mode n → m ≡ n

-- with a day's number of frames counting comes to 24 hours
abbrev pub FillsDay : Type 0
FillsDay = (rate : Rate) (mode : Mode) → CanCount rate mode → label_after rate mode (frames_in_day rate mode)
    ≡ record { h = 24; m = 0; s = 0; f = 0 }

-- labels stand in the order of the first part in which they differ: hours, then minutes, seconds, frames
abbrev pub IsBefore : Label → Label → Type 0
IsBefore a b = (a.h < b.h)
    ⊎ ((a.h ≡ b.h) × (a.m < b.m))
    ⊎ ((a.h ≡ b.h) × (a.m ≡ b.m) × (a.s < b.s))
    ⊎ ((a.h ≡ b.h) × (a.m ≡ b.m) × (a.s ≡ b.s) × (a.f < b.f))

-- of two labels of the day, exactly the earlier one has the lesser number
abbrev pub NumbersRise : Type 0
NumbersRise = (rate : Rate) (mode : Mode) (a b : Label) → CanCount rate mode → IsValid rate mode a → IsValid rate mode b
    → (number_of rate mode a < number_of rate mode b) ↔ IsBefore a b
