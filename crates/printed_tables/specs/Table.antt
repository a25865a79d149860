-- The event table of an edit list. The text is this project's own rule.
-- * event table: the line of the rate, the line of each event, and their number
--     event_table rate list      the line of the rate, one line for each event, and the line of their number
use Rattle.std.specs.Prelude.{ℕ, List, [], ◌∷◌, ◌++◌, length, codes, decimal, Option, None, Some}
use Rattle.std.specs.Fmt.{signed_decimal}
use Rattle.std.specs.List.{flat_map}
use Rattle.std.specs.Prelude.{ℤ}
use Rattle.cf_base.specs.declared.timing.Rate.{Rate}
use Rattle.cf_base.specs.declared.timing.Rate.TheVariants.{R24, R25, R30}
use Rattle.cf_base.specs.declared.timing.Mode.{Mode}
use Rattle.cf_base.specs.declared.timing.Mode.TheVariants.{NonDrop, Drop}
use Rattle.cf_base.specs.declared.event.EventRec.{EventRec}
use Rattle.cf_base.specs.declared.event.EventList.{EventList}
use Rattle.cf_base.specs.declared.event.Transition.{Transition}
use Rattle.cf_base.specs.declared.event.Transition.TheVariants.{Cut, Dissolve, Wipe}
use Rattle.cf_base.specs.Digits.{digits}
use Rattle.cf_timecode.specs.Counting.{label_after}
use Rattle.cf_timecode.specs.Spelling.{spelled}
use Rattle.printed_text.specs.Text.{spaced_line}

-- the counting base
abbrev pub rate_word : Rate → List ℕ
rate_word R24 = codes "24"
rate_word R25 = codes "25"
rate_word R30 = codes "30"

abbrev pub mode_word : Mode → List ℕ
mode_word NonDrop = codes "non-drop"
mode_word Drop = codes "drop"

-- the label of a frame number (SMPTE ST 12-1)
unfoldable pub label_word : Rate → Mode → ℕ → List ℕ
label_word rate mode n = spelled mode (label_after rate mode n)

-- `C`; `D` and the duration; `W`, the three digits of the wipe, `/` and the duration
abbrev pub transition_word : Transition → List ℕ
transition_word Cut = codes "C"
transition_word (Dissolve d) = codes "D" ++ decimal d
transition_word (Wipe code d) = codes "W" ++ digits 3 code ++ codes "/" ++ decimal d

-- the speed in hundredths of a frame per second, or `-`
abbrev pub speed_word : Option ℤ → List ℕ
speed_word None = codes "-"
speed_word (Some speed) = signed_decimal speed

-- line number, reel, source in and out in the event's own mode, record in and out, transition and speed
unfoldable pub event_line : Rate → Mode → EventRec → List ℕ
event_line rate mode e = spaced_line (decimal e.line ∷ e.reel
    ∷ label_word rate e.src_mode e.src_in ∷ label_word rate e.src_mode e.src_out
    ∷ label_word rate mode e.rec_in ∷ label_word rate mode e.rec_out
    ∷ transition_word e.transition ∷ speed_word e.speed ∷ [])

unfoldable pub event_table : Rate → EventList → List ℕ
event_table rate list = spaced_line (codes "rate" ∷ rate_word rate ∷ mode_word list.mode ∷ [])
    ++ flat_map (event_line rate list.mode) list.events
    ++ spaced_line (codes "events" ∷ decimal (length list.events) ∷ [])
