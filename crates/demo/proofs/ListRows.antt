-- The list's text is read as its rows.
use Rattle.std.proofs.Common.{◌≡◌, ℕ, zero, suc, ℤ, ◌+◌, ◌-◌, ◌*◌, ◌/◌, ◌%◌, ◌<◌, ◌≤◌, true, not, ◌==◌, List, ◌∷◌, length, map, refl, sym, ap, ◌∙◌, arith, inl, inr}
use Rattle.std.specs.Prelude.{Option, None, Ok}
use Rattle.std.specs.List.{range_with_len, find}
use Rattle.std.proofs.lemmas.Bool.{cases_Bool, eq-eqb, le-ltb}
use Rattle.cf_base.specs.declared.event.EventRec.{EventRec}
use Rattle.cf_base.specs.declared.timing.Mode.TheVariants.{NonDrop}
use Rattle.cf_base.specs.declared.timing.Rate.TheVariants.{R24}
use Rattle.edl_events.specs.Lists.{list_of, list_from, events_of, first_round, has_event, has_lengths}
use Rattle.edl_events.specs.Motion.{speed_at}
use Rattle.edl_events.specs.Places.{Line, record_mode}
use Rattle.edl_events.specs.inside.Reads.{line_of, set_speed, with_speed_of}
use Rattle.edl_events.proofs.EndLaws.{mode_end, round_end, events_end}
use Rattle.demo.specs.Texts.{list_text}
use Rattle.demo.proofs.ListText.{lines_are, list_short}
use Rattle.demo.proofs.ListState.{place, before, row_speed, Behind, behind}
use Rattle.demo.proofs.ListEvents.{bare, bare_rows, state_at, non_drop, all_read}

-- the row of an event, and those of a list
abbrev pub row : ℕ → EventRec
row k = set_speed (row_speed k) (bare k)

abbrev pub rows : ℕ → List EventRec
rows events = map row (range_with_len 0 events)

spoken_rows : (speed : ℕ → Option ℤ) (a n : ℕ) → ((j : ℕ) → j < a + n → speed (place j) ≡ row_speed j) → map (with_speed_of speed) (map bare (range_with_len a n)) ≡ map row (range_with_len a n)
spoken_rows speed a zero said = refl
spoken_rows speed a (suc n) said =
    let here : place a + 1 - 1 ≡ place a = omega arith in
    let first : with_speed_of speed (bare a) ≡ row a = ap (λ (s : Option ℤ). set_speed s (bare a)) (ap speed here ∙ said a (omega arith)) in
    ap (λ (e : EventRec). e ∷ map (with_speed_of speed) (map bare (range_with_len (a + 1) n))) first
    ∙ ap (λ (es : List EventRec). row a ∷ es) (spoken_rows speed (a + 1) n (λ j below. said j (omega arith)))

-- each source is as long as its record, but for the one with a speed
as_long : (k : ℕ) → has_lengths (row k) ≡ true
as_long k = elim (cases_Bool (k % 4 == 3)) [
  | inl last ↦ rw last refl
  | inr other ↦ rw (other, eq-eqb (86400 + 6 * (k / 4) + 6) (86400 + 6 * (k / 4) + (86400 + 26 * (k / 4) + 6 * (k % 4) + 6 - (86400 + 26 * (k / 4) + 6 * (k % 4)))) (omega arith)) refl
]

none_short : (a n : ℕ) → find (λ e. not (has_lengths e)) (map row (range_with_len a n)) ≡ None
none_short a zero = refl
none_short a (suc n) = rw (as_long a) (none_short (a + 1) n)

pub first_rows : (events : ℕ) → events ≤ 1000 → first_round R24 (before events) ≡ None
first_rows events few = round_end R24 (before events) (state_at (place events) events) (bare_rows events) (all_read events few)

pub rows_are : (events : ℕ) → events ≤ 1000 → events_of R24 (before events) ≡ rows events
rows_are events few =
    let here : Behind events (before events) = behind events few in
    events_end R24 (before events) (state_at (place events) events) (bare_rows events) (all_read events few) (speed_at (before events)) (λ e. refl)
    ∙ spoken_rows (speed_at (before events)) 0 events (λ j below. here.spoken j (omega arith))

pub mode_is : (events : ℕ) → events ≤ 1000 → record_mode (before events) ≡ NonDrop
mode_is events few = sym (mode_end R24 (before events) (state_at (place events) events) (bare_rows events) (all_read events few)) ∙ non_drop events

some_event : (events : ℕ) → 1 ≤ events → has_event (rows events) ≡ true
some_event zero some = absurd (omega arith)
some_event (suc m) some = refl

from_lines : (lines : List Line) (events : ℕ) → 1 ≤ events → first_round R24 lines ≡ None → events_of R24 lines ≡ rows events → record_mode lines ≡ NonDrop
    → list_from R24 lines ≡ Ok (record { mode = NonDrop; events = rows events })
from_lines lines events some first same mode = rw (first, same, mode, none_short 0 events, some_event events some) refl

pub list_is : (events : ℕ) → 1 ≤ events → events ≤ 1000 → list_of R24 (list_text events) ≡ Ok (record { mode = NonDrop; events = rows events })
list_is events some few =
    rw (le-ltb 4194304 (length (list_text events)) (list_short events few))
    (ap (list_from R24) (ap (map line_of) (lines_are events few)) ∙ from_lines (before events) events some (first_rows events few) (rows_are events few) (mode_is events few))
