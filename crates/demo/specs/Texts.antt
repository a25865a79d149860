-- The texts of the demonstration job: its project file, and its edit list (CMX 3600). What they say is this project's own
-- rule.
--     project_text events      the project, with four source reels
--     list_text events      the list: cuts, dissolves, wipes and cuts at half speed in turn
use Rattle.std.specs.Prelude.{ℕ, ◌+◌, ◌*◌, ◌/◌, ◌%◌, ◌==◌, if◌then◌else◌, List, [], ◌∷◌, ◌++◌, codes, decimal}
use Rattle.std.specs.List.{flat_map, range_with_len}
use Rattle.cf_base.specs.Digits.{digits}
use Rattle.cf_base.specs.declared.timing.Rate.TheVariants.{R24}
use Rattle.cf_base.specs.declared.timing.Mode.TheVariants.{NonDrop}
use Rattle.cf_timecode.specs.Counting.{label_after}
use Rattle.cf_timecode.specs.Spelling.{spelled}
use Rattle.printed_text.specs.Text.{ended, spaced_line}
use Rattle.demo.specs.Counts.{source_count}

-- the four source reels: `R0` to `R3`, whose paths begin with `r0.` to `r3.`
abbrev pub reels : List ℕ
reels = range_with_len 0 4

abbrev pub reel_name : ℕ → List ℕ
reel_name reel = codes "R" ++ digits 1 reel

abbrev pub prefix : ℕ → List ℕ
prefix reel = codes "r" ++ digits 1 reel ++ codes "."

-- a source reel of the project
unfoldable pub reel_text : (frames reel : ℕ) → List ℕ
reel_text frames reel =
    ended (codes "[[reel]]")
    ++ ended (codes "name = \"" ++ reel_name reel ++ codes "\"")
    ++ ended (codes "prefix = \"" ++ prefix reel ++ codes "\"")
    ++ ended (codes "start = \"01:00:00:00\"")
    ++ ended (codes "frames = " ++ decimal frames)

unfoldable pub head_text : List ℕ
head_text =
    ended (codes "title = \"DEMO\"")
    ++ ended (codes "rate = 24")
    ++ ended (codes "width = 32")
    ++ ended (codes "height = 18")
    ++ ended (codes "edl = \"demo.edl\"")

abbrev pub project_text : ℕ → List ℕ
project_text events = head_text ++ flat_map (reel_text (source_count events)) reels

-- the label of a frame of the day, non-drop at 24 frames in a second (SMPTE ST 12-1)
unfoldable pub label_text : ℕ → List ℕ
label_text number = spelled NonDrop (label_after R24 NonDrop number)

-- the number of 01:00:00:00, at which all reels begin
abbrev pub hour : ℕ
hour = 86400

-- Events come in groups of four, one from each reel: a cut, a dissolve, a wipe and a cut.
abbrev pub transition : ℕ → List ℕ
transition reel = if reel == 1 then codes "D 004" else if reel == 2 then codes "W102 006" else codes "C"

-- each group goes on in the source reels where the one before it ended, and in the record two frames later
abbrev pub source_in : ℕ → ℕ
source_in group = hour + 6 * group

abbrev pub record_in : (group reel : ℕ) → ℕ
record_in group reel = hour + 26 * group + 6 * reel

-- the event of a group that comes from a reel; it has six frames, and events count from 1
unfoldable pub event_line : (group reel : ℕ) → List ℕ
event_line group reel = spaced_line (
    digits 6 (4 * group + reel + 1) ∷ reel_name reel ∷ codes "V" ∷ transition reel
    ∷ label_text (source_in group) ∷ label_text (source_in group + 6)
    ∷ label_text (record_in group reel) ∷ label_text (record_in group reel + 6)
    ∷ [])

-- the last event of a group is shown at half its speed
unfoldable pub motion_line : ℕ → List ℕ
motion_line group = spaced_line (codes "M2" ∷ reel_name 3 ∷ codes "012.0" ∷ label_text (source_in group) ∷ [])

-- event by event, from 0
abbrev pub event_text : ℕ → List ℕ
event_text event =
    event_line (event / 4) (event % 4) ++ (if event % 4 == 3 then motion_line (event / 4) else [])

abbrev pub list_text : ℕ → List ℕ
list_text events = ended (codes "TITLE: DEMO") ++ flat_map event_text (range_with_len 0 events)
