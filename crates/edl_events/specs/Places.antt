-- The lines of an edit list and what holds at each. A line is named by its place in the list of lines, from 0.
-- What holds at a line is said of the list of the lines before it, so it doesn't depend on the lines behind.
-- * mode in force, record mode: that of the last FCM line before; that in force at the first event line
--     Line, lines_in text      a line's bytes with what reading gives for them
--     mode_after before      the mode in force at a line, from the lines before it: that of the last FCM line, NonDrop if there is none
--     record_mode lines      the mode in force at the first event line
--     places p lines      the places of the lines that pass a test
use Rattle.std.specs.Prelude.{ℕ, Bool, true, false, List, length, map, slice_get, Option, Some, None, Result, Ok, Err, is_some, unwrap_or}
use Rattle.std.specs.Option.{option_map}
use Rattle.std.specs.List.{filter, filter_map, last_or, before_first, range_with_len}
use Rattle.cf_base.specs.declared.timing.Mode.{Mode}
use Rattle.cf_base.specs.declared.timing.Mode.TheVariants.{NonDrop}
use Rattle.cf_base.specs.Lines.{lines_of}
use Rattle.edl_lines.specs.declared.LineKind.{LineKind}
use Rattle.edl_lines.specs.declared.LineKind.TheVariants.{Fcm, Event, Skipped}
use Rattle.edl_lines.specs.declared.LineFault.{LineFault}
use Rattle.edl_lines.specs.Lines.{reading}

pub record Line : Type 0 where
  pub bytes : List ℕ
  pub kind : Result LineKind LineFault

abbrev pub lines_in : List ℕ → List Line
lines_in text = map (λ bytes. record { bytes = bytes; kind = reading bytes }) (lines_of text)

-- the mode of an FCM line
abbrev pub mode_of_kind : Result LineKind LineFault → Option Mode
mode_of_kind (Ok (Fcm mode)) = Some mode
mode_of_kind (Ok _) = None
mode_of_kind (Err fault) = None

-- number and reel of an event line, picture or passed over
pub record Head : Type 0 where
  pub number : ℕ
  pub reel : List ℕ

abbrev pub head_of_kind : Result LineKind LineFault → Option Head
head_of_kind (Ok (Event number reel transition times)) = Some (record { number = number; reel = reel })
head_of_kind (Ok (Skipped number reel)) = Some (record { number = number; reel = reel })
head_of_kind (Ok _) = None
head_of_kind (Err fault) = None

abbrev pub is_picture_kind : Result LineKind LineFault → Bool
is_picture_kind (Ok (Event number reel transition times)) = true
is_picture_kind (Ok _) = false
is_picture_kind (Err fault) = false

abbrev pub is_event : Line → Bool
is_event line = is_some (head_of_kind line.kind)

abbrev pub is_picture : Line → Bool
is_picture line = is_picture_kind line.kind

-- the mode in force behind these lines
abbrev pub mode_after : List Line → Mode
mode_after before = unwrap_or (last_or None (filter_map (λ line. mode_of_kind line.kind) before)) NonDrop

abbrev pub record_mode : List Line → Mode
record_mode lines = mode_after (before_first is_event lines)

-- whether the line at a place passes
abbrev pub passes_at : (Line → Bool) → List Line → ℕ → Bool
passes_at p lines i = unwrap_or (option_map p (slice_get lines i)) false

-- the places of the lines that pass
abbrev pub places : (Line → Bool) → List Line → List ℕ
places p lines = filter (passes_at p lines) (range_with_len 0 (length lines))
