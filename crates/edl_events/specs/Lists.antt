-- Edit lists after CMX 3600: the events of a text, or its first refusal. The definition is this file with Pictures, Motion and
-- Places. Made says that lists are well made, and the other files of this folder have the words of private clauses.
-- * events of a text: the first faulty line with its first fault; else the first event whose lengths differ; else that there is
--   none; else the events
--     fault_at rate lines i line      the first fault of the line at i by itself and those before it
--     list_of rate text      the list of a text, or its refusal
use Rattle.std.specs.Prelude.{ℕ, ◌+◌, ◌||◌, Bool, not, ◌==◌, nat_lt, if◌then◌else◌, List, length, take, slice_get, Option, Some, None, Result, Ok, Err, is_some}
use Rattle.std.specs.Option.{option_map}
use Rattle.std.specs.List.{filter_map, list_any, enumerate_from, find}
use Rattle.std.specs.Result.{result_ok, result_err}
use Rattle.cf_base.specs.declared.limits.TheConstants.{LIST_BYTES}
use Rattle.cf_base.specs.declared.timing.Rate.{Rate}
use Rattle.cf_base.specs.declared.event.EventRec.{EventRec}
use Rattle.cf_base.specs.declared.event.EventList.{EventList}
use Rattle.cf_base.specs.Events.{is_black_reel, record_length}
use Rattle.cf_base.specs.Timing.{can_count}
use Rattle.cf_base.specs.Steps.{◌>>=◌}
use Rattle.edl_lines.specs.declared.LineKind.{LineKind}
use Rattle.edl_lines.specs.declared.LineKind.TheVariants.{Fcm, Motion, Event}
use Rattle.edl_lines.specs.declared.LineFault.{LineFault}
use Rattle.edl_lines.specs.declared.LineFault.TheVariants.{BadFcm}
use Rattle.edl_events.specs.declared.ListKind.{ListKind}
use Rattle.edl_events.specs.declared.ListKind.TheVariants as fault
use Rattle.edl_events.specs.declared.ListRefusal.{ListRefusal}
use Rattle.edl_events.specs.Places.{Line, lines_in, mode_after, record_mode}
use Rattle.edl_events.specs.Motion.{owner_after}
use Rattle.edl_events.specs.Pictures.{unless, label_number, picture_at}

-- The first fault of a line, by its kind.
abbrev pub fault_by : Rate → List Line → ℕ → Line → Result LineKind LineFault → Option ListKind
fault_by rate lines i line (Err by_itself) = Some (fault.Line by_itself)
fault_by rate lines i line (Ok (Fcm mode)) = result_err (unless (can_count rate mode) (fault.Line BadFcm))
fault_by rate lines i line (Ok (Motion reel speed trigger)) =
    result_err (label_number rate (mode_after (take i lines)) line.bytes trigger
    >>= (λ _. unless (is_some (owner_after (take i lines) reel)) fault.StrayMotion))
fault_by rate lines i line (Ok (Event number reel transition times)) = result_err (picture_at rate lines i line number reel transition)
fault_by rate lines i line (Ok _) = None

abbrev pub fault_at : Rate → List Line → ℕ → Line → Option ListKind
fault_at rate lines i line = fault_by rate lines i line line.kind

abbrev pub refusal : ℕ → ListKind → ListRefusal
refusal line kind = record { line = line; kind = kind }

-- First round: the first faulty line with its first fault.
abbrev pub first_round : Rate → List Line → Option ListRefusal
first_round rate lines =
    slice_get (filter_map (λ (p : ℕ × Line). option_map (refusal (p.0 + 1)) (fault_at rate lines p.0 p.1)) (enumerate_from 0 lines)) 0

abbrev pub event_by : Rate → List Line → ℕ → Line → Result LineKind LineFault → Option EventRec
event_by rate lines i line (Ok (Event number reel transition times)) = result_ok (picture_at rate lines i line number reel transition)
event_by rate lines i line (Ok _) = None
event_by rate lines i line (Err _) = None

-- the events of the picture lines in order
abbrev pub events_of : Rate → List Line → List EventRec
events_of rate lines = filter_map (λ (p : ℕ × Line). event_by rate lines p.0 p.1 p.1.kind) (enumerate_from 0 lines)

-- Second round: without motion the source is as long as the record, but for black.
abbrev pub has_lengths : EventRec → Bool
has_lengths e = is_some e.speed || is_black_reel e.reel || e.src_out == e.src_in + record_length e

abbrev pub second_round : List EventRec → Option ListRefusal
second_round events = option_map (λ (e : EventRec). refusal e.line fault.Lengths) (find (λ e. not (has_lengths e)) events)

abbrev pub has_event : List EventRec → Bool
has_event events = list_any (λ e. nat_lt 0 (record_length e)) events

abbrev pub settled : Option ListRefusal → Result EventList ListRefusal → Result EventList ListRefusal
settled None other = other
settled (Some first) other = Err first

abbrev pub list_from : Rate → List Line → Result EventList ListRefusal
list_from rate lines =
    let events : List EventRec = events_of rate lines in
    settled (first_round rate lines)
    (settled (second_round events)
    (if has_event events then Ok (record { mode = record_mode lines; events = events }) else Err (refusal 0 fault.NoEvents)))

abbrev pub list_of : Rate → List ℕ → Result EventList ListRefusal
list_of rate text = if nat_lt LIST_BYTES (length text) then Err (refusal 0 fault.TooLong) else list_from rate (lines_in text)
