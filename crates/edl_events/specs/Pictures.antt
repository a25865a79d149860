-- Picture lines: their labels and numbers, and the first fault of each.
-- * picture event: the labels of a line and its faults in their order
--     picture_with rate mode record_ last count ..      the event of a picture line, or its first fault, from what the lines before it say
--     picture_at rate lines i line number reel transition      that of the picture line at i
use Rattle.std.specs.Prelude.{ℕ, ℤ, ◌+◌, ◌-◌, ◌&&◌, Bool, true, false, nat_eq, nat_lt, nat_le, List, [], ◌∷◌, take, slice_get, slice_range, Option, Some, None, Result, Ok, Err, option_and_then, unwrap_or}
use Rattle.std.specs.Option.{option_map}
use Rattle.std.specs.List.{last_or, count_by}
use Rattle.cf_base.specs.declared.lines.Span.{Span}
use Rattle.cf_base.specs.declared.timing.Rate.{Rate}
use Rattle.cf_base.specs.declared.timing.Mode.{Mode}
use Rattle.cf_base.specs.declared.event.Transition.{Transition}
use Rattle.cf_base.specs.declared.event.Transition.TheVariants.{Cut, Dissolve, Wipe}
use Rattle.cf_base.specs.declared.event.EventRec.{EventRec}
use Rattle.cf_base.specs.Events.{is_known_wipe}
use Rattle.cf_base.specs.Steps.{◌>>=◌}
use Rattle.cf_timecode.specs.declared.Label.{Label}
use Rattle.cf_timecode.specs.declared.TcFault.{TcFault}
use Rattle.cf_timecode.specs.Counting.{number_of}
use Rattle.cf_timecode.specs.Spelling.{parsed}
use Rattle.edl_lines.specs.declared.LineKind.{LineKind}
use Rattle.edl_lines.specs.declared.LineKind.TheVariants.{Event}
use Rattle.edl_lines.specs.declared.LineFault.{LineFault}
use Rattle.edl_lines.specs.declared.LineFault.TheVariants.{BadEvent}
use Rattle.edl_events.specs.declared.ListKind.{ListKind}
use Rattle.edl_events.specs.declared.steps.Times.{Times}
use Rattle.edl_events.specs.declared.ListKind.TheVariants as fault
use Rattle.edl_events.specs.Places.{Line, is_picture, mode_after, record_mode, places}
use Rattle.edl_events.specs.Motion.{speed_at}

-- the fault where the test fails
abbrev pub unless : Bool → ListKind → Result (Unit {0}) ListKind
unless true kind = Ok tt
unless false kind = Err kind

-- The number of the label in a part of a line. It is the number by counting: cf_timecode's laws say that `number_of` counts,
-- and that no label has two numbers.
abbrev pub numbered : Rate → Mode → Result Label TcFault → Result ℕ ListKind
numbered rate mode (Ok label) = Ok (number_of rate mode label)
numbered rate mode (Err tc) = Err (fault.Label tc)

abbrev pub label_number : Rate → Mode → List ℕ → Span → Result ℕ ListKind
label_number rate mode bytes span = numbered rate mode (parsed rate mode (slice_range bytes span.start span.end))

-- Sources in the mode in force, records in the record mode. A line that is read has four spans; with fewer a time is missing,
-- which reading the line refuses.
abbrev pub times_of : Rate → Mode → Mode → List ℕ → List Span → Result Times ListKind
times_of rate source record_ bytes (a ∷ b ∷ c ∷ d ∷ []) = do
  src_in ← label_number rate source bytes a
  src_out ← label_number rate source bytes b
  rec_in ← label_number rate record_ bytes c
  rec_out ← label_number rate record_ bytes d
  Ok (record { src_in = src_in; src_out = src_out; rec_in = rec_in; rec_out = rec_out })
times_of rate source record_ bytes _ = Err (fault.Line BadEvent)

abbrev pub spans_of_kind : Result LineKind LineFault → List Span
spans_of_kind (Ok (Event number reel transition times)) = times
spans_of_kind (Ok _) = []
spans_of_kind (Err _) = []

-- the times of a line, from the lines before it
abbrev pub times_after : Rate → Mode → List Line → Line → Result Times ListKind
times_after rate record_ before line = times_of rate (mode_after before) record_ line.bytes (spans_of_kind line.kind)

abbrev pub out_of : Result Times ListKind → Option ℕ
out_of (Ok times) = Some times.rec_out
out_of (Err kind) = None

-- the record out of the last picture line of these
abbrev pub last_out : Rate → Mode → List Line → Option ℕ
last_out rate record_ before =
    option_and_then (λ p. option_and_then (λ (line : Line). out_of (times_after rate record_ (take p before) line)) (slice_get before p))
    (last_or None (places is_picture before))

abbrev pub is_at : Option ℕ → ℕ → Bool
is_at place n = unwrap_or (option_map (nat_eq n) place) false

-- a transition comes from the picture line before, which ends where this one begins, and lasts no longer than this one
abbrev pub leads : Option ℕ → Times → ℕ → Result (Unit {0}) ListKind
leads before times d = do
  _ ← unless (is_at before times.rec_in) fault.NoFrom
  unless (nat_le 1 d && nat_le d (times.rec_out - times.rec_in)) fault.Duration

abbrev pub transition_fits : Option ℕ → Times → Transition → Result (Unit {0}) ListKind
transition_fits before times Cut = Ok tt
transition_fits before times (Dissolve d) = leads before times d
transition_fits before times (Wipe code d) = do
  _ ← unless (is_known_wipe code) fault.UnknownWipe
  leads before times d

-- The lines before a picture line say the mode in force, the record mode, the record out of the last picture line, and how many
-- picture lines there are.
abbrev pub picture_with : Rate → Mode → Mode → Option ℕ → ℕ → ℕ → Option ℤ → List ℕ → ℕ → List ℕ → Transition
    → List Span → Result EventRec ListKind
picture_with rate mode record_ last count line speed bytes number reel transition spans = do
  times ← times_of rate mode record_ bytes spans
  _ ← unless (nat_le times.rec_in times.rec_out) fault.Backwards
  _ ← unless (nat_lt count 10000) fault.TooMany
  _ ← transition_fits last times transition
  Ok (record {
    line = line;
    number = number;
    reel = reel;
    src_mode = mode;
    src_in = times.src_in;
    src_out = times.src_out;
    rec_in = times.rec_in;
    rec_out = times.rec_out;
    speed = speed;
    transition = transition;
  })

abbrev pub picture_at : Rate → List Line → ℕ → Line → ℕ → List ℕ → Transition → Result EventRec ListKind
picture_at rate lines i line number reel transition =
    picture_with rate (mode_after (take i lines)) (record_mode lines) (last_out rate (record_mode lines) (take i lines))
    (count_by is_picture (take i lines)) (i + 1) (speed_at lines i)
    line.bytes number reel transition (spans_of_kind line.kind)
