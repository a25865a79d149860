-- One line more, from what the lines before it say: words of private clauses.
--     event_of state .. times      the event of a picture line with these times
--     picture_from rate state bytes ..      the event of a picture line but for its speed, or its first fault
--     step_of rate state bytes kind      what the lines say with this one, and its event, or its first fault; motion lines apart
use Rattle.std.specs.Prelude.{ℕ, ◌+◌, if◌then◌else◌, List, Some, None, Result, Ok, Err, unwrap_or}
use Rattle.cf_base.specs.declared.lines.Span.{Span}
use Rattle.cf_base.specs.declared.timing.Rate.{Rate}
use Rattle.cf_base.specs.declared.event.Transition.{Transition}
use Rattle.cf_base.specs.declared.event.EventRec.{EventRec}
use Rattle.cf_base.specs.Timing.{can_count}
use Rattle.cf_base.specs.Steps.{◌>>=◌}
use Rattle.edl_lines.specs.declared.LineKind.{LineKind}
use Rattle.edl_lines.specs.declared.LineKind.TheVariants.{Fcm, Event, Skipped}
use Rattle.edl_lines.specs.declared.LineFault.TheVariants.{BadFcm}
use Rattle.edl_events.specs.declared.ListKind.{ListKind}
use Rattle.edl_events.specs.declared.ListKind.TheVariants as fault
use Rattle.edl_events.specs.declared.steps.State.{State}
use Rattle.edl_events.specs.declared.steps.Step.{Step}
use Rattle.edl_events.specs.declared.steps.Times.{Times}
use Rattle.edl_events.specs.inside.Made.{IsInDay}
use Rattle.edl_events.specs.Pictures.{picture_with}

-- without its speed, which motion lines behind it say
abbrev pub event_of : State → ℕ → List ℕ → Transition → Times → EventRec
event_of s number reel transition times = record {
  line = s.lines + 1;
  number = number;
  reel = reel;
  src_mode = s.mode;
  src_in = times.src_in;
  src_out = times.src_out;
  rec_in = times.rec_in;
  rec_out = times.rec_out;
  speed = None;
  transition = transition;
}

abbrev pub picture_from : Rate → State → List ℕ → ℕ → List ℕ → Transition → List Span → Result EventRec ListKind
picture_from rate s = picture_with rate s.mode (unwrap_or s.record_mode s.mode) s.last_out s.pictures (s.lines + 1) None

-- an event's numbers are those of the days that the lines before it say
abbrev pub IsInDayOf : Rate → State → EventRec → Type 0
IsInDayOf rate s e = IsInDay rate s.mode (unwrap_or s.record_mode s.mode) e

abbrev pub plain_step : State → Step
plain_step s = record {
  state = record {
    lines = s.lines + 1;
    mode = s.mode;
    record_mode = s.record_mode;
    last_out = s.last_out;
    pictures = s.pictures;
  };
  event = None;
}

abbrev pub event_step : State → EventRec → Step
event_step s e = record {
  state = record {
    lines = s.lines + 1;
    mode = s.mode;
    record_mode = Some (unwrap_or s.record_mode s.mode);
    last_out = Some e.rec_out;
    pictures = s.pictures + 1;
  };
  event = Some e;
}

abbrev pub step_of : Rate → State → List ℕ → LineKind → Result Step ListKind
step_of rate s bytes (Fcm mode) =
    if can_count rate mode then Ok
    (record {
      state = record {
        lines = s.lines + 1;
        mode = mode;
        record_mode = s.record_mode;
        last_out = s.last_out;
        pictures = s.pictures;
      };
      event = None;
    })
    else Err (fault.Line BadFcm)
step_of rate s bytes (Event number reel transition spans) = picture_from rate s bytes number reel transition spans
    >>= (λ e. Ok (event_step s e))
step_of rate s bytes (Skipped number reel) =
    Ok (record {
      state = record {
        lines = s.lines + 1;
        mode = s.mode;
        record_mode = Some (unwrap_or s.record_mode s.mode);
        last_out = s.last_out;
        pictures = s.pictures;
      };
      event = None;
    })
step_of rate s bytes _ = Ok (plain_step s)
