-- The events of a text but for their speeds: words of private clauses.
--     bare_at rate lines i line      the event of the line at i but for its speed, if it is a picture line without fault
use Rattle.std.specs.Prelude.{ℕ, ◌+◌, List, take, Option, None, Result, Ok, Err}
use Rattle.std.specs.List.{filter_map, enumerate_from, count_by}
use Rattle.std.specs.Result.{result_ok}
use Rattle.cf_base.specs.declared.timing.Rate.{Rate}
use Rattle.cf_base.specs.declared.event.EventRec.{EventRec}
use Rattle.edl_lines.specs.declared.LineKind.{LineKind}
use Rattle.edl_lines.specs.declared.LineKind.TheVariants.{Event}
use Rattle.edl_lines.specs.declared.LineFault.{LineFault}
use Rattle.edl_events.specs.Places.{Line, is_picture, mode_after, record_mode}
use Rattle.edl_events.specs.Pictures.{picture_with, last_out}

abbrev pub bare_by : Rate → List Line → ℕ → Line → Result LineKind LineFault → Option EventRec
bare_by rate lines i line (Ok (Event number reel transition spans)) =
    result_ok (picture_with rate (mode_after (take i lines)) (record_mode lines)
    (last_out rate (record_mode lines) (take i lines)) (count_by is_picture (take i lines))
    (i + 1) None line.bytes number reel transition spans)
bare_by rate lines i line (Ok _) = None
bare_by rate lines i line (Err _) = None

abbrev pub bare_at : Rate → List Line → ℕ × Line → Option EventRec
bare_at rate lines p = bare_by rate lines p.0 p.1 p.1.kind

-- the events of the first n lines
abbrev pub bare_events : Rate → List Line → ℕ → List EventRec
bare_events rate lines n = filter_map (bare_at rate lines) (enumerate_from 0 (take n lines))
