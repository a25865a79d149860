-- What is known after some of a text's lines: words of private clauses.
--     Knows rate lines n state      what the state says of the first n lines
--     Reads rate lines n state events      the first n lines have no fault of the first round, and these are their events but
--         for their speeds
use Rattle.std.specs.Prelude.{◌≡◌, ℕ, ℤ, nat_abs, ◌+◌, ◌-◌, ◌<◌, ◌≤◌, ◌==◌, if◌then◌else◌, IfSome, false, List, length, take, slice_get, Option, Some, None, Result, Ok, Err, unwrap_or}
use Rattle.std.specs.Option.{option_map}
use Rattle.std.specs.List.{count_by, last_or, All, AllPairs}
use Rattle.cf_base.specs.declared.timing.Rate.{Rate}
use Rattle.cf_base.specs.declared.timing.Mode.{Mode}
use Rattle.cf_base.specs.declared.event.EventRec.{EventRec}
use Rattle.cf_base.specs.declared.fail.Fail.{Fail}
use Rattle.cf_base.specs.declared.fail.Fail.TheVariants.{Fault, NoMemory}
use Rattle.cf_base.specs.Timing.{CanCount}
use Rattle.cf_base.specs.Events.{IsWellMadeEvent, BeginsWithCut, AllFollowOn}
use Rattle.edl_lines.specs.declared.LineKind.{LineKind}
use Rattle.edl_lines.specs.declared.LineKind.TheVariants.{Motion}
use Rattle.edl_lines.specs.Lines.{reading}
use Rattle.edl_events.specs.declared.ListKind.{ListKind}
use Rattle.edl_events.specs.declared.steps.State.{State}
use Rattle.std.specs.Ordering.{nat_cmp}
use Rattle.std.specs.BTreeMap.{BTreeMap, get}
use Rattle.edl_events.specs.declared.table.Table.{Table}
use Rattle.edl_events.specs.declared.reading.Reading.{Reading}
use Rattle.edl_events.specs.inside.Table.{IsTable, HasCounts, HasPlaces, count_of, place_of, line_counts, line_places}
use Rattle.edl_events.specs.Places.{Line, Head, is_event, is_picture, mode_after, record_mode}
use Rattle.edl_events.specs.Motion.{speed_at}
use Rattle.edl_events.specs.Pictures.{last_out}
use Rattle.edl_events.specs.Lists.{fault_at, first_round, refusal}
use Rattle.edl_events.specs.inside.Bare.{bare_events}

-- the record mode, or that no event line has come
abbrev pub Records : List Line → ℕ → Option Mode → Type 0
Records lines n None = (k : ℕ) (l : Line) → k < n → slice_get lines k ≡ Some l → is_event l ≡ false
Records lines n (Some m) = record_mode lines ≡ m

-- what the state says of the first n lines
pub record Knows (rate : Rate) (lines : List Line) (n : ℕ) (s : State) : Type 0 where
  pub done : s.lines ≡ n
  pub mode : s.mode ≡ mode_after (take n lines)
  pub recorded : Records lines n s.record_mode
  pub out : s.last_out ≡ last_out rate (record_mode lines) (take n lines)
  pub count : s.pictures ≡ count_by is_picture (take n lines)

abbrev pub IsPlain : LineKind → Type 0
IsPlain (Motion reel speed trigger) = ⊥
IsPlain _ = Unit {0}

-- the events so far are well made, and the next one can be
pub record Makes (rate : Rate) (record_ : Mode) (s : State) (events : List EventRec) : Type 0 where
  pub counts : CanCount rate s.mode
  pub record_counts : CanCount rate (unwrap_or s.record_mode s.mode)
  pub few : s.pictures ≤ 10000
  pub number : s.pictures ≡ length events
  pub rising : AllPairs (λ (e f : EventRec). e.line < f.line) events
  pub below : All (λ (e : EventRec). e.line ≤ s.lines) events
  pub each : All (IsWellMadeEvent rate record_) events
  pub first : BeginsWithCut events
  pub follow : AllFollowOn events
  pub last : s.last_out ≡ option_map (λ (e : EventRec). e.rec_out) (last_or None events)

pub record Reads (rate : Rate) (lines : List Line) (n : ℕ) (s : State) (events : List EventRec) : Type 0 where
  pub knows : Knows rate lines n s
  pub faultless : (k : ℕ) (l : Line) → k < n → slice_get lines k ≡ Some l → fault_at rate lines k l ≡ None
  pub bare : events ≡ bare_events rate lines n
  pub makes : Makes rate (record_mode lines) s events

abbrev pub line_of : List ℕ → Line
line_of bytes = record { bytes = bytes; kind = reading bytes }

-- the table and the speeds are those of the first n lines
pub record Follows (lines : List Line) (n : ℕ) (t : Table) (speeds : BTreeMap ℕ ℤ) : Type 0 where
  pub table : IsTable (take n lines) t.number (count_of t.counts) (place_of t.places)
  pub known : (event : ℕ) → get nat_cmp speeds event ≡ speed_at (take n lines) event
  pub bounded : (event : ℕ) → IfSome (speed_at (take n lines) event) (λ s. nat_abs s ≤ 999999)

pub record IsReading (rate : Rate) (lines : List Line) (n : ℕ) (r : Reading) : Type 0 where
  pub reads : Reads rate lines n r.state r.events.items
  pub follows : Follows lines n r.table r.speeds

-- what holds behind the line at n, or why the first round ends with it
abbrev pub After : Rate → List Line → ℕ → Result (Unit {0}) (Fail ListKind) → Reading → Type 0
After rate lines n (Ok u) r = IsReading rate lines (n + 1) r
After rate lines n (Err (Fault kind)) r = first_round rate lines ≡ Some (refusal (n + 1) kind)
After rate lines n (Err NoMemory) r = Unit {0}

-- a line is read behind those before it, in each text where it is the next
abbrev pub ReadsLine : Rate → Line → Reading → Result (Unit {0}) (Fail ListKind) → Reading → Type 0
ReadsLine rate line before answer after =
    (lines : List Line) → slice_get lines before.state.lines ≡ Some line → IsReading rate lines before.state.lines before
    → After rate lines before.state.lines answer after

-- a table with one more event line, or none
abbrev pub IsAdded : Option Head → ℕ → Table → Table → Type 0
IsAdded None place old new =
    (new.number ≡ old.number) × HasCounts new (count_of old.counts) × HasPlaces new (place_of old.places)
IsAdded (Some head) place old new =
    (new.number ≡ Some head.number) × HasCounts new (line_counts old head.number head.reel)
    × HasPlaces new (line_places old head.number place head.reel)

-- the speed of an event line behind a motion line for the line at a place
abbrev pub noted : Option ℤ → ℕ → ℤ → ℕ → Option ℤ
noted old place speed event = if place == event then Some (unwrap_or old speed) else old

abbrev pub set_speed : Option ℤ → EventRec → EventRec
set_speed speed e = record {
  line = e.line;
  number = e.number;
  reel = e.reel;
  src_mode = e.src_mode;
  src_in = e.src_in;
  src_out = e.src_out;
  rec_in = e.rec_in;
  rec_out = e.rec_out;
  speed = speed;
  transition = e.transition;
}

-- an event with the speed of its line's place
abbrev pub with_speed_of : (ℕ → Option ℤ) → EventRec → EventRec
with_speed_of speed e = set_speed (speed (e.line - 1)) e

-- the same, from the map
abbrev pub spoken : BTreeMap ℕ ℤ → EventRec → EventRec
spoken speeds = with_speed_of (get nat_cmp speeds)
