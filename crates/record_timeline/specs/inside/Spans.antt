-- The record spans of a list's lines, as a timeline keeps them.
--     span_by place e      the span of a line that has record frames
--     spans_of events      the spans of a list, in its order
--     IsSortedSpans events spans      these spans by record in
--     AreApart spans front      those of the first lines of the list don't meet
use Rattle.std.specs.Prelude.{◌≡◌, ℕ, ◌<◌, ◌≤◌, nat_lt, if◌then◌else◌, List, length, slice_get, Option, Some, None}
use Rattle.std.specs.List.{filter_map, enumerate_from}
use Rattle.std.specs.List.Sorted.{IsPermutation, IsNonDecreasingBy}
use Rattle.cf_base.specs.declared.timing.Rate.{Rate}
use Rattle.cf_base.specs.declared.timing.Mode.{Mode}
use Rattle.cf_base.specs.declared.event.EventRec.{EventRec}
use Rattle.record_timeline.specs.declared.spans.RecordSpan.{RecordSpan}
use Rattle.record_timeline.specs.Accepted.{IsAccepted, first_frame, frame_count, overlap_at}

abbrev pub span_by : ℕ → EventRec → Option RecordSpan
span_by place e = if nat_lt e.rec_in e.rec_out then Some (record { rec_in = e.rec_in; rec_out = e.rec_out; place = place }) else None

abbrev pub spans_of : List EventRec → List RecordSpan
spans_of events = filter_map (λ (p : ℕ × EventRec). span_by p.0 p.1) (enumerate_from 0 events)

pub record IsSortedSpans (events : List EventRec) (spans : List RecordSpan) : Type 0 where
  pub same : IsPermutation (spans_of events) spans
  pub sorted : IsNonDecreasingBy (λ (s : RecordSpan). s.rec_in) spans

-- of the spans before `high`, those of the lines before place `front` end where a later one begins, or before
abbrev pub ApartBelow : List RecordSpan → ℕ → ℕ → Type 0
ApartBelow spans front high = (a b : ℕ) (s t : RecordSpan) → a < b → b < high
    → slice_get spans a ≡ Some s → slice_get spans b ≡ Some t → s.place < front → t.place < front → s.rec_out ≤ t.rec_in

abbrev pub AreApart : List RecordSpan → ℕ → Type 0
AreApart spans front = ApartBelow spans front (length spans)

-- no line before a place shares a frame with an earlier one
abbrev pub NoOverlapBefore : List EventRec → ℕ → Type 0
NoOverlapBefore events front = (k : ℕ) (e : EventRec) → k < front → slice_get events k ≡ Some e → overlap_at events k e ≡ None

-- what holds of a timeline: its events are accepted, and what it keeps beside them is theirs
pub record IsTimeline (rate : Rate) (mode : Mode) (events : List EventRec) (spans : List RecordSpan) (first count : ℕ) : Type 0 where
  pub accepted : IsAccepted rate mode events
  pub sorted : IsSortedSpans events spans
  pub begins : first ≡ first_frame events
  pub lasts : count ≡ frame_count events
