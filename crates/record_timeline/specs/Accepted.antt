-- Which lists have a timeline. All rules here are this project's own.
-- * overlap, reel length [Parts]: the first line that shares a record frame with an earlier one, and the earliest such line;
--   from the least record in of a line of positive length to the greatest record out
--     share e f      whether two lines have a record frame in common
--     first_overlap events      the first line, in list order, that shares a record frame with an earlier one, and the earliest such one
--     first_frame events, end_frame events      the least record in of a line of positive length, and the greatest record out
--     timeline_of rate list      the timeline of a list, or its refusal
use Rattle.std.specs.Prelude.{◌≡◌, ℕ, ◌-◌, ◌≤◌, min, max, Bool, nat_lt, if◌then◌else◌, List, [], ◌∷◌, map, take, slice_get, Option, Some, None, Result, Ok, Err}
use Rattle.std.specs.Option.{option_map}
use Rattle.std.specs.List.{filter, filter_map, find, enumerate_from}
use Rattle.cf_base.specs.declared.limits.TheConstants.{FRAMES}
use Rattle.cf_base.specs.declared.timing.Rate.{Rate}
use Rattle.cf_base.specs.declared.timing.Mode.{Mode}
use Rattle.cf_base.specs.declared.event.EventRec.{EventRec}
use Rattle.cf_base.specs.declared.event.EventList.{EventList}
use Rattle.cf_base.specs.Events.{record_length, IsWellMade}
use Rattle.record_timeline.specs.declared.TimelineFault.{TimelineFault}
use Rattle.record_timeline.specs.declared.TimelineFault.TheVariants.{Overlap, TooLongReel}

-- from the later record in to the earlier record out
abbrev pub share : EventRec → EventRec → Bool
share e f = nat_lt (max e.rec_in f.rec_in) (min e.rec_out f.rec_out)

-- the earliest line before place i that shares a frame with e
abbrev pub overlap_at : List EventRec → ℕ → EventRec → Option TimelineFault
overlap_at events i e = option_map (λ (old : EventRec). Overlap e.line old.line) (find (share e) (take i events))

abbrev pub first_overlap : List EventRec → Option TimelineFault
first_overlap events = slice_get (filter_map (λ (p : ℕ × EventRec). overlap_at events p.0 p.1) (enumerate_from 0 events)) 0

abbrev pub least : List ℕ → ℕ
least [] = 0
least (n ∷ []) = n
least (n ∷ m ∷ more) = min n (least (m ∷ more))

abbrev pub greatest : List ℕ → ℕ
greatest [] = 0
greatest (n ∷ more) = max n (greatest more)

abbrev pub first_frame : List EventRec → ℕ
first_frame events = least (map (λ (e : EventRec). e.rec_in) (filter (λ (e : EventRec). nat_lt 0 (record_length e)) events))

abbrev pub end_frame : List EventRec → ℕ
end_frame events = greatest (map (λ (e : EventRec). e.rec_out) events)

abbrev pub frame_count : List EventRec → ℕ
frame_count events = end_frame events - first_frame events

-- a timeline, as contracts see it
pub record RecordReel : Type 0 where
  pub rate : Rate
  pub mode : Mode
  pub events : List EventRec

-- a shared frame is refused before the reel's length
abbrev pub unless_overlap : Option TimelineFault → Result RecordReel TimelineFault → Result RecordReel TimelineFault
unless_overlap None other = other
unless_overlap (Some fault) other = Err fault

abbrev pub timeline_of : Rate → EventList → Result RecordReel TimelineFault
timeline_of rate list =
    unless_overlap (first_overlap list.events)
    (if nat_lt FRAMES (frame_count list.events) then Err TooLongReel else Ok
    (record { rate = rate; mode = list.mode; events = list.events }))

-- what holds of every timeline
pub record IsAccepted (rate : Rate) (mode : Mode) (events : List EventRec) : Type 0 where
  pub made : IsWellMade rate mode events
  pub apart : first_overlap events ≡ None
  pub short : frame_count events ≤ FRAMES
