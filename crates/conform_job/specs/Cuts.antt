-- The record reels of a job: a project's cuts part its record, and each cut is the first frame of a reel. All of it is this
-- project's own rule; labels are those of SMPTE ST 12-1.
-- * cuts, record reels: a cut is a label above the one before it, and the first above the record's first frame, and below the
--   record's end; the first that isn't is refused. The record reel of a frame is one more than the number of cuts at or below
--   it; a reel's span goes from its cut to the next one. Law: a reel's span has just the frames of the reel
--     bad_cut p      the first cut that is refused
--     record_reel p i      the record reel of record frame i, from 1
--     reel_span p reel      the record frames of a reel
--     HasFramesOf p reel span      what that is: a reel's span has just the frames of the reel
use Rattle.std.specs.Prelude.{◌≡◌, ◌↔◌, ℕ, ◌+◌, ◌-◌, ◌<◌, ◌≤◌, nat_lt, nat_le, Bool, false, not, ◌&&◌, List, [], ◌∷◌, ◌++◌, length, map, filter_map, find, slice_index, Option, Some}
use Rattle.std.specs.List.{count_by, enumerate_from, zip}
use Rattle.std.specs.Option.{option_map}
use Rattle.cf_base.specs.declared.lines.Span.{Span}
use Rattle.project_file.specs.Projects.{label_number}
use Rattle.record_timeline.specs.Accepted.{RecordReel, first_frame, frame_count}
use Rattle.conform_job.specs.declared.parts.JobParts.{JobParts}
use Rattle.conform_job.specs.declared.parts.JobFault.{JobFault}
use Rattle.conform_job.specs.declared.parts.JobFault.TheVariants.{BadCut}

-- the frame number of a cut, whose text is a label in the rate and the mode of the record
abbrev pub cut_number : JobParts → List ℕ → Option ℕ
cut_number p text = label_number p.timeline.rate p.timeline.mode text

-- the frame number behind the record's last
abbrev pub record_end : RecordReel → ℕ
record_end t = first_frame t.events + frame_count t.events

-- ---- which cuts are refused

-- a cut is a label above the one before it, and below the record's end
abbrev pub is_in_turn : ℕ → (before cut : Option ℕ) → Bool
is_in_turn end (Some before) (Some cut) = nat_lt before cut && nat_lt cut end
is_in_turn end before cut = false

-- each cut beside the one before it; before the first stands the first record frame
abbrev pub neighbours : ℕ → List (Option ℕ) → List (Option ℕ × Option ℕ)
neighbours first cuts = zip (Some first ∷ cuts) cuts

-- the first that isn't in turn; the first of them all has this number
abbrev pub bad_cut_among : (number first end : ℕ) → List (Option ℕ) → Option JobFault
bad_cut_among number first end cuts =
    option_map (λ (p : ℕ × (Option ℕ × Option ℕ)). BadCut p.0)
    (find (λ (p : ℕ × (Option ℕ × Option ℕ)). not (is_in_turn end p.1.0 p.1.1)) (enumerate_from number (neighbours first cuts)))

unfoldable pub bad_cut : JobParts → Option JobFault
bad_cut p = bad_cut_among 1 (first_frame p.timeline.events) (record_end p.timeline) (map (cut_number p) p.project.cuts)

-- ---- the reels

abbrev pub cut_numbers : JobParts → List ℕ
cut_numbers p = filter_map (cut_number p) p.project.cuts

-- one reel more than cuts
abbrev pub reel_count : JobParts → ℕ
reel_count p = 1 + length p.project.cuts

-- one more than the number of cuts at or below the record frame
unfoldable pub record_reel : JobParts → ℕ → ℕ
record_reel p i = 1 + count_by (λ cut. nat_le cut (first_frame p.timeline.events + i)) (cut_numbers p)

-- the first reel begins with the record, and each other with its cut, where the one before it ends; the last ends with the record
abbrev pub reel_starts : JobParts → List ℕ
reel_starts p = first_frame p.timeline.events ∷ cut_numbers p

abbrev pub reel_ends : JobParts → List ℕ
reel_ends p = cut_numbers p ++ record_end p.timeline ∷ []

-- the record frames of a reel, counted from 0 in the record, the end excluded
unfoldable pub reel_span : JobParts → ℕ → Span
reel_span p reel = record {
  start = slice_index (reel_starts p) (reel - 1) - first_frame p.timeline.events;
  end = slice_index (reel_ends p) (reel - 1) - first_frame p.timeline.events;
}

abbrev pub IsWithin : ℕ → Span → Type 0
IsWithin i span = (span.start ≤ i) × (i < span.end)

-- just the record frames of the reel are within the span
abbrev pub HasFramesOf : JobParts → ℕ → Span → Type 0
HasFramesOf p reel span = (i : ℕ) → i < frame_count p.timeline.events → (record_reel p i ≡ reel) ↔ IsWithin i span
