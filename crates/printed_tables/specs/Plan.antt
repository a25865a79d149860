-- The plan of a job, as it is printed: what each record frame shows, and from which source frames. The text is this project's
-- own rule.
-- * plan of a job: the line of each record frame, and their number; where the record is cut, a line before each reel's first
--   frame
--     plan_of parts      one line for each record frame, and the line of their number; where the record is cut, a line before
--       each reel's first frame
use Rattle.std.specs.Prelude.{ℕ, ◌+◌, ◌&&◌, ◌==◌, nat_lt, Bool, if◌then◌else◌, length, List, [], ◌∷◌, ◌++◌, codes, decimal, slice_get, unwrap_or}
use Rattle.std.specs.Fmt.{signed_decimal}
use Rattle.std.specs.List.{flat_map, range_with_len}
use Rattle.std.specs.Option.{option_map}
use Rattle.cf_base.specs.Digits.{digits}
use Rattle.cf_base.specs.declared.event.EventRec.{EventRec}
use Rattle.cf_base.specs.declared.event.Transition.{Transition}
use Rattle.cf_base.specs.declared.event.Transition.TheVariants.{Cut, Dissolve, Wipe}
use Rattle.record_timeline.specs.Accepted.{RecordReel, first_frame, frame_count}
use Rattle.record_timeline.specs.declared.Side.{Side}
use Rattle.record_timeline.specs.declared.Side.TheVariants.{Black, Frame}
use Rattle.record_timeline.specs.declared.Shot.{Shot}
use Rattle.record_timeline.specs.declared.Shot.TheVariants.{Gap, One, Two}
use Rattle.conform_job.specs.Asks.{shot_of_frame}
use Rattle.conform_job.specs.Cuts.{record_reel, reel_span}
use Rattle.conform_job.specs.declared.parts.JobParts.{JobParts}
use Rattle.printed_text.specs.Text.{ended, spaced, spaced_line}
use Rattle.printed_tables.specs.Table.{label_word}

-- the name of an event's reel
abbrev pub reel_at : List EventRec → ℕ → List ℕ
reel_at events i = unwrap_or (option_map (λ (e : EventRec). e.reel) (slice_get events i)) []

-- the reel and the number of a source frame, or `BL`
abbrev pub side_text : List EventRec → Side → List ℕ
side_text events Black = codes "BL"
side_text events (Frame event source) = spaced (reel_at events event ∷ signed_decimal source ∷ [])

-- `D`, or `W` and the three digits of the wipe
abbrev pub kind_word : Transition → List ℕ
kind_word Cut = codes "C"
kind_word (Dissolve d) = codes "D"
kind_word (Wipe code d) = codes "W" ++ digits 3 code

-- `BL` for a gap; a side; or the transition, its frame k of d, the old side and the new side
abbrev pub shot_text : List EventRec → Shot → List ℕ
shot_text events Gap = codes "BL"
shot_text events (One side) = side_text events side
shot_text events (Two old new transition k d) =
    spaced (kind_word transition ∷ (decimal k ++ codes "/" ++ decimal d) ∷ side_text events old ∷ side_text events new ∷ [])

-- the record label of frame i (SMPTE ST 12-1), and what it shows
unfoldable pub frame_line : RecordReel → ℕ → List ℕ
frame_line t i = spaced_line (label_word t.rate t.mode (first_frame t.events + i) ∷ shot_text t.events (shot_of_frame t i) ∷ [])

-- the record is cut, and frame i is the first of its reel
abbrev pub begins_reel : JobParts → ℕ → Bool
begins_reel p i = nat_lt 0 (length p.project.cuts) && i == (reel_span p (record_reel p i)).start

abbrev pub reel_text : JobParts → ℕ → List ℕ
reel_text p i = spaced_line (codes "reel" ∷ decimal (record_reel p i) ∷ [])

unfoldable pub reel_line : JobParts → ℕ → List ℕ
reel_line p i = if begins_reel p i then reel_text p i else []

unfoldable pub plan_line : JobParts → ℕ → List ℕ
plan_line p i = reel_line p i ++ frame_line p.timeline i

unfoldable pub plan_of : JobParts → List ℕ
plan_of p = flat_map (plan_line p) (range_with_len 0 (frame_count p.timeline.events))
    ++ ended (codes "frames " ++ decimal (frame_count p.timeline.events))
