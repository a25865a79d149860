-- The source frames that a timeline asks for, in the order of its record frames.
-- * asks, refusals [Refusals]: the source frames that each record frame asks for, in order; the first that is refused, and why
--     sides_of shot      the sides of a shot, the old one before the new
--     asks_at t i      what record frame i asks for, from 0
--     asks_of t      what all record frames ask for, in order
use Rattle.std.specs.Prelude.{ℕ, ◌+◌, List, [], ◌∷◌, flat_map}
use Rattle.std.specs.List.{range_with_len}
use Rattle.record_timeline.specs.declared.Side.{Side}
use Rattle.record_timeline.specs.declared.Side.TheVariants.{Black, Frame}
use Rattle.record_timeline.specs.declared.Shot.{Shot}
use Rattle.record_timeline.specs.declared.Shot.TheVariants.{Gap, One, Two}
use Rattle.record_timeline.specs.Accepted.{RecordReel, first_frame, frame_count}
use Rattle.record_timeline.specs.Shots.{shot_of}
use Rattle.conform_job.specs.declared.frames.Ask.{Ask}

abbrev pub sides_of : Shot → List Side
sides_of Gap = []
sides_of (One side) = side ∷ []
sides_of (Two old new transition k d) = old ∷ new ∷ []

abbrev pub asks_of_side : Side → List Ask
asks_of_side Black = []
asks_of_side (Frame event source) = record { event = event; source = source } ∷ []

abbrev pub asks_of_shot : Shot → List Ask
asks_of_shot shot = flat_map asks_of_side (sides_of shot)

abbrev pub shot_of_frame : RecordReel → ℕ → Shot
shot_of_frame t i = shot_of t.rate t.events (first_frame t.events + i)

abbrev pub asks_at : RecordReel → ℕ → List Ask
asks_at t i = asks_of_shot (shot_of_frame t i)

-- from record frame i on, so many
abbrev pub asks_from : RecordReel → ℕ → ℕ → List Ask
asks_from t i count = flat_map (asks_at t) (range_with_len i count)

unfoldable pub asks_of : RecordReel → List Ask
asks_of t = asks_from t 0 (frame_count t.events)
