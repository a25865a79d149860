-- Lines of a frame's picture, as they are made: words of private clauses.
--     HasColours job colour line      a line of pixel words whose columns have these colours
--     joined_colour job transition k d y old new      what a transition makes of a line of its sides
--     lines_from job shot old new first count      the bytes of so many lines from one on
use Rattle.std.specs.Prelude.{◌≡◌, ℕ, ◌+◌, ◌*◌, ◌<◌, List, length, flat_map, slice_index, EachIndex, Option}
use Rattle.std.specs.List.{range_with_len}
use Rattle.byteorder.specs.Endian.{big_bytes}
use Rattle.cf_base.specs.declared.event.Transition.{Transition}
use Rattle.dpx_pack.specs.Pixels.{word_codes}
use Rattle.record_timeline.specs.declared.Shot.{Shot}
use Rattle.conform_job.specs.Job.{JobData}
use Rattle.frame_render.specs.Frame.{line_words, transition_colour}

pub record HasColours (job : JobData) (colour : ℕ → List ℕ) (line : List ℕ) : Type 0 where
  pub wide : length line ≡ job.parts.project.width
  pub each : (x : ℕ) → x < job.parts.project.width → word_codes (slice_index line x) ≡ colour x

-- what a transition makes of line y of its sides, from their words
abbrev pub joined_colour : JobData → Transition → (k d y : ℕ) → (old new : List ℕ) → ℕ → List ℕ
joined_colour job transition k d y old new x =
    transition_colour job.parts.project.width job.parts.project.height transition k d x y
    (word_codes (slice_index old x)) (word_codes (slice_index new x))

-- a part stands in the whole from there on
abbrev pub StandsAt : ℕ → (part whole : List ℕ) → Type 0
StandsAt start part whole = EachIndex part (λ k. slice_index part k ≡ slice_index whole (start + k))

-- how many bytes a line has
abbrev pub stride : JobData → ℕ
stride job = 4 * job.parts.project.width

unfoldable pub lines_from : JobData → Shot → (old new : Option (List ℕ)) → (first count : ℕ) → List ℕ
lines_from job shot old new first count =
    flat_map (λ y. flat_map (big_bytes 4) (line_words job shot old new y)) (range_with_len first count)
