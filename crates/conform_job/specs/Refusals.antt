-- Why a job is refused.
--     unknown_reel p      the first event whose reel is neither black nor in the table
--     ask_refusal p files ask      what is refused of a source frame, by its file in the files
--     told_refusal p      that of the project and the list alone: a bad cut, or else an unknown reel
--     first_refusal p files      the first refusal: that, or else that of the first ask that has one
use Rattle.std.specs.Prelude.{ℕ, ℤ, Bool, not, is_none, ◌&&◌, ◌==◌, if◌then◌else◌, List, slice_get, find, filter_map, Option, Some, None, option_and_then, Result, Ok, Err}
use Rattle.std.specs.Option.{option_map, option_or}
use Rattle.cf_base.specs.Events.{is_black_reel}
use Rattle.cf_base.specs.declared.event.EventRec.{EventRec}
use Rattle.cf_base.specs.declared.key.Key.{Key}
use Rattle.cf_base.specs.declared.reel.ReelEntry.{ReelEntry}
use Rattle.dpx_header.specs.declared.fault.DpxFault.{DpxFault}
use Rattle.dpx_header.specs.declared.info.FrameInfo.{FrameInfo}
use Rattle.source_reels.specs.Reels.{reel_place, path_of_key}
use Rattle.source_reels.specs.Seen.{info_of_file}
use Rattle.conform_job.specs.declared.frames.Ask.{Ask}
use Rattle.conform_job.specs.Asks.{asks_of}
use Rattle.conform_job.specs.Cuts.{bad_cut}
use Rattle.conform_job.specs.Keys.{key_of_ask}
use Rattle.conform_job.specs.declared.frames.Named.{Named}
use Rattle.conform_job.specs.declared.parts.JobParts.{JobParts}
use Rattle.conform_job.specs.declared.parts.JobFault.{JobFault}
use Rattle.conform_job.specs.declared.parts.JobFault.TheVariants.{UnknownReel, MissingFrame, BadFrame, Geometry}

abbrev pub is_unknown : List ReelEntry → EventRec → Bool
is_unknown entries e = not (is_black_reel e.reel) && is_none (reel_place entries e.reel)

abbrev pub unknown_of : List ReelEntry → List EventRec → Option JobFault
unknown_of entries events = option_map (λ (e : EventRec). UnknownReel e.line) (find (is_unknown entries) events)

abbrev pub info_refusal : Named → ℕ → ℕ → Result FrameInfo DpxFault → Option JobFault
info_refusal n width height (Err fault) = Some (BadFrame n.line n.reel n.source fault)
info_refusal n width height (Ok info) = if info.width == width && info.height == height then None else Some
    (Geometry n.line n.reel n.source)

abbrev pub file_refusal : Named → ℕ → ℕ → Option (List ℕ) → Option JobFault
file_refusal n width height None = Some (MissingFrame n.line n.reel n.source)
file_refusal n width height (Some bytes) = info_refusal n width height (info_of_file bytes)

-- what stands at each path
abbrev pub Files : Type 0
Files = List ℕ → Option (List ℕ)

-- the file of a key
abbrev pub file_of_key : List ReelEntry → Files → Key → Option (List ℕ)
file_of_key entries files key = option_and_then files (path_of_key entries key)

-- the refusal of a source frame with this key, if it has one
abbrev pub key_refusal : JobParts → Files → Named → Option Key → Option JobFault
key_refusal p files n key = file_refusal n p.project.width p.project.height (option_and_then (file_of_key p.reels files) key)

abbrev pub named_by : EventRec → ℤ → Named
named_by e source = record { line = e.line; reel = e.reel; source = source }

abbrev pub name_of_ask : List EventRec → Ask → Option Named
name_of_ask events ask = option_map (λ (e : EventRec). named_by e ask.source) (slice_get events ask.event)

abbrev pub ask_refusal : JobParts → Files → Ask → Option JobFault
ask_refusal p files ask = option_and_then (λ (n : Named). key_refusal p files n (key_of_ask p.reels p.timeline.events ask))
    (name_of_ask p.timeline.events ask)

-- that of the first ask that has one
abbrev pub asks_refusal : JobParts → Files → List Ask → Option JobFault
asks_refusal p files asks = slice_get (filter_map (ask_refusal p files) asks) 0

-- that of the first source frame that the timeline asks for and that has one
abbrev pub frames_refusal : JobParts → Files → Option JobFault
frames_refusal p files = asks_refusal p files (asks_of p.timeline)

abbrev pub told_refusal : JobParts → Option JobFault
told_refusal p = option_or (bad_cut p) (unknown_of p.reels p.timeline.events)

abbrev pub first_refusal : JobParts → Files → Option JobFault
first_refusal p files = option_or (told_refusal p) (frames_refusal p files)
