-- Worked jobs, by computation: the desk job has ten frames, a gap of two, and a dissolve of four frames into twelve.
use Rattle.std.proofs.Common.{◌≡◌, ℕ, ◌*◌, pos, refl, List, [], ◌∷◌, ◌++◌, length, map, take, drop, replicate, Option, false, lit≤}
use Rattle.std.specs.Prelude.{codes, Some, None}
use Rattle.std.specs.List.{range_with_len}
use Rattle.std.specs.Option.{option_map}
use Rattle.cf_base.specs.declared.timing.Rate.TheVariants.{R24}
use Rattle.cf_base.specs.declared.timing.Mode.TheVariants.{NonDrop}
use Rattle.cf_base.specs.declared.event.Transition.{Transition}
use Rattle.cf_base.specs.declared.event.Transition.TheVariants.{Cut, Dissolve}
use Rattle.cf_base.specs.declared.event.EventRec.{EventRec}
use Rattle.cf_base.specs.declared.key.Key.{Key}
use Rattle.cf_base.specs.declared.reel.ReelEntry.{ReelEntry}
use Rattle.std.specs.Map.{lookup}
use Rattle.std.specs.Str.{bytes_eq}
use Rattle.cf_base.specs.Digits.{frame_file_name}
use Rattle.dpx_header.specs.declared.fault.DpxFault.TheVariants.{Depth}
use Rattle.dpx_header.specs.declared.info.FrameInfo.{FrameInfo}
use Rattle.dpx_header.specs.Writing.{header_of, header_fields, laid, all_laid, u16, u32, undefined, text}
use Rattle.scan_source.specs.Answers.{first_bytes}
use Rattle.source_reels.specs.Reels.{path_text}
use Rattle.conform_job.specs.declared.parts.JobParts.{JobParts}
use Rattle.conform_job.specs.declared.parts.JobFault.{JobFault}
use Rattle.conform_job.specs.declared.parts.JobFault.TheVariants.{BadCut, UnknownReel, MissingFrame, BadFrame, Geometry}
use Rattle.conform_job.specs.Asks.{asks_of, asks_at}
use Rattle.conform_job.specs.Cuts.{bad_cut, record_reel, reel_span}
use Rattle.conform_job.specs.Digest.{sized, sized_cube}
use Rattle.conform_job.specs.Job.{need_at, JobData}
use Rattle.conform_job.specs.declared.need.Need.{Need}
use Rattle.conform_job.specs.Refusals.{Files, first_refusal}

abbrev event : ℕ → ℕ → List ℕ → ℕ → ℕ → ℕ → ℕ → Transition → EventRec
event line number reel src_in src_out rec_in rec_out transition = record { line = line; number = number; reel = reel; src_mode = NonDrop; src_in = src_in; src_out = src_out; rec_in = rec_in; rec_out = rec_out; speed = None; transition = transition }

abbrev reel : List ℕ → List ℕ → ℕ → ℕ → ReelEntry
reel name prefix start frames = record { name = name; prefix = prefix; start = start; day = 2073600; frames = frames; file = start }

abbrev reels : ℕ → List ReelEntry
reels frames = reel (codes "A001") (codes "a001/a001.") 86400 frames ∷ reel (codes "B002") (codes "b002/b002.") 172800 48 ∷ []

abbrev events : List EventRec
events = event 4 1 (codes "A001") 86400 86410 86400 86410 Cut
    ∷ event 7 3 (codes "A001") 86410 86410 86412 86412 Cut
    ∷ event 8 3 (codes "B002") 172800 172812 86412 86424 (Dissolve 4)
    ∷ []

abbrev cut_desk : List (List ℕ) → ℕ → List EventRec → JobParts
cut_desk cuts frames events = record {
  digest = [];
  project = record { title = codes "DESK"; rate = R24; width = 2; height = 2; black = record { r = 0; g = 0; b = 0; r_in_range = lit≤ tt; g_in_range = lit≤ tt; b_in_range = lit≤ tt }; bands = 4; edl = codes "desk.edl"; cube = None; reels = reels frames; cuts = cuts };
  reels = reels frames;
  timeline = record { rate = R24; mode = NonDrop; events = events };
  look = None;
}

abbrev desk : ℕ → List EventRec → JobParts
desk frames events = cut_desk [] frames events

asked : length (asks_of (record { rate = R24; mode = NonDrop; events = events })) ≡ 26
unfolding asks_of
asked = refl

both : asks_at (record { rate = R24; mode = NonDrop; events = events }) 13 ≡ record { event = 1; source = pos 86411 } ∷ record { event = 2; source = pos 172801 } ∷ []
both = refl

-- each info is of a 2 by 2 file without padding
abbrev info : FrameInfo
info = record { little = false; width = 2; height = 2; start = 2048; pad = 0 }

abbrev key : ℕ → ℕ → Key
key reel source = record { reel = reel; source = source }

abbrev planned : JobData
planned = record { parts = desk 48 events; infos = (key 0 86400, info) ∷ (key 0 86410, info) ∷ (key 1 172800, info) ∷ [] }

abbrev needs : Option Key → Option Key → Need
needs old new = record { old = option_map (λ (k : Key). (k, info)) old; new = option_map (λ (k : Key). (k, info)) new }

first_need : need_at planned 0 ≡ needs None (Some (key 0 86400))
first_need = refl

gap : need_at planned 10 ≡ needs None None
gap = refl

-- the old side is the one frame behind its line's last
dissolve : need_at planned 12 ≡ needs (Some (key 0 86410)) (Some (key 1 172800))
dissolve = refl

unknown : (files : Files) → first_refusal (desk 48 (event 4 1 (codes "A001") 0 1 0 1 Cut ∷ event 9 2 (codes "BL") 0 1 1 2 Cut ∷ event 11 2 (codes "C003") 0 1 2 3 Cut ∷ [])) files ≡ Some (UnknownReel 11)
unfolding bad_cut
unknown files = refl

-- the record begins at 01:00:00:00 and ends at 01:00:01:00
abbrev cut_refusal : List (List ℕ) → Option JobFault
cut_refusal cuts = bad_cut (cut_desk cuts 48 events)

two_reels : cut_refusal (codes "01:00:00:12" ∷ []) ≡ None
unfolding bad_cut
two_reels = refl

at_first_frame : cut_refusal (codes "01:00:00:00" ∷ []) ≡ Some (BadCut 1)
unfolding bad_cut
at_first_frame = refl

at_end : cut_refusal (codes "01:00:01:00" ∷ []) ≡ Some (BadCut 1)
unfolding bad_cut
at_end = refl

no_label : cut_refusal (codes "1" ∷ []) ≡ Some (BadCut 1)
unfolding bad_cut
no_label = refl

equal_cuts : cut_refusal (codes "01:00:00:12" ∷ codes "01:00:00:12" ∷ []) ≡ Some (BadCut 2)
unfolding bad_cut
equal_cuts = refl

-- the first that isn't in turn is named, though the next falls too
falls : cut_refusal (codes "01:00:00:12" ∷ codes "01:00:00:10" ∷ codes "x" ∷ []) ≡ Some (BadCut 2)
unfolding bad_cut
falls = refl

-- a cut comes before an unknown reel
cut_first : (files : Files) → first_refusal (cut_desk (codes "1" ∷ []) 48 (event 4 1 (codes "C003") 0 1 0 1 Cut ∷ [])) files ≡ Some (BadCut 1)
unfolding bad_cut
cut_first files = refl

abbrev cut : JobParts
cut = cut_desk (codes "01:00:00:12" ∷ codes "01:00:00:20" ∷ []) 48 events

last_of_first : record_reel cut 11 ≡ 1
unfolding record_reel
last_of_first = refl

first_of_second : record_reel cut 12 ≡ 2
unfolding record_reel
first_of_second = refl

last_of_third : record_reel cut 23 ≡ 3
unfolding record_reel
last_of_third = refl

spans : map (reel_span cut) (1 ∷ 2 ∷ 3 ∷ []) ≡ record { start = 0; end = 12 } ∷ record { start = 12; end = 20 } ∷ record { start = 20; end = 24 } ∷ []
unfolding reel_span
spans = refl

abbrev picture : ℕ → List ℕ
picture width = header_of (record { width = width; height = 2; reel = 1; frame = 86400; position = 0; length = 1; timecode = None; title = [] }) ++ replicate (8 * width) 0

abbrev files : ℕ → ℕ → ReelEntry → List (List ℕ × List ℕ)
files count width e = map (λ k. (path_text e k, picture width)) (range_with_len 0 count)

abbrev given : List (List ℕ × List ℕ) → Files
given all path = lookup (bytes_eq path) all

-- no file at all
none : first_refusal (desk 48 events) (given []) ≡ Some (MissingFrame 4 (codes "A001") (pos 86400))
unfolding asks_of bad_cut path_text first_bytes laid all_laid u16 u32 undefined text frame_file_name header_of header_fields
none = refl

-- the first frame has another size
size : first_refusal (desk 48 events) (given (files 1 3 (reel (codes "A001") (codes "a001/a001.") 86400 48))) ≡ Some (Geometry 4 (codes "A001") (pos 86400))
unfolding asks_of bad_cut path_text first_bytes laid all_laid u16 u32 undefined text frame_file_name header_of header_fields
size = refl

-- the table has no 14th frame, and the old side runs past its out point
runs_out : first_refusal (desk 13 events) (given (files 13 2 (reel (codes "A001") (codes "a001/a001.") 86400 48) ++ files 12 2 (reel (codes "B002") (codes "b002/b002.") 172800 48))) ≡ Some (MissingFrame 7 (codes "A001") (pos 86413))
unfolding asks_of bad_cut path_text first_bytes laid all_laid u16 u32 undefined text frame_file_name header_of header_fields
runs_out = refl

-- byte 803, the bit size, is 8
depth : first_refusal (desk 48 events) (given ((codes "a001/a001.0086400.dpx", take 803 (picture 2) ++ (8 ∷ drop 804 (picture 2))) ∷ [])) ≡ Some (BadFrame 4 (codes "A001") (pos 86400) Depth)
unfolding asks_of bad_cut path_text first_bytes laid all_laid u16 u32 undefined text frame_file_name header_of header_fields
depth = refl

sized_text : sized (codes "abc") ≡ 0 ∷ 0 ∷ 0 ∷ 0 ∷ 0 ∷ 0 ∷ 0 ∷ 3 ∷ codes "abc"
sized_text = refl

no_cube : sized_cube None ≡ 255 ∷ 255 ∷ 255 ∷ 255 ∷ 255 ∷ 255 ∷ 255 ∷ 255 ∷ []
no_cube = refl

empty_cube : sized_cube (Some []) ≡ 0 ∷ 0 ∷ 0 ∷ 0 ∷ 0 ∷ 0 ∷ 0 ∷ 0 ∷ []
empty_cube = refl
