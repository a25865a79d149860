-- Worked frames, by computation: the desk job has ten frames, a gap of two, and a dissolve of four frames into twelve.
use Rattle.std.proofs.Common.{◌≡◌, ℕ, ◌*◌, pos, refl, sym, ap, List, [], ◌∷◌, ◌++◌, map, Option, lit≤, false}
use Rattle.std.specs.Prelude.{codes, Some, None}
use Rattle.std.specs.List.{range_with_len}
use Rattle.std.specs.Map.{lookup}
use Rattle.std.specs.Str.{bytes_eq}
use Rattle.cf_base.specs.declared.timing.Rate.TheVariants.{R24}
use Rattle.cf_base.specs.declared.timing.Mode.TheVariants.{NonDrop}
use Rattle.cf_base.specs.declared.event.Transition.TheVariants.{Dissolve, Wipe}
use Rattle.cf_base.specs.declared.fixed.Fixed.{Fixed}
use Rattle.cf_base.specs.declared.reel.ReelEntry.{ReelEntry}
use Rattle.cf_base.specs.Digits.{frame_file_name}
use Rattle.byteorder.specs.Endian.{big_bytes}
use Rattle.cf_timecode.specs.Spelling.{bcd_of}
use Rattle.cf_timecode.proofs.Laws.{reached_by}
use Rattle.dpx_header.specs.Writing.{header_of, header_fields, laid, all_laid, u16, u32, undefined, text}
use Rattle.dpx_pack.specs.Pixels.{colour_word, line, lines}
use Rattle.tetra_look.specs.Look.{Lattice}
use Rattle.scan_source.specs.Answers.{first_bytes}
use Rattle.source_reels.specs.Reels.{path_text}
use Rattle.record_timeline.specs.declared.Side.TheVariants.{Black, Frame}
use Rattle.record_timeline.specs.declared.Shot.{Shot}
use Rattle.record_timeline.specs.declared.Shot.TheVariants.{Gap, One, Two}
use Rattle.conform_job.specs.Asks.{shot_of_frame}
use Rattle.conform_job.specs.Job.{JobData}
use Rattle.conform_job.specs.Refusals.{Files}
use Rattle.conform_job.specs.Cuts.{record_reel, reel_span}
use Rattle.frame_render.specs.Frame.{line_words, new_words, old_words, out_head, timecode_of, words_of_key}
use Rattle.record_timeline.proofs.Samples.{desk}

abbrev reel : List ℕ → List ℕ → ℕ → ReelEntry
reel name prefix start = record { name = name; prefix = prefix; start = start; day = 2073600; frames = 48; file = start }

abbrev a001 : ReelEntry
a001 = reel (codes "A001") (codes "a001/a001.") 86400

abbrev b002 : ReelEntry
b002 = reel (codes "B002") (codes "b002/b002.") 172800

-- the desk's timeline over pictures of this size, with black 7, 8, 9, cut so
abbrev cut_job : (w h : ℕ) → Option Lattice → List (List ℕ) → JobData
cut_job w h look cuts = record {
  parts = record {
    digest = [];
    project = record { title = codes "DESK"; rate = R24; width = w; height = h; black = record { r = 7; g = 8; b = 9; r_in_range = lit≤ tt; g_in_range = lit≤ tt; b_in_range = lit≤ tt }; bands = 4; edl = codes "desk.edl"; cube = None; reels = a001 ∷ b002 ∷ []; cuts = cuts };
    reels = a001 ∷ b002 ∷ [];
    timeline = record { rate = R24; mode = NonDrop; events = desk (codes "A001") (codes "B002") };
    look = look;
  };
  infos = [];
}

abbrev job : (w h : ℕ) → Option Lattice → JobData
job w h look = cut_job w h look []

abbrev grey : ℕ → ℕ
grey code = colour_word (code ∷ code ∷ code ∷ [])

-- one pixel of a shot of the codes 100 and 200
abbrev shown : Shot → List ℕ
shown shot = line_words (job 1 1 None) shot (Some (grey 100 ∷ [])) (Some (grey 200 ∷ [])) 0

cut : shown (One (Frame 0 (pos 86400))) ≡ grey 200 ∷ []
cut = refl

-- a gap is the project's black
gap : shown Gap ≡ colour_word (7 ∷ 8 ∷ 9 ∷ []) ∷ []
gap = refl

dissolve : map (λ k. shown (Two Black Black (Dissolve 4) k 4)) (range_with_len 0 4)
    ≡ (grey 113 ∷ []) ∷ (grey 138 ∷ []) ∷ (grey 163 ∷ []) ∷ (grey 188 ∷ []) ∷ []
dissolve = refl

-- four pixels of a wipe, 1 to 4 on the old side and 11 to 14 on the new
abbrev wiped : (w h code d k y : ℕ) → List ℕ
wiped w h code d k y =
    line_words (job w h None) (Two Black Black (Wipe code d) k d)
    (Some (map grey (range_with_len 1 4))) (Some (map grey (range_with_len 11 4))) y

edge_first : wiped 4 1 1 2 0 0 ≡ map grey (11 ∷ 2 ∷ 3 ∷ 4 ∷ [])
edge_first = refl

edge_second : wiped 4 1 1 2 1 0 ≡ map grey (11 ∷ 12 ∷ 13 ∷ 4 ∷ [])
edge_second = refl

diamond : wiped 2 2 102 1 0 0 ++ wiped 2 2 102 1 0 1 ≡ map grey (1 ∷ 2 ∷ 3 ∷ 4 ∷ [])
diamond = refl

corner_first : wiped 2 2 41 2 0 0 ++ wiped 2 2 41 2 0 1 ≡ map grey (1 ∷ 2 ∷ 3 ∷ 4 ∷ [])
corner_first = refl

corner_second : wiped 2 2 41 2 1 0 ++ wiped 2 2 41 2 1 1 ≡ map grey (11 ∷ 12 ∷ 13 ∷ 4 ∷ [])
corner_second = refl

abbrev whole : ℕ → Fixed
whole n = record { 0 = pos (n * 1000000000) }

-- each code as 1023 less it
abbrev inverted : Lattice
inverted = record {
  is_3d = false;
  size = 2;
  low = whole 0 ∷ whole 0 ∷ whole 0 ∷ [];
  high = whole 1 ∷ whole 1 ∷ whole 1 ∷ [];
  entries = (65472 ∷ 65472 ∷ 65472 ∷ []) ∷ (0 ∷ 0 ∷ 0 ∷ []) ∷ [];
}

under_look : line_words (job 1 1 (Some inverted)) (One (Frame 0 (pos 86400))) None (Some (grey 100 ∷ [])) 0 ≡ grey 923 ∷ []
under_look = refl

black_under_look : line_words (job 1 1 (Some inverted)) Gap None None 0 ≡ colour_word (1016 ∷ 1015 ∷ 1014 ∷ []) ∷ []
black_under_look = refl

-- the old side runs past its out point, to the frames 86411 to 86413
runs_on : shot_of_frame (job 1 1 None).parts.timeline 15 ≡ Two (Frame 1 (pos 86413)) (Frame 2 (pos 172803)) (Dissolve 4) 3 4
runs_on = refl

-- a file of one pixel of this code
abbrev scan : ℕ → List ℕ
scan code = header_of (record { width = 1; height = 1; reel = 1; frame = 0; position = 0; length = 1; timecode = None; title = [] })
    ++ big_bytes 4 (grey code)

abbrev files : Files
files path = lookup (bytes_eq path) ((path_text a001 13, scan 100) ∷ (path_text b002 3, scan 200) ∷ [])

old_side : old_words (job 1 1 None) files (shot_of_frame (job 1 1 None).parts.timeline 15) ≡ Some (grey 100 ∷ [])
unfolding words_of_key path_text first_bytes line lines laid all_laid u16 u32 undefined text frame_file_name header_of header_fields
old_side = refl

new_side : new_words (job 1 1 None) files (shot_of_frame (job 1 1 None).parts.timeline 15) ≡ Some (grey 200 ∷ [])
unfolding words_of_key path_text first_bytes line lines laid all_laid u16 u32 undefined text frame_file_name header_of header_fields
new_side = refl

-- frame 12's place in the day, in the reel, and the reel's length
number : (out_head (job 1 1 None) 12).frame ≡ 86412
number = refl

position : (out_head (job 1 1 None) 12).position ≡ 12
unfolding record_reel reel_span
position = refl

frames : (out_head (job 1 1 None) 12).length ≡ 24
unfolding record_reel reel_span
frames = refl

name : frame_file_name (out_head (job 1 1 None) 12).reel (out_head (job 1 1 None) 12).frame ≡ codes "r001.0086412.dpx"
unfolding record_reel frame_file_name
name = refl

-- the same where frame 12 begins the second reel
abbrev two_reels : JobData
two_reels = cut_job 1 1 None (codes "01:00:00:12" ∷ [])

first_reel : (out_head two_reels 11).reel ≡ 1
unfolding record_reel
first_reel = refl

first_end : (out_head two_reels 11).position ≡ 11
unfolding record_reel reel_span
first_end = refl

second_start : (out_head two_reels 12).position ≡ 0
unfolding record_reel reel_span
second_start = refl

second_length : (out_head two_reels 12).length ≡ 12
unfolding record_reel reel_span
second_length = refl

second_name : frame_file_name (out_head two_reels 12).reel (out_head two_reels 12).frame ≡ codes "r002.0086412.dpx"
unfolding record_reel frame_file_name
second_name = refl

-- 01:00:00:12, that is 01000012 hexadecimal
timecode : timecode_of (job 1 1 None) 86412 ≡ 16777234
timecode = ap bcd_of (sym (reached_by R24 NonDrop tt 86412 (record { h = 1; m = 0; s = 0; f = 12 }) refl refl refl))
