-- What the definitions come to for small jobs, by computation.
use Rattle.std.proofs.Common.{◌≡◌, ℕ, ◌<◌, ◌/◌, ◌%◌, ◌++◌, codes, refl, sym, ap, lit≤}
use Rattle.std.specs.Fmt.{digits}
use Rattle.cf_base.specs.declared.timing.Mode.TheVariants.{NonDrop}
use Rattle.cf_timecode.specs.Spelling.{spelled}
use Rattle.cf_timecode.proofs.Laws.{plain, plain_24}
use Rattle.dpx_pack.specs.Pixels.{pixel_word}
use Rattle.demo.specs.Counts.{source_count, record_count}
use Rattle.demo.specs.Files.{source_path}
use Rattle.demo.specs.Pictures.{source_word}
use Rattle.demo.specs.Texts.{project_text, list_text, head_text, reel_text, event_line, motion_line, label_text}

project_1 : project_text 1
    ≡
    codes "title = \"DEMO\"\nrate = 24\nwidth = 32\nheight = 18\nedl = \"demo.edl\"\n"
    ++ codes "[[reel]]\nname = \"R0\"\nprefix = \"r0.\"\nstart = \"01:00:00:00\"\nframes = 12\n"
    ++ codes "[[reel]]\nname = \"R1\"\nprefix = \"r1.\"\nstart = \"01:00:00:00\"\nframes = 12\n"
    ++ codes "[[reel]]\nname = \"R2\"\nprefix = \"r2.\"\nstart = \"01:00:00:00\"\nframes = 12\n"
    ++ codes "[[reel]]\nname = \"R3\"\nprefix = \"r3.\"\nstart = \"01:00:00:00\"\nframes = 12\n"
unfolding head_text reel_text digits
project_1 = refl

project_5 : project_text 5
    ≡
    codes "title = \"DEMO\"\nrate = 24\nwidth = 32\nheight = 18\nedl = \"demo.edl\"\n"
    ++ codes "[[reel]]\nname = \"R0\"\nprefix = \"r0.\"\nstart = \"01:00:00:00\"\nframes = 18\n"
    ++ codes "[[reel]]\nname = \"R1\"\nprefix = \"r1.\"\nstart = \"01:00:00:00\"\nframes = 18\n"
    ++ codes "[[reel]]\nname = \"R2\"\nprefix = \"r2.\"\nstart = \"01:00:00:00\"\nframes = 18\n"
    ++ codes "[[reel]]\nname = \"R3\"\nprefix = \"r3.\"\nstart = \"01:00:00:00\"\nframes = 18\n"
unfolding head_text reel_text digits
project_5 = refl

-- A label by its second and its frame, which counting comes to: no row counts up to it.
label : (n : ℕ) → n < 2073600 → label_text n ≡ spelled NonDrop (plain (n / 24) (n % 24))
unfolding label_text
label n small = ap (spelled NonDrop) (sym (plain_24 NonDrop n tt small))

-- the lines of five events
line_1 : event_line 0 0 ≡ codes "000001 R0 V C 01:00:00:00 01:00:00:06 01:00:00:00 01:00:00:06\n"
unfolding event_line
line_1 = rw (label 86400 (lit≤ tt), label 86406 (lit≤ tt)) refl

line_2 : event_line 0 1 ≡ codes "000002 R1 V D 004 01:00:00:00 01:00:00:06 01:00:00:06 01:00:00:12\n"
unfolding event_line
line_2 = rw (label 86400 (lit≤ tt), label 86406 (lit≤ tt), label 86412 (lit≤ tt)) refl

line_3 : event_line 0 2 ≡ codes "000003 R2 V W102 006 01:00:00:00 01:00:00:06 01:00:00:12 01:00:00:18\n"
unfolding event_line
line_3 = rw (label 86400 (lit≤ tt), label 86406 (lit≤ tt), label 86412 (lit≤ tt), label 86418 (lit≤ tt)) refl

line_4 : event_line 0 3 ≡ codes "000004 R3 V C 01:00:00:00 01:00:00:06 01:00:00:18 01:00:01:00\n"
unfolding event_line
line_4 = rw (label 86400 (lit≤ tt), label 86406 (lit≤ tt), label 86418 (lit≤ tt), label 86424 (lit≤ tt)) refl

line_5 : event_line 1 0 ≡ codes "000005 R0 V C 01:00:00:06 01:00:00:12 01:00:01:02 01:00:01:08\n"
unfolding event_line
line_5 = rw (label 86406 (lit≤ tt), label 86412 (lit≤ tt), label 86426 (lit≤ tt), label 86432 (lit≤ tt)) refl

motion_4 : motion_line 0 ≡ codes "M2 R3 012.0 01:00:00:00\n"
unfolding motion_line
motion_4 = rw (label 86400 (lit≤ tt)) refl

list_1 : list_text 1 ≡ codes "TITLE: DEMO\n000001 R0 V C 01:00:00:00 01:00:00:06 01:00:00:00 01:00:00:06\n"
list_1 = rw line_1 refl

list_5 : list_text 5
    ≡ codes "TITLE: DEMO\n"
    ++ codes "000001 R0 V C 01:00:00:00 01:00:00:06 01:00:00:00 01:00:00:06\n"
    ++ codes "000002 R1 V D 004 01:00:00:00 01:00:00:06 01:00:00:06 01:00:00:12\n"
    ++ codes "000003 R2 V W102 006 01:00:00:00 01:00:00:06 01:00:00:12 01:00:00:18\n"
    ++ codes "000004 R3 V C 01:00:00:00 01:00:00:06 01:00:00:18 01:00:01:00\n"
    ++ codes "M2 R3 012.0 01:00:00:00\n"
    ++ codes "000005 R0 V C 01:00:00:06 01:00:00:12 01:00:01:02 01:00:01:08\n"
list_5 = rw (line_1, line_2, line_3, line_4, motion_4, line_5) refl

-- six frames for each event, and two of black behind the fourth
frames_5 : record_count 5 ≡ 32
frames_5 = refl

frames_1000 : record_count 1000 ≡ 6498
frames_1000 = refl

sources_1000 : source_count 1000 ≡ 1506
sources_1000 = refl

-- the second frame of the reel R1
path_r1 : source_path 1 86401 ≡ codes "r1.0086401.dpx"
unfolding source_path
path_r1 = refl

-- its pixel in column 2 of line 3: red 748 + 6, green 938 + 33, blue 385 + 6
pixel_r1 : source_word 1 86401 2 3 ≡ pixel_word 754 971 391
unfolding source_word
pixel_r1 = refl
