-- The files of the demonstration job: the project, the list, then the source frames, reel after reel.
-- * files of the demonstration [Texts, Pictures, Counts]: the project, the list and the source frames of the job of N events
use Rattle.std.specs.Prelude.{ℕ, ◌+◌, List, ◌∷◌, ◌++◌, map, codes, Vec}
use Rattle.std.specs.declared.alloc.Global.{Global}
use Rattle.std.specs.List.{flat_map, range_with_len}
use Rattle.cf_base.specs.Digits.{digits}
use Rattle.demo.specs.Counts.{source_count}
use Rattle.demo.specs.Pictures.{source_file}
use Rattle.demo.specs.Texts.{hour, prefix, reels, project_text, list_text}

abbrev pub project_path : List ℕ
project_path = codes "demo.toml"

abbrev pub list_path : List ℕ
list_path = codes "demo.edl"

-- the path of a source frame: the reel's prefix, seven digits, and `.dpx`
unfoldable pub source_path : (reel frame : ℕ) → List ℕ
source_path reel frame = prefix reel ++ digits 7 frame ++ codes ".dpx"

-- a path and the bytes of its file
abbrev pub File : Type 0
File = List ℕ × List ℕ

abbrev pub source_entry : (reel frame : ℕ) → File
source_entry reel frame = (source_path reel frame, source_file reel frame)

-- files as they are kept, with the bytes of each
abbrev pub kept : List (List ℕ × Vec ℕ Global) → List File
kept files = map (λ f. (f.0, f.1.items)) files

-- the files of a source reel, which begins at the first frame of the hour
abbrev pub reel_files : (count reel : ℕ) → List File
reel_files count reel = map (λ k. source_entry reel (hour + k)) (range_with_len 0 count)

unfoldable pub demo_files : ℕ → List File
demo_files events =
    (project_path, project_text events)
    ∷ (list_path, list_text events)
    ∷ flat_map (reel_files (source_count events)) reels
