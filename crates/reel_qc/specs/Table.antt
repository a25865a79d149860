-- The quality table: a line for each acknowledged frame, with the counts over its file. The text is this project's own rule.
-- * quality table: the line of the kinds; for each acknowledged frame, in order, its number and the count of each kind over its
--   file; how many lines these are
--     quality_table kinds job view files      the table of what a view acknowledges, over these files
--     defined_table kinds job world view      the same over the definition's files
--     ReadsRows job rows before after      the files of some frames were read one after another, and gave these words
--     IsTable kinds job view before after text      the table of the words that reads gave: each acknowledged frame's file was
--         read, each once and no other; it is known over every disk
use Rattle.std.specs.Prelude.{◌≡◌, ℕ, false, List, [], ◌∷◌, ◌++◌, length, map, filter, slice_index_or, codes, decimal, Some}
use Rattle.std.specs.List.{flat_map, range_with_len}
use Rattle.conform_job.specs.Job.{JobData, file_of}
use Rattle.printed_text.specs.Text.{spaced_line}
use Rattle.reel_disk.specs.Call.{Call}
use Rattle.reel_disk.specs.Disk.{Files}
use Rattle.scan_source.specs.World.{World, file_at}
use Rattle.frame_render.specs.Frame.{frame_file}
use Rattle.resume_ledger.specs.Look.{ViewState, IsViewOf}
use Rattle.reel_writer.specs.Reel.{frames_of, IsSoundReel}
use Rattle.reel_qc.specs.Counts.{count_of}
use Rattle.reel_qc.specs.Reads.{ReadsFrame}
use Rattle.reel_qc.specs.Words.{frame_words}
use Rattle.reel_qc.specs.declared.table.probe.ProbeKind.{ProbeKind}
use Rattle.reel_qc.specs.declared.table.probe.ProbeKind.TheVariants.{High, Low, Sum}

-- a frame, and the words of its file
pub record Row : Type 0 where
  pub frame : ℕ
  pub words : List ℕ

abbrev pub kind_word : ProbeKind → List ℕ
kind_word High = codes "high"
kind_word Low = codes "low"
kind_word Sum = codes "sum"

-- the frame's number, and the count of each kind
unfoldable pub row_line : List ProbeKind → Row → List ℕ
row_line kinds row = spaced_line (decimal row.frame ∷ map (λ kind. decimal (count_of kind row.words)) kinds)

-- the kinds, the lines, and how many these are
unfoldable pub table_of : List ProbeKind → List Row → List ℕ
table_of kinds rows = spaced_line (codes "qc" ∷ map kind_word kinds)
    ++ flat_map (row_line kinds) rows
    ++ spaced_line (codes "frames" ∷ decimal (length rows) ∷ [])

-- those of the frames that are acknowledged
abbrev pub acked_of : ViewState → List ℕ → List ℕ
acked_of view frames = filter (λ i. slice_index_or view.gates i false) frames

-- all of them, in order
abbrev pub acked_frames : ViewState → List ℕ
acked_frames view = acked_of view (range_with_len 0 (length view.gates))

abbrev pub row_of : JobData → Files → ℕ → Row
row_of job files i = record { frame = i; words = frame_words job (files (file_of job i)) }

abbrev pub quality_table : List ProbeKind → JobData → ViewState → Files → List ℕ
quality_table kinds job view files = table_of kinds (map (row_of job files) (acked_frames view))

-- over the files of the job's frames by their definition
abbrev pub defined_row : JobData → World → ℕ → Row
defined_row job world i = record { frame = i; words = frame_words job (Some (frame_file job (file_at world) i)) }

abbrev pub defined_table : List ProbeKind → JobData → World → ViewState → List ℕ
defined_table kinds job world view = table_of kinds (map (defined_row job world) (acked_frames view))

-- Where the folder is sound, and the view is what it acknowledges, the text is the table over these.
abbrev pub IsDefinedWhereSound : List ProbeKind → JobData → ViewState → Files → List ℕ → Type 0
IsDefinedWhereSound kinds job view files text = (world : World) → IsViewOf job.parts.digest (frames_of job) files view
    → IsSoundReel job world files → text ≡ defined_table kinds job world view

-- The files of some frames were read one after another, and gave the words of these rows.
abbrev pub ReadsRows : JobData → List Row → (before after : List Call) → Type 0
ReadsRows job [] before after = after ≡ before
ReadsRows job (row ∷ rows) before after =
    (mid : List Call) × ReadsFrame job row.frame row.words before mid × ReadsRows job rows mid after

-- The files of the acknowledged frames were read, in order and with no other call, and the text is the table of what they gave.
pub record IsTable (kinds : List ProbeKind) (job : JobData) (view : ViewState) (before after : List Call) (text : List ℕ) : Type 0 where
  pub rows : List Row
  pub frames : map (λ (row : Row). row.frame) rows ≡ acked_frames view
  pub read : ReadsRows job rows before after
  pub form : text ≡ table_of kinds rows

-- The rest is said of a part of the table.
