-- The quality table: a line for each acknowledged frame, with the counts over its file: words of private clauses.
use Rattle.std.specs.Prelude.{◌≡◌, ℕ, ◌^◌, ◌<◌, ◌≤◌, Bool, true, Vec, List, [], ◌∷◌, ◌++◌, length, map, slice_index}
use Rattle.std.specs.List.{flat_map}
use Rattle.conform_job.specs.Job.{JobData}
use Rattle.std.specs.declared.alloc.Global.{Global}
use Rattle.reel_disk.specs.Call.{Call}
use Rattle.reel_disk.specs.Disk.{Files, view_of}
use Rattle.reel_disk.specs.State.{DiskState}
use Rattle.resume_ledger.specs.Look.{ViewState}
use Rattle.reel_qc.specs.Counts.{HasAdded, counts_of}
use Rattle.reel_qc.specs.declared.table.probe.ProbeKind.{ProbeKind}
use Rattle.reel_qc.specs.Table.{ReadsRows, Row, acked_frames, acked_of, row_line, row_of}

-- The counts of some words that were read so, at most so many, are added to these. Where the files are told, they are the words of
-- the files.
pub record AddsCounts (kinds : List ProbeKind) (Told : Type 0) (exact : List ℕ) (Reads : List ℕ → Type 0) (most : ℕ)
    (old new : List ℕ) : Type 0 where
  pub words : List ℕ
  pub told : Told → words ≡ exact
  pub read : Reads words
  pub few : length words ≤ most
  pub small : (k : ℕ) → slice_index words k < 2 ^ 32
  pub added : HasAdded (counts_of kinds words) old new

-- The counts are those of some words that were read so. Where the files are told, they are these words.
pub record HasCounted (kinds : List ProbeKind) (Told : Type 0) (exact : List ℕ) (Reads : List ℕ → Type 0) (counts : List ℕ) : Type 0 where
  pub words : List ℕ
  pub told : Told → words ≡ exact
  pub read : Reads words
  pub counts_are : counts ≡ counts_of kinds words

-- The lines of those frames, some number of them, stand behind the text, and their files were read one after another between these
-- calls. Where the files are told, they are those of the files.
pub record HasRows (kinds : List ProbeKind) (job : JobData) (Told : Type 0) (files : Files) (frames : List ℕ)
    (before after : List Call) (old new : List ℕ) (number : ℕ) : Type 0 where
  pub rows : List Row
  pub frames_are : map (λ (row : Row). row.frame) rows ≡ frames
  pub rows_are : Told → rows ≡ map (row_of job files) frames
  pub read : ReadsRows job rows before after
  pub text : new ≡ old ++ flat_map (row_line kinds) rows
  pub number_is : number ≡ length rows

-- the lines of all frames that a view acknowledges, and that of one frame where it does, by what the disk tells
abbrev pub AddsRows : List ProbeKind → JobData → ViewState → Bool → (before after : DiskState) → (old new : Vec ℕ Global) → ℕ → Type 0
AddsRows kinds job view tells before after old new number =
    HasRows kinds job (tells ≡ true) (view_of before.history) (acked_frames view) before.calls after.calls old.items new.items number

abbrev pub AddsRow : List ProbeKind → JobData → ViewState → ℕ → Bool → (before after : DiskState) → (old new : Vec ℕ Global) → ℕ → Type 0
AddsRow kinds job view i tells before after old new number =
    HasRows kinds job (tells ≡ true) (view_of before.history) (acked_of view (i ∷ [])) before.calls after.calls old.items new.items number
