-- The contact sheet: a small picture of each event's first frame, eight side by side. All of it is this project's own rule.
-- * contact sheet: a cell for each event with record frames, as many as fit into 4096 lines, eight in a row; a pixel for each
--   box of 16 by 16 of the event's first frame, with the rounded mean of each channel, and the tone's code for it; black where
--   that frame isn't acknowledged or its file is short, and in a place without a cell; its file, and the greatest code of it
--     cell_frames job      the record frame of each cell, in list order
--     sheet_pictures job view files      what each cell shows, over these files
--     sheet_colour job pictures x y      the mean colour at column x and line y, before the tone
--     pictures_file tone job pictures      the file of these pictures: its header (SMPTE 268M), then its words
--     pictures_peak tone job pictures      the greatest code of their sheet
--     sheet_file, sheet_peak tone job view files      the same, over files
--     HasWrittenSheet tone job view old new      the file is written, of what the folder held before
--     WritesSheet old new      which writes a sheet makes, whatever the disk tells: none, or the sheet's file, and then its sync
--     ReadsPictures job view frames pictures before after      the files of the acknowledged ones of some frames were read one after
--         another, and gave these pictures
--     MakesSheet tone job view done before after      the cells' frames were read so, and the sheet of what that gave was written;
--         it is known over every disk
-- Colours are lists of codes by channel: red, green, blue. A cell has one pixel for each box of 16 by 16 of its frame.
use Rattle.std.specs.Prelude.{◌≡◌, ◌⊎◌, ℕ, ◌+◌, ◌-◌, ◌*◌, ◌/◌, ◌%◌, ◌&&◌, ◌==◌, max, false, true, nat_lt, if◌then◌else◌, List, [], ◌∷◌, ◌++◌, length, map, take, slice_index, slice_index_or, Option, Some, None}
use Rattle.std.specs.List.{filter, flat_map, fold, range_with_len, sum_by}
use Rattle.cf_base.specs.declared.limits.TheConstants.{LARGEST}
use Rattle.byteorder.specs.Endian.{big_bytes}
use Rattle.cf_base.specs.declared.event.EventRec.{EventRec}
use Rattle.cf_base.specs.Events.{record_length}
use Rattle.dpx_header.specs.Writing.{header_of}
use Rattle.dpx_header.specs.declared.writing.OutHead.{OutHead}
use Rattle.dpx_pack.specs.Pixels.{colour_word}
use Rattle.record_timeline.specs.Accepted.{first_frame}
use Rattle.conform_job.specs.Job.{JobData, file_of}
use Rattle.frame_render.specs.Frame.{black_of, pixel_count}
use Rattle.reel_disk.specs.Call.{Call, Wrote, Synced}
use Rattle.reel_disk.specs.Disk.{Files, History, view_of}
use Rattle.reel_disk.specs.declared.disk.Did.{Did}
use Rattle.reel_disk.specs.declared.disk.Did.TheVariants.{Done, Failed}
use Rattle.resume_ledger.specs.Look.{ViewState}
use Rattle.resume_ledger.specs.Steps.{IsFirmly}
use Rattle.cf_base.specs.declared.file.FileId.TheVariants as file
use Rattle.reel_qc.specs.Counts.{blue_of, green_of, red_of}
use Rattle.reel_qc.specs.Reads.{ReadsFrame}
use Rattle.reel_qc.specs.Words.{frame_words}
use Rattle.reel_qc.specs.declared.sheet.SheetDone.{SheetDone}

-- how many boxes of 16 pixels a number of pixels needs
abbrev pub boxes_of : ℕ → ℕ
boxes_of pixels = (pixels + 15) / 16

abbrev pub cell_width : JobData → ℕ
cell_width job = boxes_of job.parts.project.width

abbrev pub cell_height : JobData → ℕ
cell_height job = boxes_of job.parts.project.height

-- as many as fit into 4096 lines
abbrev pub most_cells : JobData → ℕ
most_cells job = 8 * (LARGEST / cell_height job)

-- The record frame of the record in of each line of positive record length. It is counted from 0 through the whole record, as the
-- job's frames and the view's gates are, also where the record is cut into reels.
abbrev pub frames_in : List EventRec → List ℕ
frames_in events = map (λ (e : EventRec). e.rec_in - first_frame events) (filter (λ (e : EventRec). nat_lt 0 (record_length e)) events)

abbrev pub first_frames : JobData → List ℕ
first_frames job = frames_in job.parts.timeline.events

abbrev pub cell_frames : JobData → List ℕ
cell_frames job = take (most_cells job) (first_frames job)

abbrev pub sheet_rows : JobData → ℕ
sheet_rows job = (length (cell_frames job) + 7) / 8

abbrev pub sheet_width : JobData → ℕ
sheet_width job = 8 * cell_width job

abbrev pub sheet_height : JobData → ℕ
sheet_height job = sheet_rows job * cell_height job

-- of the first n pixels of a picture of this width, those of the box in column u and line v of the boxes
abbrev pub box_pixels : (width n u v : ℕ) → List ℕ
box_pixels width n u v = filter (λ k. (k % width / 16 == u) && (k / width / 16 == v)) (range_with_len 0 n)

-- the mean of n codes with this sum, rounded, and a half up
abbrev pub rounded_mean : (sum n : ℕ) → ℕ
rounded_mean sum n = (2 * sum + n) / (2 * n)

abbrev pub mean_over : (ℕ → ℕ) → List ℕ → ℕ
mean_over code pixels = rounded_mean (sum_by code pixels) (length pixels)

-- the mean by channel of a box of a picture's words; black where there is no picture
abbrev pub box_colour : JobData → Option (List ℕ) → (u v : ℕ) → List ℕ
box_colour job None u v = black_of job
box_colour job (Some words) u v =
    map (λ channel. mean_over (λ k. channel (slice_index words k)) (box_pixels job.parts.project.width (pixel_count job) u v))
    (red_of ∷ green_of ∷ blue_of ∷ [])

-- a frame's words, where none is missing
abbrev pub whole_picture : JobData → List ℕ → Option (List ℕ)
whole_picture job words = if nat_lt (length words) (pixel_count job) then None else Some words

-- what a cell shows of a record frame: nothing where the view doesn't acknowledge it, or its file is short
abbrev pub cell_picture : JobData → ViewState → Files → ℕ → Option (List ℕ)
cell_picture job view files i =
    if slice_index_or view.gates i false then whole_picture job (frame_words job (files (file_of job i))) else None

-- those of all cells, in list order
abbrev pub sheet_pictures : JobData → ViewState → Files → List (Option (List ℕ))
sheet_pictures job view files = map (cell_picture job view files) (cell_frames job)

-- Places are counted from 0 along the rows of eight; one without a cell has no picture.
abbrev pub sheet_colour : JobData → List (Option (List ℕ)) → (x y : ℕ) → List ℕ
sheet_colour job pictures x y =
    box_colour job (slice_index_or pictures (y / cell_height job * 8 + x / cell_width job) None)
    (x % cell_width job) (y % cell_height job)

-- a line from the left, and all lines from the top
abbrev pub line_colours : JobData → List (Option (List ℕ)) → ℕ → List (List ℕ)
line_colours job pictures y = map (λ x. sheet_colour job pictures x y) (range_with_len 0 (sheet_width job))

abbrev pub sheet_colours : JobData → List (Option (List ℕ)) → List (List ℕ)
sheet_colours job pictures = flat_map (line_colours job pictures) (range_with_len 0 (sheet_height job))

-- a colour with each code replaced by the tone's
abbrev pub toned : List ℕ → List ℕ → List ℕ
toned tone colour = map (λ code. slice_index tone code) colour

abbrev pub toned_bytes : List ℕ → List ℕ → List ℕ
toned_bytes tone colour = big_bytes 4 (colour_word (toned tone colour))

abbrev pub sheet_head : JobData → OutHead
sheet_head job = record {
  width = sheet_width job;
  height = sheet_height job;
  reel = 0;
  frame = 0;
  position = 0;
  length = 1;
  timecode = None;
  title = job.parts.project.title;
}

abbrev pub pictures_file : List ℕ → JobData → List (Option (List ℕ)) → List ℕ
pictures_file tone job pictures = header_of (sheet_head job) ++ flat_map (toned_bytes tone) (sheet_colours job pictures)

abbrev pub pictures_peak : List ℕ → JobData → List (Option (List ℕ)) → ℕ
pictures_peak tone job pictures = fold max 0 (flat_map (toned tone) (sheet_colours job pictures))

abbrev pub sheet_file : List ℕ → JobData → ViewState → Files → List ℕ
sheet_file tone job view files = pictures_file tone job (sheet_pictures job view files)

abbrev pub sheet_peak : List ℕ → JobData → ViewState → Files → ℕ
sheet_peak tone job view files = pictures_peak tone job (sheet_pictures job view files)

-- The sheet is on the disk, and a crash keeps it so.
abbrev pub HasWrittenSheet : List ℕ → JobData → ViewState → History → History → Type 0
HasWrittenSheet tone job view old new = IsFirmly old new file.Sheet (Some (sheet_file tone job view (view_of old)))

-- the writes and the syncs before a sheet is made, and those behind it
abbrev pub WritesSheet : (old new : List Call) → Type 0
WritesSheet old new = (new ≡ old)
    ⊎ ((bytes : List ℕ) × ((new ≡ Wrote file.Sheet bytes Failed ∷ old)
    ⊎ ((did : Did) × (new ≡ Synced file.Sheet did ∷ Wrote file.Sheet bytes Done ∷ old))))

-- An acknowledged frame's file was read, and the picture is what the reads gave; of any other frame nothing was read.
abbrev pub ReadsPicture : JobData → ViewState → ℕ → Option (List ℕ) → (before after : List Call) → Type 0
ReadsPicture job view i picture before after =
    ((slice_index_or view.gates i false ≡ true)
    × (words : List ℕ) × ReadsFrame job i words before after × (picture ≡ whole_picture job words))
    ⊎ ((slice_index_or view.gates i false ≡ false) × (picture ≡ None) × (after ≡ before))

-- a picture for each of some frames, one after another
abbrev pub ReadsPictures : JobData → ViewState → List ℕ → List (Option (List ℕ)) → (before after : List Call) → Type 0
ReadsPictures job view [] [] before after = after ≡ before
ReadsPictures job view (i ∷ frames) (picture ∷ pictures) before after =
    (mid : List Call) × ReadsPicture job view i picture before mid × ReadsPictures job view frames pictures mid after
ReadsPictures job view frames pictures before after = ⊥

-- Over every disk, the calls were these: the reads of the cells' pictures, one write of the file of what they gave, and its sync.
pub record MakesSheet (tone : List ℕ) (job : JobData) (view : ViewState) (done : SheetDone) (before after : List Call) : Type 0 where
  pub pictures : List (Option (List ℕ))
  pub behind : List Call
  pub read : ReadsPictures job view (cell_frames job) pictures before behind
  pub written : after ≡ Synced file.Sheet Done ∷ Wrote file.Sheet (pictures_file tone job pictures) Done ∷ behind
  pub cells_are : done.cells ≡ length (cell_frames job)
  pub peak_is : done.peak ≡ pictures_peak tone job pictures
