-- What is added up of a picture's boxes, and what is drawn of the sheet.
--     HasPicture job picture cell      the sums of all boxes of a picture
--     AreCells job pictures cells      those of several pictures
--     HasShown job view tells frames before after pictures      the pictures of some frames were read
--     HasPictures job view tells frames before after cells      the cells have pictures that were read
--     HasDrawn tone job view tells frames colours before after old new least greatest      what was read of some frames was drawn
use Rattle.std.specs.Prelude.{◌≡◌, ℕ, ◌+◌, ◌*◌, ◌/◌, ◌%◌, ◌^◌, ◌<◌, ◌≤◌, max, min, All, Bool, true, List, [], ◌∷◌, ◌++◌, drop, length, map, slice_index, slice_index_or, take, Option, Some, None}
use Rattle.std.specs.List.{flat_map, fold, range_with_len, sum_by}
use Rattle.conform_job.specs.Job.{JobData}
use Rattle.frame_render.specs.Frame.{pixel_count}
use Rattle.reel_qc.specs.Counts.{blue_of, green_of, red_of}
use Rattle.reel_disk.specs.Disk.{view_of}
use Rattle.reel_disk.specs.State.{DiskState}
use Rattle.dpx_header.specs.Writing.{header_of}
use Rattle.resume_ledger.specs.Look.{ViewState}
use Rattle.reel_qc.specs.Sheet.{ReadsPictures, box_colour, box_pixels, cell_frames, cell_height, cell_picture, cell_width, pictures_file, pictures_peak, rounded_mean, sheet_colours, sheet_head, sheet_width, toned_bytes}
use Rattle.reel_qc.specs.declared.words.TheConstants.{PIXELS}
use Rattle.reel_qc.specs.declared.sheet.boxes.Boxes.{Boxes}
use Rattle.reel_qc.specs.declared.sheet.drawing.Drawing.{Drawing}

-- for each box, line by line, what its pixels among the first n of a picture of this width add up to
pub record AreSums (code : ℕ → ℕ) (width n columns lines : ℕ) (sums : List ℕ) : Type 0 where
  pub size : length sums ≡ columns * lines
  pub each : (u v : ℕ) → u < columns → v < lines → slice_index sums (v * columns + u) ≡ sum_by code (box_pixels width n u v)

-- by channel, and how many pixels there are
pub record HasSums (words : List ℕ) (width n columns lines : ℕ) (boxes : Boxes) : Type 0 where
  pub red : AreSums (λ k. red_of (slice_index words k)) width n columns lines boxes.red.items
  pub green : AreSums (λ k. green_of (slice_index words k)) width n columns lines boxes.green.items
  pub blue : AreSums (λ k. blue_of (slice_index words k)) width n columns lines boxes.blue.items
  pub pixels : AreSums (λ k. 1) width n columns lines boxes.pixels.items

-- all sums of a picture, whose words have 32 bits; none where there is no picture
abbrev pub HasPicture : JobData → Option (List ℕ) → Option Boxes → Type 0
HasPicture job None None = Unit {0}
HasPicture job None (Some boxes) = ⊥
HasPicture job (Some words) None = ⊥
HasPicture job (Some words) (Some boxes) =
    HasSums words job.parts.project.width (pixel_count job) (cell_width job) (cell_height job) boxes
    × ((k : ℕ) → slice_index words k < 2 ^ 32)

-- where the pixels of box column u begin on a line of this width, and those of the columns before it end
abbrev pub run_start : (width u : ℕ) → ℕ
run_start width u = min width (16 * u)

-- more pixels can be added to a box
pub record HasRoomAt (boxes : Boxes) (at : ℕ) : Type 0 where
  pub in_red : at < length boxes.red.items
  pub in_green : at < length boxes.green.items
  pub in_blue : at < length boxes.blue.items
  pub in_pixels : at < length boxes.pixels.items
  pub red : slice_index boxes.red.items at ≤ 17180000000
  pub green : slice_index boxes.green.items at ≤ 17180000000
  pub blue : slice_index boxes.blue.items at ≤ 17180000000
  pub pixels : slice_index boxes.pixels.items at ≤ 17180000000

-- a box has pixels, and no mean is over 1023
pub record IsBoxAt (boxes : Boxes) (at : ℕ) : Type 0 where
  pub in_red : at < length boxes.red.items
  pub in_green : at < length boxes.green.items
  pub in_blue : at < length boxes.blue.items
  pub in_pixels : at < length boxes.pixels.items
  pub some : 0 < slice_index boxes.pixels.items at
  pub few : slice_index boxes.pixels.items at ≤ PIXELS
  pub red : slice_index boxes.red.items at ≤ 1023 * slice_index boxes.pixels.items at
  pub green : slice_index boxes.green.items at ≤ 1023 * slice_index boxes.pixels.items at
  pub blue : slice_index boxes.blue.items at ≤ 1023 * slice_index boxes.pixels.items at

-- its mean by channel
abbrev pub mean_at : Boxes → ℕ → List ℕ
mean_at boxes at = rounded_mean (slice_index boxes.red.items at) (slice_index boxes.pixels.items at)
    ∷ rounded_mean (slice_index boxes.green.items at) (slice_index boxes.pixels.items at)
    ∷ rounded_mean (slice_index boxes.blue.items at) (slice_index boxes.pixels.items at)
    ∷ []

-- each cell has the sums of its picture, and one behind the last picture has none
pub record AreCells (job : JobData) (pictures : List (Option (List ℕ))) (cells : List (Option Boxes)) : Type 0 where
  pub few : length pictures ≤ length cells
  pub each : (c : ℕ) → c < length cells → HasPicture job (slice_index_or pictures c None) (slice_index_or cells c None)

-- Some frames were read between these moments, and gave these pictures. Where the files are told, they are the cells' of the files.
pub record HasShown (job : JobData) (view : ViewState) (tells : Bool) (frames : List ℕ) (before after : DiskState)
    (pictures : List (Option (List ℕ))) : Type 0 where
  pub told : tells ≡ true → pictures ≡ map (cell_picture job view (view_of before.history)) frames
  pub read : ReadsPictures job view frames pictures before.calls after.calls

-- The cells have the sums of pictures that were read so.
pub record HasPictures (job : JobData) (view : ViewState) (tells : Bool) (frames : List ℕ) (before after : DiskState)
    (cells : List (Option Boxes)) : Type 0 where
  pub pictures : List (Option (List ℕ))
  pub shown : HasShown job view tells frames before after pictures
  pub are : AreCells job pictures cells

-- the frame of a place, where it has a cell; those of a row, of which the last may be shorter
abbrev pub place_frames : Option ℕ → List ℕ
place_frames None = []
place_frames (Some i) = i ∷ []

abbrev pub row_frames : JobData → ℕ → List ℕ
row_frames job row = take 8 (drop (row * 8) (cell_frames job))

abbrev pub HasRow : JobData → ViewState → Bool → ℕ → (before after : DiskState) → List (Option Boxes) → Type 0
HasRow job view tells row before after cells = HasPictures job view tells (row_frames job row) before after cells

-- the colour at column x of line y of a row of cells, also as a list; the line; and all lines of that row
abbrev pub pictured_colour : JobData → List (Option (List ℕ)) → (x y : ℕ) → List ℕ
pictured_colour job pictures x y =
    box_colour job (slice_index_or pictures (x / cell_width job) None) (x % cell_width job) (y % cell_height job)

abbrev pub at_pixel : JobData → List (Option (List ℕ)) → (x y : ℕ) → List (List ℕ)
at_pixel job pictures x y = pictured_colour job pictures x y ∷ []

abbrev pub pictured_line : JobData → List (Option (List ℕ)) → ℕ → List (List ℕ)
pictured_line job pictures y = map (λ x. pictured_colour job pictures x y) (range_with_len 0 (sheet_width job))

abbrev pub pictured_row : JobData → List (Option (List ℕ)) → ℕ → List (List ℕ)
pictured_row job pictures row = flat_map (pictured_line job pictures) (range_with_len (row * cell_height job) (cell_height job))

-- The colour is that of a row of cells at a pixel, whatever pictures they have.
abbrev pub IsPictured : JobData → List (Option Boxes) → (x y : ℕ) → List ℕ → Type 0
IsPictured job cells x y colour = (pictures : List (Option (List ℕ))) → AreCells job pictures cells
    → colour ≡ pictured_colour job pictures x y

-- These colours, with codes to 1023, were drawn behind the bytes; and the greatest code before and after.
pub record IsDrawn (tone : List ℕ) (colours : List (List ℕ)) (old new : List ℕ) (before after : ℕ) : Type 0 where
  pub bytes : new ≡ old ++ flat_map (toned_bytes tone) colours
  pub greatest : after ≡ fold max before (flat_map (λ colour. colour) colours)
  pub codes : All (λ code. code ≤ 1023) (flat_map (λ colour. colour) colours)

-- What a row of cells shows was drawn, whatever pictures they have: some colours of these pictures.
abbrev pub DrawsCells : List ℕ → JobData → List (Option Boxes) → (List (Option (List ℕ)) → List (List ℕ)) → Drawing → Drawing → Type 0
DrawsCells tone job cells colours old new = (pictures : List (Option (List ℕ))) → AreCells job pictures cells
    → IsDrawn tone (colours pictures) old.bytes.items new.bytes.items old.greatest new.greatest

-- Some frames were read, and these colours of their pictures were drawn.
pub record HasDrawn (tone : List ℕ) (job : JobData) (view : ViewState) (tells : Bool) (frames : List ℕ)
    (colours : List (Option (List ℕ)) → List (List ℕ)) (before after : DiskState) (old new : List ℕ) (least greatest : ℕ) : Type 0 where
  pub pictures : List (Option (List ℕ))
  pub shown : HasShown job view tells frames before after pictures
  pub drawn : IsDrawn tone (colours pictures) old new least greatest

-- A row of the sheet was drawn, and the whole sheet behind its header.
abbrev pub DrawsRow : List ℕ → JobData → ViewState → Bool → ℕ → (before after : DiskState) → Drawing → Drawing → Type 0
DrawsRow tone job view tells row before after old new =
    HasDrawn tone job view tells (row_frames job row) (λ pictures. pictured_row job pictures row) before after
    old.bytes.items new.bytes.items old.greatest new.greatest

abbrev pub DrawsSheet : List ℕ → JobData → ViewState → Bool → (before after : DiskState) → Drawing → Type 0
DrawsSheet tone job view tells before after drawing =
    HasDrawn tone job view tells (cell_frames job) (sheet_colours job) before after (header_of (sheet_head job))
    drawing.bytes.items 0 drawing.greatest

-- The cells' frames were read, and these are the bytes of their pictures' sheet, and its greatest code.
pub record HasSheetOf (tone : List ℕ) (job : JobData) (view : ViewState) (tells : Bool) (before after : DiskState)
    (bytes : List ℕ) (peak : ℕ) : Type 0 where
  pub pictures : List (Option (List ℕ))
  pub shown : HasShown job view tells (cell_frames job) before after pictures
  pub bytes_are : bytes ≡ pictures_file tone job pictures
  pub peak_is : peak ≡ pictures_peak tone job pictures
