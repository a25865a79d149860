-- The sheet's rows, its peak, and what the writing of its file leaves as it was.
use Rattle.std.proofs.Common.{◌≡◌, ◌≢◌, ℕ, zero, suc, ◌+◌, ◌-◌, ◌*◌, ◌/◌, ◌%◌, ◌<◌, ◌≤◌, max, inl, inr, Bool, true, drop, take, List, [], ◌∷◌, ◌++◌, length, map, get_or, flat_map, Option, Some, None, refl, sym, ap, subst, ◌∙◌, arith}
use Rattle.std.specs.List.{All, fold, range_with_len}
use Rattle.std.proofs.Math.Nat.{mul-le-mul}
use Rattle.std.proofs.lemmas.List.{get_or-append_right, get_or_append_left, length-take-le, map-append, take_all}
use Rattle.std.proofs.lemmas.List.Concat.{flat_map-append}
use Rattle.std.proofs.lemmas.List.Elements.{All-head, All-tail}
use Rattle.std.proofs.lemmas.Nat.{div-mul-add, div_below}
use Rattle.cf_base.specs.declared.file.FileId.{FileId}
use Rattle.cf_base.specs.declared.file.FileId.TheVariants.{Sheet, Seal2, Body2}
use Rattle.cf_base.specs.FileId.{decide_id}
use Rattle.conform_job.specs.Job.{JobData, file_of}
use Rattle.scan_source.specs.World.{World}
use Rattle.reel_disk.specs.declared.disk.Place.{Place}
use Rattle.reel_disk.specs.declared.disk.Place.TheVariants.{Whole, Range}
use Rattle.reel_disk.specs.Disk.{AgreesOutside, Files, History, IsFirm, IsImage, IsStill, IsLoose, Moment, file_of as place_file, loose_of, moment_of, view_of, with_file}
use Rattle.reel_disk.specs.Runs.{Extends, LeavesOnly, Spares, Surely}
use Rattle.reel_disk.specs.Call.{Call, Wrote, Synced, writes_in}
use Rattle.reel_disk.specs.declared.disk.Did.TheVariants.{Done, Failed}
use Rattle.std.specs.Prelude.{Result, Ok, Err}
use Rattle.resume_ledger.specs.Calls.{Puts}
use Rattle.reel_disk.proofs.Moments.{extends_along, passes_extends}
use Rattle.reel_disk.proofs.Sparing.{spares_along, still_spares}
use Rattle.resume_ledger.specs.Steps.{IsFirmly, IsPut}
use Rattle.resume_ledger.proofs.Writing.{put_extends}
use Rattle.reel_disk.proofs.Images.{agrees_itself, with_file_here, with_file_other}
use Rattle.resume_ledger.specs.Ledger.{IsLedgerFile}
use Rattle.resume_ledger.specs.Look.{ViewState}
use Rattle.resume_ledger.proofs.Versions.{acks_as, fit_as}
use Rattle.reel_writer.specs.Reel.{HasAcked, IsSoundReel, frames_of}
use Rattle.reel_disk.specs.State.{DiskState, OnlyReads}
use Rattle.dpx_header.specs.Writing.{header_of}
use Rattle.reel_qc.specs.inside.Boxes.{HasDrawn, HasSheetOf, HasShown, IsDrawn, pictured_colour, pictured_line, pictured_row, row_frames}
use Rattle.reel_qc.specs.Sheet.{MakesSheet, WritesSheet, box_colour, cell_frames, cell_height, cell_width, line_colours, pictures_file, pictures_peak, sheet_colour, sheet_colours, sheet_file, sheet_head, sheet_height, sheet_peak, sheet_rows, sheet_width, toned}
use Rattle.reel_qc.proofs.Pictures.{pictures_size, shown_along, shown_none}
use Rattle.reel_qc.specs.Tones.{IsToneTable}
use Rattle.reel_qc.specs.declared.sheet.SheetDone.{SheetDone}
use Rattle.reel_qc.proofs.Drawn.{drawn_along, drawn_as, drawn_none}
use Rattle.reel_qc.proofs.Peaks.{peak_is}

-- lists by their places
same_map : {X : Type 0} (f g : ℕ → X) (a n : ℕ) → ((k : ℕ) → k < n → f (a + k) ≡ g (a + k)) → map f (range_with_len a n) ≡ map g (range_with_len a n)
same_map f g a zero same = refl
same_map f g a (suc n) same =
    let here : f a ≡ g a = let none : a + 0 ≡ a = omega arith in subst (λ k. f k ≡ g k) none (same 0 (omega arith)) in
    let rest = same_map f g (a + 1) n (λ k lt. let at : a + suc k ≡ a + 1 + k = omega arith in subst (λ m. f m ≡ g m) at (same (suc k) (omega (arith, lt)))) in
    λ i. here i ∷ rest i

same_flat : {X : Type 0} (f g : ℕ → List X) (a n : ℕ) → ((k : ℕ) → k < n → f (a + k) ≡ g (a + k)) → flat_map f (range_with_len a n) ≡ flat_map g (range_with_len a n)
same_flat f g a zero same = refl
same_flat f g a (suc n) same =
    let here : f a ≡ g a = let none : a + 0 ≡ a = omega arith in subst (λ k. f k ≡ g k) none (same 0 (omega arith)) in
    let rest = same_flat f g (a + 1) n (λ k lt. let at : a + suc k ≡ a + 1 + k = omega arith in subst (λ m. f m ≡ g m) at (same (suc k) (omega (arith, lt)))) in
    λ i. here i ++ rest i

range_two : (a m n : ℕ) → range_with_len a (m + n) ≡ range_with_len a m ++ range_with_len (a + m) n
range_two a zero n = let none : a + 0 ≡ a = omega arith in let same : 0 + n ≡ n = omega arith in ap (range_with_len a) same ∙ ap (λ k. range_with_len k n) (sym none)
range_two a (suc m) n =
    let long : suc m + n ≡ suc (m + n) = omega arith in
    let at : a + 1 + m ≡ a + suc m = omega arith in
    ap (range_with_len a) long ∙ ap (λ l. a ∷ l) (range_two (a + 1) m n ∙ ap (λ k. range_with_len (a + 1) m ++ range_with_len k n) at)

take_two : (m n : ℕ) (l : List ℕ) → take (m + n) l ≡ take m l ++ take n (drop m l)
take_two zero n l = let same : 0 + n ≡ n = omega arith in ap (λ k. take k l) same
take_two (suc m) n [] = take_all (suc m + n) [] (omega arith) ∙ sym (take_all n [] (omega arith))
take_two (suc m) n (x ∷ l) = let next : suc m + n ≡ suc (m + n) = omega arith in ap (λ k. take k (x ∷ l)) next ∙ ap (λ r. x ∷ r) (take_two m n l)

-- a line above so many rows is in one of them
div_under : (v height rows : ℕ) → v < rows * height → v / height < rows
div_under v zero rows lt = absurd (omega (arith, lt))
div_under v (suc h) rows lt = div_below v (suc h) rows (omega arith) lt

module _ (tone : List ℕ) (job : JobData) (some : 0 < cell_width job) where
  abbrev lines_of : List (Option (List ℕ)) → ℕ → ℕ → List (List ℕ)
  lines_of pictures first n = flat_map (line_colours job pictures) (range_with_len first n)

  column : (k : ℕ) → k < sheet_width job → (0 + k) / cell_width job < 8
  column k wide = div_below (0 + k) (cell_width job) 8 some (omega (arith, wide))

  -- the lines above a row show nothing of the pictures behind
  lines_above : (row : ℕ) (pictures more : List (Option (List ℕ))) → length pictures ≡ row * 8 → lines_of pictures 0 (row * cell_height job) ≡ lines_of (pictures ++ more) 0 (row * cell_height job)
  lines_above row pictures more full = same_flat (line_colours job pictures) (line_colours job (pictures ++ more)) 0 (row * cell_height job) line
    where
      line : (v : ℕ) → v < row * cell_height job → line_colours job pictures (0 + v) ≡ line_colours job (pictures ++ more) (0 + v)
      line v lt = same_map _ _ 0 (sheet_width job) pixel
        where
          above : (0 + v) / cell_height job < row
          above = div_under (0 + v) (cell_height job) row (omega (arith, lt))

          pixel : (k : ℕ) → k < sheet_width job → sheet_colour job pictures (0 + k) (0 + v) ≡ sheet_colour job (pictures ++ more) (0 + k) (0 + v)
          pixel k wide =
              let place = get_or_append_left pictures more None ((0 + v) / cell_height job * 8 + (0 + k) / cell_width job) (omega (arith, above, column k wide, full)) in
              ap (λ (p : Option (List ℕ)). box_colour job p ((0 + k) % cell_width job) ((0 + v) % cell_height job)) (sym place)

  -- and a row's lines are those of its pictures
  lines_row : (row : ℕ) (before pictures : List (Option (List ℕ))) → length before ≡ row * 8
      → flat_map (pictured_line job pictures) (range_with_len (row * cell_height job) (cell_height job)) ≡ lines_of (before ++ pictures) (row * cell_height job) (cell_height job)
  lines_row row before pictures full = same_flat (pictured_line job pictures) (line_colours job (before ++ pictures)) (row * cell_height job) (cell_height job) line
    where
      line : (v : ℕ) → v < cell_height job → pictured_line job pictures (row * cell_height job + v) ≡ line_colours job (before ++ pictures) (row * cell_height job + v)
      line v lt = same_map _ _ 0 (sheet_width job) pixel
        where
          y : ℕ
          y = row * cell_height job + v

          row_is : y / cell_height job ≡ row
          row_is = div-mul-add row (cell_height job) v lt

          pixel : (k : ℕ) → k < sheet_width job → pictured_colour job pictures (0 + k) y ≡ sheet_colour job (before ++ pictures) (0 + k) y
          pixel k wide =
              let here : row * 8 + (0 + k) / cell_width job - length before ≡ (0 + k) / cell_width job = omega (arith, full) in
              let there = ap (λ n. get_or (before ++ pictures) (n * 8 + (0 + k) / cell_width job) None) row_is
              ∙ get_or-append_right before pictures (length before) (row * 8 + (0 + k) / cell_width job) None refl (omega (arith, full))
              ∙ ap (λ n. get_or pictures n None) here in
              ap (λ (p : Option (List ℕ)). box_colour job p ((0 + k) % cell_width job) (y % cell_height job)) (sym there)

  rows_along : (row : ℕ) (before pictures : List (Option (List ℕ))) → length before ≡ row * 8
      → lines_of before 0 (row * cell_height job) ++ flat_map (pictured_line job pictures) (range_with_len (row * cell_height job) (cell_height job))
      ≡ lines_of (before ++ pictures) 0 ((row + 1) * cell_height job)
  rows_along row before pictures full =
      let all : (row + 1) * cell_height job ≡ row * cell_height job + cell_height job = omega arith in
      let first : 0 + row * cell_height job ≡ row * cell_height job = omega arith in
      let whole = before ++ pictures in
      (λ t. lines_above row before pictures full t ++ lines_row row before pictures full t)
      ∙ sym (ap (lines_of whole 0) all ∙ ap (flat_map (line_colours job whole)) (range_two 0 (row * cell_height job) (cell_height job))
      ∙ flat_map-append (line_colours job whole) (range_with_len 0 (row * cell_height job)) (range_with_len (0 + row * cell_height job) (cell_height job))
      ∙ ap (λ n. lines_of whole 0 (row * cell_height job) ++ lines_of whole n (cell_height job)) first)

  module _ (view : ViewState) (tells : Bool) where
    -- the rows above a row are drawn
    abbrev pub DrawsRows : (row : ℕ) → (before after : DiskState) → (old new : List ℕ) → (least greatest : ℕ) → Type 0
    DrawsRows row before after old new least greatest =
        HasDrawn tone job view tells (take (row * 8) (cell_frames job)) (λ pictures. lines_of pictures 0 (row * cell_height job)) before after old new least greatest

    pub rows_begin : (disk : DiskState) (header bytes : List ℕ) (greatest : ℕ) → bytes ≡ header → greatest ≡ 0 → DrawsRows 0 disk disk header bytes 0 greatest
    rows_begin disk header bytes greatest is none =
        subst (λ l. DrawsRows 0 disk disk header l 0 greatest) (sym is) (subst (λ n. DrawsRows 0 disk disk header header 0 n) (sym none) start)
      where
        start : DrawsRows 0 disk disk header header 0 0
        start = record {
          pictures = [];
          shown = subst (λ n. HasShown job view tells (take n (cell_frames job)) disk disk []) (let zeros : 0 ≡ 0 * 8 = omega arith in zeros) (shown_none job view tells disk);
          drawn = subst (λ n. IsDrawn tone (lines_of [] 0 n) header header 0 0) (let zeros : 0 ≡ 0 * cell_height job = omega arith in zeros) (drawn_none tone header 0);
        }

    -- a row more
    pub rows_more : (row : ℕ) (before between after : DiskState) (old mid new : List ℕ) (least most greatest : ℕ) → row < sheet_rows job → OnlyReads tells before between → DrawsRows row before between old mid least most
        → HasDrawn tone job view tells (row_frames job row) (λ pictures. pictured_row job pictures row) between after mid new most greatest → DrawsRows (row + 1) before after old new least greatest
    rows_more row before between after old mid new least most greatest lt reads one two = record {
      pictures = one.pictures ++ two.pictures;
      shown = subst (λ (frames : List ℕ). HasShown job view tells frames before after (one.pictures ++ two.pictures)) (sym split)
          (shown_along job view tells (take (row * 8) (cell_frames job)) (row_frames job row) one.pictures two.pictures before between after reads one.shown two.shown);
      drawn = drawn_as tone _ _ old new least greatest (rows_along row one.pictures two.pictures full)
          (drawn_along tone _ _ old mid new least most greatest one.drawn two.drawn);
    }
      where
        full : length one.pictures ≡ row * 8
        full = pictures_size job view _ one.pictures _ _ one.shown.read ∙ length-take-le (row * 8) (cell_frames job) (omega (arith, lt))

        split : take ((row + 1) * 8) (cell_frames job) ≡ take (row * 8) (cell_frames job) ++ take 8 (drop (row * 8) (cell_frames job))
        split =
            let more : (row + 1) * 8 ≡ row * 8 + 8 = omega arith in
            ap (λ n. take n (cell_frames job)) more ∙ take_two (row * 8) 8 (cell_frames job)

    pub rows_whole : (row : ℕ) (before after : DiskState) (old new : List ℕ) (least greatest : ℕ) → row ≡ sheet_rows job → DrawsRows row before after old new least greatest
        → HasDrawn tone job view tells (cell_frames job) (sheet_colours job) before after old new least greatest
    rows_whole row before after old new least greatest is has = record {
      pictures = has.pictures;
      shown = subst (λ (frames : List ℕ). HasShown job view tells frames before after has.pictures) (take_all (row * 8) (cell_frames job) (omega (arith, is))) has.shown;
      drawn = subst (λ n. IsDrawn tone (lines_of has.pictures 0 (n * cell_height job)) old new least greatest) is has.drawn;
    }

-- the greatest code under the tone is that of the greatest mean
toned_codes : (tone : List ℕ) (colours : List (List ℕ)) → flat_map (toned tone) colours ≡ map (λ code. get_or tone code 0) (flat_map (λ colour. colour) colours)
toned_codes tone [] = refl
toned_codes tone (colour ∷ colours) =
    ap (λ l. toned tone colour ++ l) (toned_codes tone colours) ∙ sym (map-append (λ code. get_or tone code 0) colour (flat_map (λ colour. colour) colours))

most_of : (codes : List ℕ) (n : ℕ) → n ≤ 1023 → All (λ code. code ≤ 1023) codes → fold max n codes ≤ 1023
most_of [] n le all = le
most_of (code ∷ codes) n le all =
    let here = All-head (λ k. k ≤ 1023) code codes all in
    most_of codes (max n code) (omega (arith, le, here)) (All-tail (λ k. k ≤ 1023) code codes all)

pub greatest_small : (tone : List ℕ) (colours : List (List ℕ)) (old new : List ℕ) (after : ℕ) → IsDrawn tone colours old new 0 after → after ≤ 1023
greatest_small tone colours old new after drawn =
    let most = most_of (flat_map (λ colour. colour) colours) 0 (omega arith) drawn.codes in
    omega (arith, most, drawn.greatest)

peak_drawn : (tone : List ℕ) (colours : List (List ℕ)) (old new : List ℕ) (after peak : ℕ) → IsToneTable tone → 0 < length (flat_map (λ colour. colour) colours) → IsDrawn tone colours old new 0 after
    → peak ≡ get_or tone after 0 → peak ≡ fold max 0 (flat_map (toned tone) colours)
peak_drawn tone colours old new after peak table some drawn is =
    is ∙ ap (λ n. get_or tone n 0) drawn.greatest
    ∙ sym (peak_is tone table (flat_map (λ colour. colour) colours) some drawn.codes)
    ∙ ap (fold max 0) (sym (toned_codes tone colours))

-- a sheet has a pixel
some_codes : (job : JobData) (pictures : List (Option (List ℕ))) → 0 < sheet_width job → 0 < sheet_height job → 0 < length (flat_map (λ colour. colour) (sheet_colours job pictures))
some_codes job pictures wide high = in_lines (sheet_height job) high
  where
    in_colour : (p : Option (List ℕ)) (u v : ℕ) (rest : List (List ℕ)) → 0 < length (flat_map (λ colour. colour) (box_colour job p u v ∷ rest))
    in_colour None u v rest = omega arith
    in_colour (Some words) u v rest = omega arith

    pixel : (y x : ℕ) → List ℕ
    pixel y x = sheet_colour job pictures x y

    in_line : (y n : ℕ) (rest : List (List ℕ)) → 0 < n → 0 < length (flat_map (λ colour. colour) (map (pixel y) (range_with_len 0 n) ++ rest))
    in_line y zero rest lt = absurd (omega (arith, lt))
    in_line y (suc n) rest lt =
        in_colour (get_or pictures (y / cell_height job * 8 + 0 / cell_width job) None) (0 % cell_width job) (y % cell_height job) (map (pixel y) (range_with_len (0 + 1) n) ++ rest)

    in_lines : (n : ℕ) → 0 < n → 0 < length (flat_map (λ colour. colour) (flat_map (line_colours job pictures) (range_with_len 0 n)))
    in_lines zero lt = absurd (omega (arith, lt))
    in_lines (suc n) lt = in_line 0 (sheet_width job) (flat_map (line_colours job pictures) (range_with_len (0 + 1) n)) wide

-- what was drawn is the sheet of the pictures that were read
pub sheet_drawn : (tone : List ℕ) (job : JobData) (view : ViewState) (tells : Bool) (before after : DiskState) (bytes : List ℕ) (greatest peak : ℕ) → IsToneTable tone → 0 < sheet_width job → 0 < sheet_height job
    → HasDrawn tone job view tells (cell_frames job) (sheet_colours job) before after (header_of (sheet_head job)) bytes 0 greatest → peak ≡ get_or tone greatest 0 → HasSheetOf tone job view tells before after bytes peak
sheet_drawn tone job view tells before after bytes greatest peak table wide high has is = record {
  pictures = has.pictures;
  shown = has.shown;
  bytes_are = has.drawn.bytes;
  peak_is = peak_drawn tone (sheet_colours job has.pictures) _ bytes greatest peak table (some_codes job has.pictures wide high) has.drawn is;
}

pub sheet_bytes : (tone : List ℕ) (job : JobData) (view : ViewState) (tells : Bool) (before after : DiskState) (bytes : List ℕ) (peak : ℕ) → HasSheetOf tone job view tells before after bytes peak
    → tells ≡ true → bytes ≡ sheet_file tone job view (view_of before.history)
sheet_bytes tone job view tells before after bytes peak has told = has.bytes_are ∙ ap (pictures_file tone job) (has.shown.told told)

pub sheet_code : (tone : List ℕ) (job : JobData) (view : ViewState) (tells : Bool) (before after : DiskState) (bytes : List ℕ) (peak : ℕ) → HasSheetOf tone job view tells before after bytes peak
    → tells ≡ true → peak ≡ sheet_peak tone job view (view_of before.history)
sheet_code tone job view tells before after bytes peak has told = has.peak_is ∙ ap (pictures_peak tone job) (has.shown.told told)

-- and then it was written
pub sheet_made : (tone : List ℕ) (job : JobData) (view : ViewState) (tells : Bool) (before behind : DiskState) (bytes same : List ℕ) (done : SheetDone) (after : List Call) → HasSheetOf tone job view tells before behind bytes done.peak
    → done.cells ≡ length (cell_frames job) → same ≡ bytes → after ≡ Synced Sheet Done ∷ Wrote Sheet same Done ∷ behind.calls → MakesSheet tone job view done before.calls after
sheet_made tone job view tells before behind bytes same done after has cells is calls = record {
  pictures = has.pictures;
  behind = behind.calls;
  read = has.shown.read;
  written = calls ∙ ap (λ (l : List ℕ). Synced Sheet Done ∷ Wrote Sheet l Done ∷ behind.calls) (is ∙ has.bytes_are);
  cells_are = cells;
  peak_is = has.peak_is;
}

pub product_some : (a b : ℕ) → 1 ≤ a → 1 ≤ b → 1 ≤ a * b
product_some a b la lb = let p : 1 * 1 ≤ a * b = mul-le-mul la lb in omega (arith, p)

-- a sheet with a cell has a line
pub some_lines : (job : JobData) (frames : List ℕ) → frames ≡ cell_frames job → 0 < length frames → 1 ≤ job.parts.project.height → 0 < sheet_height job
some_lines job frames is some high =
    let long = ap length is in
    let rows : 1 ≤ sheet_rows job = omega (arith, long, some) in
    let lines : 1 ≤ cell_height job = omega (arith, high) in
    let all = product_some (sheet_rows job) (cell_height job) rows lines in
    omega (arith, all)

-- ---- what the writing of the sheet leaves as it was

agrees_more : (few many : List Place) (id : FileId) (content other : Option (List ℕ)) → ((p : Place) → place_file p ≡ id → IsLoose few p → IsLoose many p)
    → AgreesOutside few id content other → AgreesOutside many id content other
agrees_more few many id None other more is = is
agrees_more few many id (Some bytes) other more agrees =
    (agrees.0, agrees.1, agrees.2, λ k lt firm. agrees.3 k lt (λ loose. firm (loose.0, loose.1, more (Range id loose.0 loose.1) refl loose.2, loose.3, loose.4)))

module _ (old new : History) (spares : Spares old new (λ q. q ≡ Sheet)) where
  abbrev before : Files → Files
  before files = with_file Sheet (view_of old Sheet) files

  -- with the sheet as it was, an image is one from before
  before_image : (m : ℕ) → old.now ≤ m → m ≤ new.now → (files : Files) → IsImage (new.past m) files → IsImage (moment_of old) (before files)
  before_image m from to files image id firm = elim (decide_id id Sheet) [
    | inl here ↦ subst (λ q. AgreesOutside (loose_of old) q (view_of old q) (before files q)) (sym here)
        (subst (λ (c : Option (List ℕ)). AgreesOutside (loose_of old) Sheet (view_of old Sheet) c) (sym (with_file_here Sheet (view_of old Sheet) files))
        (agrees_itself (loose_of old) Sheet (view_of old Sheet)))
    | inr apart ↦
        let spared : (p : Place) → place_file p ≡ id → IsLoose (new.past m).loose p → IsLoose (loose_of old) p = λ p own. spares.loose m from to p (λ is. apart (sym own ∙ is)) in
        let was = agrees_more (new.past m).loose (loose_of old) id ((new.past m).view id) (files id) spared (image id (λ loose. firm (spared (Whole id) refl loose))) in
        subst (λ (c : Option (List ℕ)). AgreesOutside (loose_of old) id (view_of old id) c) (sym (with_file_other Sheet (view_of old Sheet) files id apart))
        (subst (λ (c : Option (List ℕ)). AgreesOutside (loose_of old) id c (files id)) (spares.files m from to id apart) was)
  ]

  ledger_apart : (q : FileId) → IsLedgerFile q → q ≢ Sheet
  ledger_apart q (inl is) same = cc
  ledger_apart q (inr (inl is)) same = cc
  ledger_apart q (inr (inr (inl is))) same = cc
  ledger_apart q (inr (inr (inr is))) same = cc

  same_file : (files : Files) (q : FileId) → q ≢ Sheet → files q ≡ before files q
  same_file files q apart = sym (with_file_other Sheet (view_of old Sheet) files q apart)

  same_ledger : (files : Files) (q : FileId) → IsLedgerFile q → files q ≡ before files q
  same_ledger files q own = same_file files q (ledger_apart q own)

  pub stays_acked : (job : JobData) (i : ℕ) → Surely (moment_of old) (HasAcked job i) → LeavesOnly old new (HasAcked job i)
  stays_acked job i all m from to files image =
      acks_as (before files) files (same_ledger files) job.parts.digest (frames_of job) i (all (before files) (before_image m from to files image))

  pub stays_sound : (job : JobData) (world : World) → Surely (moment_of old) (IsSoundReel job world) → LeavesOnly old new (IsSoundReel job world)
  stays_sound job world all m from to files image = record {
    sound = λ k acks.
        let at = was.sound k (acks_as files (before files) (λ q own. sym (same_ledger files q own)) job.parts.digest (frames_of job) k acks) in
        record {
          file = same_file files (file_of job k) (λ is. cc) ∙ at.file;
          hash = λ second.
              let noted = at.hash (sym (same_ledger files Seal2 (inr (inr (inl refl)))) ∙ second) in
              record { body = noted.body; there = same_ledger files Body2 (inr (inr (inr refl))) ∙ noted.there; is = noted.is };
        };
    fit = fit_as (before files) files (same_ledger files) job.parts.digest (frames_of job) was.fit;
  }
    where
      was : IsSoundReel job world (before files)
      was = all (before files) (before_image m from to files image)

-- what was read before changed nothing
pub sheet_spares : (old mid new : History) → IsStill old mid → IsPut mid new (Whole Sheet) → Spares mid new (λ q. q ≡ Sheet) → Spares old new (λ q. q ≡ Sheet)
sheet_spares old mid new still put spares =
    spares_along old mid new (λ q. q ≡ Sheet) (passes_extends old mid (moment_of old) still.passes) (put_extends mid new (Whole Sheet) put) (still_spares old mid (λ q. q ≡ Sheet) still) spares

pub sheet_extends : (old mid new : History) → IsStill old mid → IsPut mid new (Whole Sheet) → Extends old new
sheet_extends old mid new still put = extends_along old mid new (passes_extends old mid (moment_of old) still.passes) (put_extends mid new (Whole Sheet) put)

pub sheet_firmly : (old mid new : History) (bytes exact : List ℕ) → IsStill old mid → bytes ≡ exact → IsFirmly mid new Sheet (Some bytes) → IsFirmly old new Sheet (Some exact)
sheet_firmly old mid new bytes exact still is firmly = record {
  there = firmly.there ∙ ap Some is;
  same = λ q other. firmly.same q other ∙ ap (λ (m : Moment). m.view q) still.same;
  firm = firmly.firm;
  others = λ q was. firmly.others q (subst (λ (m : Moment). IsFirm m.loose q) (sym still.same) was);
}

-- the calls of the write, behind others that only read
pub sheet_written : {A B : Type 0} (result : Result A B) (bytes : List ℕ) (old mid new : List Call) → writes_in mid ≡ writes_in old
    → Puts (Wrote Sheet bytes) Sheet result mid new → WritesSheet (writes_in old) (writes_in new)
sheet_written (Ok done) bytes old mid new none calls =
    inr (bytes, inr (Done, ap writes_in calls ∙ ap (λ (writes : List Call). Synced Sheet Done ∷ Wrote Sheet bytes Done ∷ writes) none))
sheet_written (Err fault) bytes old mid new none (inl calls) =
    inr (bytes, inl (ap writes_in calls ∙ ap (λ (writes : List Call). Wrote Sheet bytes Failed ∷ writes) none))
sheet_written (Err fault) bytes old mid new none (inr calls) =
    inr (bytes, inr (Failed, ap writes_in calls ∙ ap (λ (writes : List Call). Synced Sheet Failed ∷ Wrote Sheet bytes Done ∷ writes) none))
