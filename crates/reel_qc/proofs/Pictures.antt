-- The pictures of the cells of a row.
use Rattle.std.proofs.Common.{◌≡◌, ◌⊎◌, ℕ, ◌+◌, ◌-◌, ◌*◌, ◌^◌, ◌<◌, ◌≤◌, zero, suc, Bool, true, false, cond, inl, inr, List, [], ◌∷◌, ◌++◌, length, drop, map, take, get_or, append-nil, Option, Some, None, refl, sym, ap, subst, ◌∙◌, arith}
use Rattle.std.specs.Prelude.{IfSome, nat_lt, slice_get}
use Rattle.std.specs.List.{All}
use Rattle.std.proofs.lemmas.List.Elements.{All-head, All-tail}
use Rattle.std.proofs.lemmas.Bool.{cases_lt, lt-ltb}
use Rattle.std.proofs.lemmas.Bool.Decides.{nat_tests}
use Rattle.std.proofs.lemmas.List.{get_or-append_right, get_or_append_left, get_or_past, length-append, map-append, take_all}
use Rattle.conform_job.specs.Job.{JobData, file_of}
use Rattle.frame_render.specs.Frame.{pixel_count}
use Rattle.reel_disk.specs.Call.{Call}
use Rattle.reel_disk.specs.Disk.{Files, view_of}
use Rattle.reel_disk.specs.State.{DiskState, OnlyReads}
use Rattle.resume_ledger.proofs.Reading.{still_view}
use Rattle.resume_ledger.specs.Look.{ViewState}
use Rattle.reel_qc.specs.Reads.{ReadsFrame}
use Rattle.reel_qc.specs.inside.Boxes.{AreCells, HasPicture, HasPictures, HasShown, HasSums, place_frames}
use Rattle.reel_qc.specs.Sheet.{ReadsPictures, boxes_of, cell_picture, whole_picture}
use Rattle.reel_qc.specs.Words.{frame_words}
use Rattle.reel_qc.specs.declared.sheet.boxes.Boxes.{Boxes}

-- a picture that is short is none
pub short_picture : (job : JobData) (words : List ℕ) → length words < pixel_count job → HasPicture job (whole_picture job words) None
short_picture job words lt = subst (λ b. HasPicture job (cond b None (Some words)) None) (sym (lt-ltb (length words) (pixel_count job) lt)) tt

pub whole_shown : (job : JobData) (words : List ℕ) (boxes : Boxes) → pixel_count job ≤ length words
    → HasSums words job.parts.project.width (job.parts.project.width * job.parts.project.height) (boxes_of job.parts.project.width) (boxes_of job.parts.project.height) boxes
    → ((k : ℕ) → get_or words k 0 < 2 ^ 32)
    → HasPicture job (whole_picture job words) (Some boxes)
whole_shown job words boxes le sums small =
    let no : nat_lt (length words) (pixel_count job) ≡ false = grind (arith, nat_tests) in
    subst (λ b. HasPicture job (cond b None (Some words)) (Some boxes)) (sym no) (sums, small)

-- pictures are read one after another
pub pictures_along : (job : JobData) (view : ViewState) (frames more : List ℕ) (pictures others : List (Option (List ℕ))) (before mid after : List Call) → ReadsPictures job view frames pictures before mid
    → ReadsPictures job view more others mid after → ReadsPictures job view (frames ++ more) (pictures ++ others) before after
pictures_along job view [] more [] others before mid after one two = subst (λ (calls : List Call). ReadsPictures job view more others calls after) one two
pictures_along job view (i ∷ frames) more (picture ∷ pictures) others before mid after one two =
    (one.0, one.1, pictures_along job view frames more pictures others one.0 mid after one.2 two)
pictures_along job view [] more (picture ∷ pictures) others before mid after one two = absurd one
pictures_along job view (i ∷ frames) more [] others before mid after one two = absurd one

-- a picture for each frame
pub pictures_size : (job : JobData) (view : ViewState) (frames : List ℕ) (pictures : List (Option (List ℕ))) (before after : List Call) → ReadsPictures job view frames pictures before after → length pictures ≡ length frames
pictures_size job view [] [] before after read = refl
pictures_size job view (i ∷ frames) (picture ∷ pictures) before after read = ap (λ n. suc n) (pictures_size job view frames pictures read.0 after read.2)
pictures_size job view [] (picture ∷ pictures) before after read = absurd read
pictures_size job view (i ∷ frames) [] before after read = absurd read

module _ (job : JobData) (view : ViewState) (tells : Bool) where
  pub shown_along : (frames more : List ℕ) (pictures others : List (Option (List ℕ))) (before mid after : DiskState) → OnlyReads tells before mid → HasShown job view tells frames before mid pictures
      → HasShown job view tells more mid after others → HasShown job view tells (frames ++ more) before after (pictures ++ others)
  shown_along frames more pictures others before mid after reads one two = record {
    told = λ told.
        let later = two.told told ∙ ap (λ (files : Files). map (cell_picture job view files) more) (still_view before.history mid.history (reads.still told)) in
        (λ t. one.told told t ++ later t) ∙ sym (map-append (cell_picture job view (view_of before.history)) frames more);
    read = pictures_along job view frames more pictures others before.calls mid.calls after.calls one.read two.read;
  }

  pub shown_none : (disk : DiskState) → HasShown job view tells [] disk disk []
  shown_none disk = record { told = λ told. refl; read = refl }

  -- one cell, and its picture
  one_cell : (frames : List ℕ) (before after : DiskState) (picture : Option (List ℕ)) (cell : Option Boxes) → HasShown job view tells frames before after (picture ∷ []) → HasPicture job picture cell
      → HasPictures job view tells frames before after (cell ∷ [])
  one_cell frames before after picture cell shown sums = record {
    pictures = picture ∷ [];
    shown = shown;
    are = record { few = omega arith; each = each };
  }
    where
      each : (c : ℕ) → c < 1 → HasPicture job (get_or (picture ∷ []) c None) (get_or (cell ∷ []) c None)
      each zero lt = sums
      each (suc c) lt = absurd (omega (arith, lt))

  -- a place without a cell
  pub cell_none : (disk : DiskState) → HasPictures job view tells [] disk disk (None ∷ [])
  cell_none disk = record { pictures = []; shown = shown_none disk; are = record { few = omega arith; each = each } }
    where
      each : (c : ℕ) → c < 1 → HasPicture job (get_or {A = Option (List ℕ)} [] c None) (get_or {A = Option Boxes} (None ∷ []) c None)
      each zero lt = tt
      each (suc c) lt = absurd (omega (arith, lt))

  pub cell_hidden : (i : ℕ) (disk : DiskState) → get_or view.gates i false ≡ false → HasPictures job view tells (i ∷ []) disk disk (None ∷ [])
  cell_hidden i disk shut = one_cell (i ∷ []) disk disk None None (record {
    told = λ told. ap (λ b. cond b (whole_picture job (frame_words job (view_of disk.history (file_of job i)))) None ∷ []) (sym shut);
    read = (disk.calls, inr (shut, refl, refl), refl);
  }) tt

  pub cell_shown : (i : ℕ) (before after : DiskState) (words : List ℕ) (cell : Option Boxes) → get_or view.gates i false ≡ true → (tells ≡ true → words ≡ frame_words job (view_of before.history (file_of job i)))
      → ReadsFrame job i words before.calls after.calls → HasPicture job (whole_picture job words) cell → HasPictures job view tells (i ∷ []) before after (cell ∷ [])
  cell_shown i before after words cell acked told read sums = one_cell (i ∷ []) before after (whole_picture job words) cell (record {
    told = λ told_so. ap (λ l. whole_picture job l ∷ []) (told told_so) ∙ ap (λ b. cond b (whole_picture job (frame_words job (view_of before.history (file_of job i)))) None ∷ []) (sym acked);
    read = (after.calls, inl (acked, words, read, refl), refl);
  }) sums

  -- a cell more
  cells_more : (pictures others : List (Option (List ℕ))) (cells : List (Option Boxes)) (cell : Option Boxes) → AreCells job pictures cells → AreCells job others (cell ∷ []) → (length pictures ≡ length cells) ⊎ (others ≡ [])
      → AreCells job (pictures ++ others) (cells ++ cell ∷ [])
  cells_more pictures others cells cell are more full = record { few = few; each = each }
    where
      long : length (cells ++ cell ∷ []) ≡ length cells + 1
      long = length-append cells (cell ∷ [])

      few : length (pictures ++ others) ≤ length (cells ++ cell ∷ [])
      few = omega (arith, long, length-append pictures others, are.few, more.few)

      cell_is : (c : ℕ) → c < length cells → get_or (cells ++ cell ∷ []) c None ≡ get_or cells c None
      cell_is c lt = get_or_append_left cells (cell ∷ []) None c lt

      last_is : (c : ℕ) → c ≡ length cells → get_or (cells ++ cell ∷ []) c None ≡ cell
      last_is c is = get_or-append_right cells (cell ∷ []) (length cells) c None refl (omega (arith, is)) ∙ ap (λ n. get_or (cell ∷ []) n None) (none c is)
        where
          none : (c : ℕ) → c ≡ length cells → c - length cells ≡ 0
          none c is = omega (arith, is)

      picture_before : (c : ℕ) → c < length cells → (length pictures ≡ length cells) ⊎ (others ≡ []) → get_or (pictures ++ others) c None ≡ get_or pictures c None
      picture_before c lt (inl same) = get_or_append_left pictures others None c (omega (arith, lt, same))
      picture_before c lt (inr none) = ap (λ (l : List (Option (List ℕ))). get_or (pictures ++ l) c None) none ∙ ap (λ (l : List (Option (List ℕ))). get_or l c None) (append-nil pictures)

      picture_last : (c : ℕ) → c ≡ length cells → (length pictures ≡ length cells) ⊎ (others ≡ []) → get_or (pictures ++ others) c None ≡ get_or others 0 None
      picture_last c is (inl same) =
          let none : c - length pictures ≡ 0 = omega (arith, is, same) in
          get_or-append_right pictures others (length pictures) c None refl (omega (arith, is, same)) ∙ ap (λ n. get_or others n None) none
      picture_last c is (inr none) =
          ap (λ (l : List (Option (List ℕ))). get_or (pictures ++ l) c None) none ∙ ap (λ (l : List (Option (List ℕ))). get_or l c None) (append-nil pictures)
          ∙ get_or_past pictures c None (omega (arith, is, are.few)) ∙ sym (ap (λ (l : List (Option (List ℕ))). get_or l 0 None) none)

      each : (c : ℕ) → c < length (cells ++ cell ∷ []) → HasPicture job (get_or (pictures ++ others) c None) (get_or (cells ++ cell ∷ []) c None)
      each c lt = elim (cases_lt c (length cells)) [
        | inl before ↦
            subst (λ (x : Option (List ℕ)). HasPicture job x (get_or (cells ++ cell ∷ []) c None)) (sym (picture_before c before full))
            (subst (λ (y : Option Boxes). HasPicture job (get_or pictures c None) y) (sym (cell_is c before)) (are.each c before))
        | inr last ↦
            let here : c ≡ length cells = omega (arith, last, lt, long) in
            subst (λ (x : Option (List ℕ)). HasPicture job x (get_or (cells ++ cell ∷ []) c None)) (sym (picture_last c here full))
            (subst (λ (y : Option Boxes). HasPicture job (get_or others 0 None) y) (sym (last_is c here)) (more.each 0 (omega arith)))
      ]

  pub pictures_more : (frames : List ℕ) (frame : Option ℕ) (before mid after : DiskState) (cells new : List (Option Boxes)) (cell : Option Boxes) → new ≡ cells ++ cell ∷ [] → IfSome frame (λ i. length frames ≡ length cells)
      → OnlyReads tells before mid → HasPictures job view tells frames before mid cells → HasPictures job view tells (place_frames frame) mid after (cell ∷ []) → HasPictures job view tells (frames ++ place_frames frame) before after new
  pictures_more frames frame before mid after cells new cell is full reads has more = subst (HasPictures job view tells (frames ++ place_frames frame) before after) (sym is) (record {
    pictures = has.pictures ++ more.pictures;
    shown = shown_along frames (place_frames frame) has.pictures more.pictures before mid after reads has.shown more.shown;
    are = cells_more has.pictures more.pictures cells cell has.are more.are (by frame full more.pictures more.shown.read);
  })
    where
      by : (frame : Option ℕ) → IfSome frame (λ i. length frames ≡ length cells) → (others : List (Option (List ℕ))) → ReadsPictures job view (place_frames frame) others mid.calls after.calls
          → (length has.pictures ≡ length cells) ⊎ (others ≡ [])
      by (Some i) same others read = inl (pictures_size job view frames has.pictures before.calls mid.calls has.shown.read ∙ same)
      by None same [] read = inr refl
      by None same (picture ∷ others) read = absurd read

  pub pictures_none : (disk : DiskState) → HasPictures job view tells [] disk disk []
  pictures_none disk = record { pictures = []; shown = shown_none disk; are = record { few = omega arith; each = λ c lt. absurd (omega (arith, lt)) } }

-- the frames of the first places, and one more
pub frames_more : (n : ℕ) (frames : List ℕ) → take (n + 1) frames ≡ take n frames ++ place_frames (slice_get frames n)
frames_more zero [] = refl
frames_more zero (i ∷ frames) = refl
frames_more (suc n) [] = take_all (suc n + 1) [] (omega arith)
frames_more (suc n) (i ∷ frames) = let next : suc n + 1 ≡ suc (n + 1) = omega arith in ap (λ m. take m (i ∷ frames)) next ∙ ap (λ l. i ∷ l) (frames_more n frames)

pub place_behind : (m n : ℕ) (frames : List ℕ) → slice_get (drop m frames) n ≡ slice_get frames (m + n)
place_behind zero n frames = let same : n ≡ 0 + n = omega arith in ap (slice_get frames) same
place_behind (suc m) n [] = refl
place_behind (suc m) n (i ∷ frames) = let next : suc (m + n) ≡ suc m + n = omega arith in place_behind m n frames ∙ ap (slice_get (i ∷ frames)) next

pub frames_full : (n : ℕ) (frames : List ℕ) → IfSome (slice_get frames n) (λ i. length (take n frames) ≡ n)
frames_full zero [] = tt
frames_full zero (i ∷ frames) = refl
frames_full (suc n) [] = tt
frames_full (suc n) (i ∷ frames) = by (slice_get frames n) (frames_full n frames)
  where
    by : (o : Option ℕ) → IfSome o (λ k. length (take n frames) ≡ n) → IfSome o (λ k. suc (length (take n frames)) ≡ suc n)
    by None is = tt
    by (Some k) is = ap (λ m. suc m) is

-- the frame of a place is one of the cells'
pub place_within : (n : ℕ) (frames : List ℕ) (k : ℕ) → All (λ i. i < n) frames → IfSome (slice_get frames k) (λ i. i < n)
place_within n [] k all = tt
place_within n (i ∷ frames) zero all = All-head (λ i. i < n) i frames all
place_within n (i ∷ frames) (suc k) all = place_within n frames k (All-tail (λ i. i < n) i frames all)
