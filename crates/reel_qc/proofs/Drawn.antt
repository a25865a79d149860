-- What is drawn, pixel by pixel, line by line and row by row.
use Rattle.std.proofs.Common.{◌≡◌, ℕ, suc, ◌+◌, ◌*◌, ◌/◌, ◌%◌, ◌<◌, ◌≤◌, max, List, [], ◌∷◌, ◌++◌, length, map, get_or, flat_map, Option, None, refl, sym, ap, subst, ◌∙◌, arith, append-nil, append_assoc}
use Rattle.std.specs.List.{All, fold, range_with_len}
use Rattle.std.proofs.lemmas.List.Concat.{flat_map-append}
use Rattle.std.proofs.lemmas.List.Elements.{All-append, All-cons, All-nil}
use Rattle.std.proofs.lemmas.List.FromFn.{map-range_with_len_more}
use Rattle.std.proofs.lemmas.List.Sums.{fold-append}
use Rattle.cf_base.proofs.RangeLaws.{range_from_more}
use Rattle.cf_base.specs.declared.pixel.Rgb.{Rgb}
use Rattle.cf_base.specs.Rgb.{codes_of}
use Rattle.conform_job.specs.Job.{JobData}
use Rattle.std.proofs.lemmas.List.{get_or_default}
use Rattle.std.proofs.lemmas.Nat.{div_below}
use Rattle.reel_qc.specs.declared.sheet.boxes.Boxes.{Boxes}
use Rattle.reel_qc.specs.inside.Boxes.{AreCells, HasPicture, IsDrawn, pictured_line}
use Rattle.reel_qc.specs.Sheet.{box_colour, cell_height, cell_width, sheet_width, toned_bytes}

abbrev all_codes : List (List ℕ) → List ℕ
all_codes colours = flat_map (λ colour. colour) colours

small : (p : Rgb) → All (λ code. code ≤ 1023) (codes_of p)
small p =
    let none : All (λ code. code ≤ 1023) [] = All-nil (λ code. code ≤ 1023) in
    let blue : All (λ code. code ≤ 1023) (p.b ∷ []) = All-cons (λ code. code ≤ 1023) p.b [] p.b_in_range none in
    let green : All (λ code. code ≤ 1023) (p.g ∷ p.b ∷ []) = All-cons (λ code. code ≤ 1023) p.g (p.b ∷ []) p.g_in_range blue in
    All-cons (λ code. code ≤ 1023) p.r (p.g ∷ p.b ∷ []) p.r_in_range green

module _ (tone : List ℕ) where
  pub drawn_none : (bytes : List ℕ) (greatest : ℕ) → IsDrawn tone [] bytes bytes greatest greatest
  drawn_none bytes greatest = record { bytes = sym (append-nil bytes); greatest = refl; codes = All-nil (λ code. code ≤ 1023) }

  pub drawn_along : (first second : List (List ℕ)) (old mid new : List ℕ) (before between after : ℕ) → IsDrawn tone first old mid before between → IsDrawn tone second mid new between after
      → IsDrawn tone (first ++ second) old new before after
  drawn_along first second old mid new before between after one two = record {
    bytes = two.bytes ∙ ap (λ l. l ++ flat_map (toned_bytes tone) second) one.bytes ∙ append_assoc old _ _ ∙ ap (λ l. old ++ l) (sym (flat_map-append (toned_bytes tone) first second));
    greatest = two.greatest ∙ ap (λ n. fold max n (all_codes second)) one.greatest ∙ sym (fold-append max before (all_codes first) (all_codes second)) ∙ ap (fold max before) (sym both);
    codes = subst (All (λ code. code ≤ 1023)) (sym both) (All-append (λ code. code ≤ 1023) (all_codes first) (all_codes second) one.codes two.codes);
  }
    where
      both : all_codes (first ++ second) ≡ all_codes first ++ all_codes second
      both = flat_map-append (λ colour. colour) first second

  pub drawn_as : (colours same : List (List ℕ)) (old new : List ℕ) (before after : ℕ) → colours ≡ same → IsDrawn tone colours old new before after → IsDrawn tone same old new before after
  drawn_as colours same old new before after is drawn = subst (λ l. IsDrawn tone l old new before after) is drawn

  pub drawn_one : (p : Rgb) (colour : List ℕ) (old new : List ℕ) (before after : ℕ) → codes_of p ≡ colour → new ≡ old ++ toned_bytes tone (codes_of p) → after ≡ fold max before (codes_of p)
      → IsDrawn tone (colour ∷ []) old new before after
  drawn_one p colour old new before after is bytes greatest = drawn_as (codes_of p ∷ []) (colour ∷ []) old new before after (ap (λ c. c ∷ []) is) (record {
    bytes = bytes ∙ ap (λ l. old ++ l) (sym (append-nil _));
    greatest = greatest ∙ ap (fold max before) (sym (append-nil (codes_of p)));
    codes = subst (All (λ code. code ≤ 1023)) (sym (append-nil (codes_of p))) (small p);
  })

  module _ (job : JobData) (pictures : List (Option (List ℕ))) where
    abbrev pixel : ℕ → ℕ → List ℕ
    pixel y x = box_colour job (get_or pictures (x / cell_width job) None) (x % cell_width job) (y % cell_height job)

    -- one pixel more of a line
    pub pixel_more : (y x : ℕ) (old mid new : List ℕ) (before between after : ℕ) → IsDrawn tone (map (pixel y) (range_with_len 0 x)) old mid before between → IsDrawn tone (pixel y x ∷ []) mid new between after
        → IsDrawn tone (map (pixel y) (range_with_len 0 (x + 1))) old new before after
    pixel_more y x old mid new before between after one two =
        drawn_as _ _ old new before after (sym (map-range_with_len_more (pixel y) 0 x x (omega arith)))
        (drawn_along (map (pixel y) (range_with_len 0 x)) (pixel y x ∷ []) old mid new before between after one two)

    pub line_whole : (y x width : ℕ) (old new : List ℕ) (before after : ℕ) → x ≡ 8 * width → width ≡ cell_width job → IsDrawn tone (map (pixel y) (range_with_len 0 x)) old new before after
        → IsDrawn tone (pictured_line job pictures y) old new before after
    line_whole y x width old new before after is wide drawn =
        drawn_as _ _ old new before after (ap (λ n. map (pixel y) (range_with_len 0 n)) (is ∙ ap (λ n. 8 * n) wide)) drawn

    abbrev lines : ℕ → ℕ → List (List ℕ)
    lines first n = flat_map (pictured_line job pictures) (range_with_len first n)

    -- one line more of a row
    pub line_more : (first v : ℕ) (old mid new : List ℕ) (before between after : ℕ) → IsDrawn tone (lines first v) old mid before between → IsDrawn tone (pictured_line job pictures (first + v)) mid new between after
        → IsDrawn tone (lines first (v + 1)) old new before after
    line_more first v old mid new before between after one two =
        let next : v + 1 ≡ suc v = omega arith in
        let more : lines first v ++ pictured_line job pictures (first + v) ≡ lines first (v + 1) =
        sym (ap (lines first) next ∙ ap (flat_map (pictured_line job pictures)) (range_from_more first v)
        ∙ flat_map-append (pictured_line job pictures) (range_with_len first v) ((first + v) ∷ [])
        ∙ ap (λ l. lines first v ++ l) (append-nil (pictured_line job pictures (first + v)))) in
        drawn_as _ _ old new before after more (drawn_along (lines first v) (pictured_line job pictures (first + v)) old mid new before between after one two)

    pub row_whole : (row first height v : ℕ) (old new : List ℕ) (before after : ℕ) → first ≡ row * height → v ≡ height → height ≡ cell_height job → IsDrawn tone (lines first v) old new before after
        → IsDrawn tone (lines (row * cell_height job) (cell_height job)) old new before after
    row_whole row first height v old new before after first_is is high drawn =
        drawn_as _ _ old new before after (λ i. lines ((first_is ∙ ap (λ n. row * n) high) i) ((is ∙ high) i)) drawn

-- the cell of a place has its picture
pub picture_of : (job : JobData) (pictures : List (Option (List ℕ))) (cells : List (Option Boxes)) (cell : Option Boxes) (k : ℕ) → k < 8 → length cells ≡ 8 → cell ≡ get_or cells k cell → AreCells job pictures cells
    → HasPicture job (get_or pictures k None) cell
picture_of job pictures cells cell k lt eight is are =
    let within : k < length cells = omega (arith, lt, eight) in
    subst (λ (x : Option Boxes). HasPicture job (get_or pictures k None) x) (sym (is ∙ get_or_default cells k cell None within)) (are.each k within)

pub column_in : (job : JobData) (x columns : ℕ) → columns ≡ cell_width job → 1 ≤ job.parts.project.width → x < sheet_width job → x / columns < 8
column_in job x columns is some lt = div_below x columns 8 (omega (arith, is, some)) (omega (arith, is, lt))
