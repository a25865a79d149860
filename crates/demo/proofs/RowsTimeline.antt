-- The rows of the list have a timeline.
use Rattle.std.proofs.Common.{◌≡◌, ℕ, zero, suc, ◌+◌, ◌/◌, ◌%◌, ◌<◌, ◌≤◌, false, length, map, take, max, min, refl, sym, ap, ◌∙◌, arith}
use Rattle.std.specs.Prelude.{Some, None, Ok, slice_get}
use Rattle.std.specs.Option.{option_map}
use Rattle.std.specs.List.{range_with_len}
use Rattle.std.proofs.lemmas.Bool.{le-ltb}
use Rattle.std.proofs.lemmas.Option.{same_Some, slice_get_within}
use Rattle.std.proofs.lemmas.List.FromFn.{length-map-range_with_len}
use Rattle.cf_base.specs.declared.event.EventRec.{EventRec}
use Rattle.cf_base.specs.declared.timing.Mode.TheVariants.{NonDrop}
use Rattle.cf_base.specs.declared.timing.Rate.TheVariants.{R24}
use Rattle.cf_base.proofs.FirstLaws.{nothing_from, not_found_from, get_take_within}
use Rattle.record_timeline.specs.Accepted.{share, overlap_at, first_overlap, greatest, frame_count, timeline_of}
use Rattle.record_timeline.specs.declared.TimelineFault.TheVariants.{Overlap}
use Rattle.demo.specs.Texts.{record_in}
use Rattle.demo.proofs.ListRows.{row, rows}

-- the row at a place
pub row_at : (a n k : ℕ) → k < n → slice_get (map row (range_with_len a n)) k ≡ Some (row (a + k))
row_at a zero k below = absurd (omega arith)
row_at a (suc n) zero below = (let e : a + 0 ≡ a = omega arith in rw e refl)
row_at a (suc n) (suc k) below = (let e : a + 1 + k ≡ a + suc k = omega arith in row_at (a + 1) n k (omega arith) ∙ rw e refl)

pub row_there : (events k : ℕ) → k < events → slice_get (rows events) k ≡ Some (row k)
row_there events k below = (let e : 0 + k ≡ k = omega arith in row_at 0 events k below ∙ rw e refl)

pub row_of : (events k : ℕ) (e : EventRec) → slice_get (rows events) k ≡ Some e → (k < events) × (e ≡ row k)
row_of events k e at =
    let within : k < length (rows events) = slice_get_within (rows events) k e at in
    let size : length (rows events) ≡ events = length-map-range_with_len row 0 events in
    let below : k < events = omega arith in
    (below, same_Some e (row k) (sym at ∙ row_there events k below))

-- a later row begins where an earlier one has ended
apart : (j k : ℕ) → j < k → share (row k) (row j) ≡ false
apart j k before =
    let ends : record_in (j / 4) (j % 4) + 6 ≤ record_in (k / 4) (k % 4) = omega arith in
    le-ltb (max (record_in (k / 4) (k % 4)) (record_in (j / 4) (j % 4))) (min (record_in (k / 4) (k % 4) + 6) (record_in (j / 4) (j % 4) + 6)) (omega arith)

apart_rows : (events j k : ℕ) (e f : EventRec) → j < k → e ≡ row k → f ≡ row j → share e f ≡ false
apart_rows events j k e f before is was = rw (is, was) (apart j k before)

pub no_overlap : (events : ℕ) → first_overlap (rows events) ≡ None
no_overlap events =
    nothing_from (λ (p : ℕ × EventRec). overlap_at (rows events) p.0 p.1) 0 (rows events) (λ k e at.
    let zero_plus : 0 + k ≡ k = omega arith in
    let is = row_of events k e at in
    rw zero_plus (ap (option_map (λ (old : EventRec). Overlap e.line old.line)) (not_found_from (share e) (take k (rows events)) (λ j f there.
    let within = get_take_within (rows events) k j f there in
    apart_rows events j k e f within.0 is.1 (row_of events j f within.1).1))))

-- the record is short
ends : (a n : ℕ) → a + n ≤ 1000 → greatest (map (λ (e : EventRec). e.rec_out) (map row (range_with_len a n))) ≤ 262144
ends a zero few = omega arith
ends a (suc n) few =
    let more = ends (a + 1) n (omega arith) in
    omega (arith, more)

pub timeline_is : (events : ℕ) → events ≤ 1000 → timeline_of R24 (record { mode = NonDrop; events = rows events }) ≡ Ok (record { rate = R24; mode = NonDrop; events = rows events })
timeline_is events few =
    let last = ends 0 events (omega arith) in
    rw (no_overlap events, le-ltb 262144 (frame_count (rows events)) (omega (arith, last))) refl
