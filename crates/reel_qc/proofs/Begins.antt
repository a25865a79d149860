-- The record frames of the cells.
use Rattle.std.proofs.Common.{◌≡◌, ℕ, ◌+◌, ◌-◌, ◌*◌, ◌/◌, ◌<◌, ◌≤◌, Bool, true, false, cond, List, [], ◌∷◌, ◌++◌, length, map, filter, take, get_or, Some, refl, sym, ap, subst, ◌∙◌, arith, append-nil}
use Rattle.std.specs.Prelude.{nat_lt, slice_get}
use Rattle.std.specs.List.{All}
use Rattle.std.proofs.lemmas.Bool.{lt-ltb}
use Rattle.std.proofs.lemmas.Bool.Decides.{nat_tests}
use Rattle.std.proofs.lemmas.Option.{none-some, slice_get_read}
use Rattle.std.proofs.lemmas.List.{map-append}
use Rattle.std.proofs.lemmas.List.Elements.{filter_more}
use Rattle.cf_base.specs.declared.event.EventRec.{EventRec}
use Rattle.cf_base.specs.declared.timing.Mode.{Mode}
use Rattle.cf_base.specs.declared.timing.Rate.{Rate}
use Rattle.cf_base.specs.Events.{IsWellMade, record_length}
use Rattle.std.proofs.Math.Nat.{div-le_self}
use Rattle.std.proofs.lemmas.Nat.{le-div}
use Rattle.record_timeline.specs.Accepted.{first_frame, frame_count}
use Rattle.record_timeline.proofs.EndLaws.{begins_of, begins_has, end_over, first_under}

abbrev is_long : EventRec → Bool
is_long e = nat_lt 0 (record_length e)

long_map : (f : EventRec → ℕ) (events : List EventRec) → length (map f events) ≡ length events
long_map f [] = refl
long_map f (e ∷ events) = let rest = long_map f events in omega (arith, rest)

some_of : (ns : List ℕ) (k m : ℕ) → slice_get ns k ≡ Some m → 0 < length ns
some_of [] k m at = absurd (none-some m at)
some_of (n ∷ ns) k m at = omega arith

module _ (events : List EventRec) (i : ℕ) (e : EventRec) (within : i < length events) (is : e ≡ get_or events i e) (long : e.rec_in < e.rec_out) where
  there : slice_get events i ≡ Some e
  there = slice_get_read events (length events) i e refl within is

  pub not_before : first_frame events ≤ e.rec_in
  not_before = first_under events i e there long

  pub in_reel : e.rec_in - first_frame events < frame_count events
  in_reel = let last = end_over events i e there in let first = not_before in omega (arith, last, first, long)

-- a list that is well made has an event with record frames
pub some_begin : (rate : Rate) (mode : Mode) (events : List EventRec) → IsWellMade rate mode events → 0 < length (map (λ (e : EventRec). e.rec_in - first_frame events) (filter is_long events))
some_begin rate mode events made =
    let some = made.some_length in
    let e : EventRec = some.1 in
    let at : slice_get events some.0 ≡ Some e = slice_get_read events (length events) some.0 e refl some.2 (sym some.3) in
    let begin = begins_has events some.0 e at (omega (arith, some.4)) in
    let long : 0 < length (map (λ (e : EventRec). e.rec_in) (filter is_long events)) = some_of (begins_of events) begin.0 e.rec_in begin.1 in
    let one = long_map (λ (e : EventRec). e.rec_in) (filter is_long events) in
    let two = long_map (λ (e : EventRec). e.rec_in - first_frame events) (filter is_long events) in
    omega (arith, long, one, two)

-- one event more: it is a cell, or none
pub frames_more : (events : List EventRec) (first i : ℕ) (e : EventRec) (b : Bool) → i < length events → e ≡ get_or events i e → is_long e ≡ b
    → map (λ (e : EventRec). e.rec_in - first) (filter is_long (take (i + 1) events))
    ≡ map (λ (e : EventRec). e.rec_in - first) (filter is_long (take i events)) ++ map (λ (e : EventRec). e.rec_in - first) (cond b (e ∷ []) [])
frames_more events first i e b within at is =
    let E : EventRec → ℕ = λ (x : EventRec). x.rec_in - first in
    ap (map E) (filter_more is_long events i e within)
    ∙ rw (← at, is) (map-append E (filter is_long (take i events)) (cond b (e ∷ []) []))

pub frame_more : (events : List EventRec) (first i : ℕ) (e : EventRec) (frames new : List ℕ) → i < length events → e ≡ get_or events i e → e.rec_in < e.rec_out
    → frames ≡ map (λ (e : EventRec). e.rec_in - first) (filter is_long (take i events)) → new ≡ frames ++ (e.rec_in - first) ∷ []
    → new ≡ map (λ (e : EventRec). e.rec_in - first) (filter is_long (take (i + 1) events))
frame_more events first i e frames new within at long before more =
    more ∙ ap (λ l. l ++ (e.rec_in - first) ∷ []) before ∙ sym (frames_more events first i e true within at (lt-ltb 0 (record_length e) (omega (arith, long))))

pub frame_same : (events : List EventRec) (first i : ℕ) (e : EventRec) (frames : List ℕ) → i < length events → e ≡ get_or events i e → e.rec_out ≤ e.rec_in
    → frames ≡ map (λ (e : EventRec). e.rec_in - first) (filter is_long (take i events))
    → frames ≡ map (λ (e : EventRec). e.rec_in - first) (filter is_long (take (i + 1) events))
frame_same events first i e frames within at short before =
    let no : is_long e ≡ false = grind (arith, nat_tests) in
    before ∙ sym (frames_more events first i e false within at no ∙ append-nil _)

pub frames_of_list : (events same : List EventRec) (frames : List ℕ) → events ≡ same → frames ≡ map (λ (e : EventRec). e.rec_in - first_frame events) (filter is_long events)
    → frames ≡ map (λ (e : EventRec). e.rec_in - first_frame same) (filter is_long same)
frames_of_list events same frames is are = subst (λ (l : List EventRec). frames ≡ map (λ (e : EventRec). e.rec_in - first_frame l) (filter is_long l)) is are

pub within_list : (events same : List EventRec) (frames : List ℕ) → events ≡ same → All (λ i. i < frame_count events) frames → All (λ i. i < frame_count same) frames
within_list events same frames is all = subst (λ (l : List EventRec). All (λ i. i < frame_count l) frames) is all

pub most_is : (height : ℕ) → 0 < height → height ≤ 256 → (8 ≤ 8 * (4096 / height)) × (8 * (4096 / height) ≤ 32768)
most_is height some most =
    let one = le-div 1 4096 height some (omega (arith, most)) in
    let all = div-le_self 4096 height in
    (omega (arith, one), omega (arith, all))
