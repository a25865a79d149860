-- The table of open lines, a line more.
use Rattle.std.proofs.Common.{◌≡◌, ℕ, zero, suc, ◌+◌, ◌<◌, ◌≤◌, Bool, true, false, cond, eqb, List, [], ◌∷◌, ◌++◌, length, drop, refl, ap, sym, subst, ◌∙◌, arith, Option, length-append, inl, inr}
use Rattle.std.specs.Prelude.{Some, None, slice_get, unwrap_or}
use Rattle.std.specs.List.{filter, count_by}
use Rattle.std.specs.Str.{bytes_eq}
use Rattle.std.proofs.lemmas.Bool.{cases_Bool, cases_eq, eq-eqb, ne_eqb}
use Rattle.std.proofs.lemmas.Option.{none-some, same_Some}
use Rattle.std.proofs.lemmas.List.{drop-append-le, append-nil}
use Rattle.std.proofs.lemmas.List.Elements.{filter-append}
use Rattle.std.proofs.lemmas.Slice.Eq.{bytes_eq-Decides}
use Rattle.std.proofs.Math.Seq.{drop-append_seam}
use Rattle.edl_events.specs.declared.table.Count.{Count}
use Rattle.edl_events.specs.Places.{Line, Head, head_of_kind, is_event, passes_at}
use Rattle.edl_events.specs.Motion.{has_reel, moves_reel, motions_from, owner_after, run_after}
use Rattle.edl_events.specs.inside.Table.{AllBelow, run_number, goes_on, run_of, no_count, kept_count, kept_place, one_more, with_line, with_place, IsTable}
use Rattle.edl_events.proofs.OneMore.{slice_get_here}
use Rattle.edl_events.proofs.StateLaws.{count_more}
use Rattle.edl_events.proofs.RunLaws.{filter_front, run_same, number_same, run_more, number_more}

-- a list without a first element is empty
no_first : (xs : List ℕ) → slice_get xs 0 ≡ None → xs ≡ []
no_first [] e = refl
no_first (x ∷ xs) e = absurd (none-some x (sym e))

-- the line to which a motion line belongs
pub owner_is : (before : List Line) (number : Option ℕ) (counts : List ℕ → Count) (seats : List ℕ → ℕ → Option ℕ) → IsTable before number counts seats → (reel : List ℕ)
    → owner_after before reel ≡ seats reel (counts reel).moved
owner_is before number counts seats t reel = by_first (slice_get (run_after before) 0) refl
  where
    by_first : (o : Option ℕ) → slice_get (run_after before) 0 ≡ o → slice_get (run_of before reel) (motions_from (unwrap_or o 0) before reel) ≡ seats reel (counts reel).moved
    by_first None e =
        let nothing : (nth : ℕ) → slice_get (run_of before reel) nth ≡ None
        = λ nth. ap (λ (run : List ℕ). slice_get (filter (passes_at (has_reel reel) before) run) nth) (no_first (run_after before) e) in
        nothing (motions_from 0 before reel) ∙ sym (t.placed reel (counts reel).moved ∙ nothing (counts reel).moved)
    by_first (Some p) e = ap (slice_get (run_of before reel)) (sym (t.moved reel p e)) ∙ sym (t.placed reel (counts reel).moved)

below_more : (n : ℕ) (is : List ℕ) → AllBelow n is → AllBelow (n + 1) is
below_more n [] h = tt
below_more n (i ∷ is) h = ((let b = h.0 in omega arith), below_more n is h.1)

below_push : (n : ℕ) (is : List ℕ) → AllBelow n is → AllBelow (n + 1) (is ++ n ∷ [])
below_push n [] h = (omega arith, tt)
below_push n (i ∷ is) h = ((let b = h.0 in omega arith), below_push n is h.1)

below_first : (n : ℕ) (is : List ℕ) (p : ℕ) → AllBelow n is → slice_get is 0 ≡ Some p → p < n
below_first n [] p h e = absurd (none-some p e)
below_first n (i ∷ is) p h e = let same : i ≡ p = same_Some _ _ e in let b = h.0 in omega arith

same_below : (n m : ℕ) (is js : List ℕ) → m ≡ n → js ≡ is → AllBelow n is → AllBelow m js
same_below n m is js size same h = rw (size, same) h

-- how many lines pass behind a place, a line more
count_front : (q : Line → Bool) (before : List Line) (line : Line) (p : ℕ) → p ≤ length before → count_by q (drop p (before ++ line ∷ [])) ≡ count_by q (drop p before) + cond (q line) 1 0
count_front q before line p h = ap (count_by q) (drop-append-le p before (line ∷ []) h) ∙ count_more q (drop p before) line

one_at_most : (b : Bool) → cond b 1 0 ≤ 1
one_at_most true = omega arith
one_at_most false = omega arith

-- a line that is no event line
pub table_still : (before : List Line) (number : Option ℕ) (counts : List ℕ → Count) (seats : List ℕ → ℕ → Option ℕ) → IsTable before number counts seats → (line : Line) → is_event line ≡ false
    → (more : List ℕ → Count) (same : List ℕ → ℕ → Option ℕ) → ((reel : List ℕ) → (more reel).lines ≡ (counts reel).lines) → ((reel : List ℕ) → (more reel).moved ≡ (counts reel).moved + cond (moves_reel reel line) 1 0)
    → ((reel : List ℕ) (nth : ℕ) → same reel nth ≡ seats reel nth) → (run_after before ≡ [] → (reel : List ℕ) → (more reel).moved ≡ 0)
    → IsTable (before ++ line ∷ []) number more same
table_still before number counts seats t line other more same lines moves places none =
    let longer : length (before ++ line ∷ []) ≡ length before + 1 = length-append before (line ∷ []) in
    let run : run_after (before ++ line ∷ []) ≡ run_after before = run_same before line other in
    let reels : (reel : List ℕ) → run_of (before ++ line ∷ []) reel ≡ run_of before reel
    = λ reel. ap (filter (passes_at (has_reel reel) (before ++ line ∷ []))) run ∙ filter_front (has_reel reel) before line (run_after before) t.within in
    record {
      numbered = t.numbered ∙ sym (number_same before line other);
      within = same_below (length before + 1) _ (run_after before) _ longer run (below_more (length before) (run_after before) t.within);
      few = (let size = ap length run in let few = t.few in omega (arith, size, longer, few));
      placed = λ reel nth. places reel nth ∙ t.placed reel nth ∙ ap (λ (is : List ℕ). slice_get is nth) (sym (reels reel));
      counted = λ reel. lines reel ∙ t.counted reel ∙ ap length (sym (reels reel));
      moved = λ reel p first.
          let first_before : slice_get (run_after before) 0 ≡ Some p = ap (λ (is : List ℕ). slice_get is 0) (sym run) ∙ first in
          let b = below_first (length before) (run_after before) p t.within first_before in
          let a = count_front (moves_reel reel) before line p (omega arith) in
          let m = t.moved reel p first_before in
          let c = moves reel in
          omega (arith, a, m, c);
      unmoved = λ e. none (sym run ∙ e);
      few_moved = λ reel.
          let c = moves reel in
          let few = t.few_moved reel in
          let one = one_at_most (moves_reel reel line) in
          omega (arith, c, few, one, longer);
    }

reel_here : (before : List Line) (line : Line) (head : Head) → head_of_kind line.kind ≡ Some head → (reel : List ℕ) → passes_at (has_reel reel) (before ++ line ∷ []) (length before) ≡ bytes_eq head.reel reel
reel_here before line head is reel = rw (slice_get_here before line [], is) refl

-- a list with one element more at its end
get_push : (xs : List ℕ) (x nth : ℕ) → slice_get (xs ++ x ∷ []) nth ≡ cond (eqb (length xs) nth) (Some x) (slice_get xs nth)
get_push [] x zero = refl
get_push [] x (suc nth) = ap (λ (b : Bool). cond b (Some x) None) (sym (ne_eqb 0 (suc nth) (λ e. omega (arith, e))))
get_push (y ∷ ys) x zero = ap (λ (b : Bool). cond b (Some x) (Some y)) (sym (ne_eqb (suc (length ys)) 0 (λ e. omega (arith, e))))
get_push (y ∷ ys) x (suc nth) = get_push ys x nth ∙ ap (λ (b : Bool). cond b (Some x) (slice_get ys nth)) (by_cases (length ys) nth)
  where
    by_cases : (a b : ℕ) → eqb a b ≡ eqb (suc a) (suc b)
    by_cases a b = elim (cases_eq a b) [
      | inl same ↦ eq-eqb a b same ∙ sym (eq-eqb (suc a) (suc b) (omega (arith, same)))
      | inr apart ↦ ne_eqb a b apart ∙ sym (ne_eqb (suc a) (suc b) (λ e. apart (omega (arith, e))))
    ]

few_of : (p : ℕ → Bool) (xs : List ℕ) → length (filter p xs) ≤ length xs
few_of p [] = omega arith
few_of p (x ∷ xs) = elim (cases_Bool (p x)) [
  | inl t ↦ let rest = few_of p xs in rw t (omega (arith, rest))
  | inr f ↦ let rest = few_of p xs in rw f (omega (arith, rest))
]

-- counts have room
pub few_more : (n : ℕ) → n ≤ 4194304 → one_more n ≡ n + 1
few_more n few = omega arith

-- an event line
module _ (before : List Line) (number : Option ℕ) (counts : List ℕ → Count) (seats : List ℕ → ℕ → Option ℕ) (t : IsTable before number counts seats) (short : length before ≤ 4194304)
    (line : Line) (head : Head) (is : head_of_kind line.kind ≡ Some head) (still : (reel : List ℕ) → moves_reel reel line ≡ false) where
  moves_none : (reel : List ℕ) → count_by (moves_reel reel) (drop (length before) (before ++ line ∷ [])) ≡ 0
  moves_none reel = ap (count_by (moves_reel reel)) (drop-append_seam before (line ∷ [])) ∙ rw (still reel) refl

  -- the run behind the line, where `kept` is what it goes on with
  module _ (kept : List ℕ) (base : List ℕ → Count) (seated : List ℕ → ℕ → Option ℕ) (run : run_after (before ++ line ∷ []) ≡ kept ++ length before ∷ [])
      (within : AllBelow (length before) kept) (few : length kept ≤ length before)
      (placed : (reel : List ℕ) (nth : ℕ) → seated reel nth ≡ slice_get (filter (passes_at (has_reel reel) before) kept) nth)
      (counted : (reel : List ℕ) → (base reel).lines ≡ length (filter (passes_at (has_reel reel) before) kept))
      (moved : (reel : List ℕ) (p : ℕ) → slice_get kept 0 ≡ Some p → (base reel).moved ≡ motions_from p before reel)
      (unmoved : kept ≡ [] → (reel : List ℕ) → (base reel).moved ≡ 0)
      (few_moved : (reel : List ℕ) → (base reel).moved ≤ length before) where
    -- the lines of a reel that are kept
    abbrev front : List ℕ → List ℕ
    front reel = filter (passes_at (has_reel reel) before) kept

    reels : (reel : List ℕ) → run_of (before ++ line ∷ []) reel ≡ front reel ++ cond (bytes_eq head.reel reel) (length before ∷ []) []
    reels reel =
        let all : List Line = before ++ line ∷ [] in
        ap (filter (passes_at (has_reel reel) all)) run
        ∙ filter-append (passes_at (has_reel reel) all) kept (length before ∷ [])
        ∙ ap (λ (is : List ℕ). is ++ filter (passes_at (has_reel reel) all) (length before ∷ [])) (filter_front (has_reel reel) before line kept within)
        ∙ ap (λ (b : Bool). front reel ++ cond b (length before ∷ []) []) (reel_here before line head is reel)

    count_is : (more : List ℕ → Count) → ((q : List ℕ) → more q ≡ with_line base head.reel q) → (reel : List ℕ) → ((more reel).lines ≡ length (front reel ++ cond (bytes_eq head.reel reel) (length before ∷ []) [])) × ((more reel).moved ≡ (base reel).moved)
    count_is more h reel = elim (cases_Bool (bytes_eq head.reel reel)) [
      | inl same ↦
          let one : head.reel ≡ reel = (bytes_eq-Decides head.reel reel).0 same in
          let size : (base head.reel).lines ≡ length (front reel) = counted head.reel ∙ ap (λ (r : List ℕ). length (front r)) one in
          let small : length (front reel) ≤ length kept = few_of (passes_at (has_reel reel) before) kept in
          let next : one_more (base head.reel).lines ≡ (base head.reel).lines + 1 = few_more (base head.reel).lines (omega (arith, size, small, few, short)) in
          let long = length-append (front reel) (length before ∷ []) in
          let whole : more reel ≡ record { lines = one_more (base head.reel).lines; moved = (base head.reel).moved } = h reel ∙ rw same refl in
          let lines : (more reel).lines ≡ one_more (base head.reel).lines = ap (λ (c : Count). c.lines) whole in
          let moves : (more reel).moved ≡ (base head.reel).moved = ap (λ (c : Count). c.moved) whole in
          rw same (omega (arith, lines, next, size, long), moves ∙ ap (λ (r : List ℕ). (base r).moved) one)
      | inr other ↦
          let same : more reel ≡ base reel = h reel ∙ rw other refl in
          rw other (ap (λ (c : Count). c.lines) same ∙ counted reel ∙ ap length (sym (append-nil (front reel))), ap (λ (c : Count). c.moved) same)
    ]

    place_is : (after : List ℕ → ℕ → Option ℕ) → ((q : List ℕ) (nth : ℕ) → after q nth ≡ with_place base seated (length before) head.reel q nth) → (reel : List ℕ) (nth : ℕ) → after reel nth ≡ slice_get (front reel ++ cond (bytes_eq head.reel reel) (length before ∷ []) []) nth
    place_is after h reel nth = elim (cases_Bool (bytes_eq head.reel reel)) [
      | inl same ↦
          let one : head.reel ≡ reel = (bytes_eq-Decides head.reel reel).0 same in
          let size : (base head.reel).lines ≡ length (front reel) = counted head.reel ∙ ap (λ (r : List ℕ). length (front r)) one in
          h reel nth ∙ rw (same, size, placed reel nth) (sym (get_push (front reel) (length before) nth))
      | inr other ↦ h reel nth ∙ rw other (placed reel nth ∙ ap (λ (is : List ℕ). slice_get is nth) (sym (append-nil (front reel))))
    ]

    moved_is : (reel : List ℕ) (p : ℕ) → (ks : List ℕ) → ks ≡ kept → slice_get (ks ++ length before ∷ []) 0 ≡ Some p → (base reel).moved ≡ motions_from p (before ++ line ∷ []) reel
    moved_is reel p [] e first =
        let same : length before ≡ p = same_Some _ _ first in
        rw (← same, unmoved (sym e) reel) (sym (moves_none reel))
    moved_is reel p (k ∷ ks) e first =
        let first_kept : slice_get kept 0 ≡ Some p = subst (λ (is : List ℕ). slice_get is 0 ≡ Some p) e first in
        let b : p < length before = below_first (length before) kept p within first_kept in
        let a = count_front (moves_reel reel) before line p (omega arith) in
        let m = moved reel p first_kept in
        let z : motions_from p before reel + 0 ≡ motions_from p before reel = omega arith in
        m ∙ sym (a ∙ rw (still reel) z)

    table_with : (more : List ℕ → Count) (after : List ℕ → ℕ → Option ℕ) → ((q : List ℕ) → more q ≡ with_line base head.reel q) → ((q : List ℕ) (nth : ℕ) → after q nth ≡ with_place base seated (length before) head.reel q nth)
        → IsTable (before ++ line ∷ []) (Some head.number) more after
    table_with more after counts places =
        let longer : length (before ++ line ∷ []) ≡ length before + 1 = length-append before (line ∷ []) in
        let size : length (run_after (before ++ line ∷ [])) ≡ length kept + 1 = ap length run ∙ length-append kept (length before ∷ []) in
        record {
          numbered = sym (number_more before line head is);
          within = same_below (length before + 1) _ (kept ++ length before ∷ []) _ longer run (below_push (length before) kept within);
          few = omega (arith, longer, size, few);
          placed = λ reel nth. place_is after places reel nth ∙ ap (λ (is : List ℕ). slice_get is nth) (sym (reels reel));
          counted = λ reel. (count_is more counts reel).0 ∙ ap length (sym (reels reel));
          moved = λ reel p first. (count_is more counts reel).1 ∙ moved_is reel p kept refl (ap (λ (is : List ℕ). slice_get is 0) (sym run) ∙ first);
          unmoved = λ e. absurd (let none = ap length e in omega (arith, none, size));
          few_moved = λ reel. let same = (count_is more counts reel).1 in let few = few_moved reel in omega (arith, same, few, longer);
        }

  table_by : (b : Bool) → goes_on number head.number ≡ b → (more : List ℕ → Count) (after : List ℕ → ℕ → Option ℕ) → ((q : List ℕ) → more q ≡ with_line (kept_count b counts) head.reel q)
      → ((q : List ℕ) (nth : ℕ) → after q nth ≡ with_place (kept_count b counts) (kept_place b seats) (length before) head.reel q nth) → IsTable (before ++ line ∷ []) (Some head.number) more after
  table_by true e =
      let by : goes_on (run_number before) head.number ≡ true = ap (λ (o : Option ℕ). goes_on o head.number) (sym t.numbered) ∙ e in
      table_with (run_after before) counts seats (run_more before line head is ∙ rw by refl) t.within t.few t.placed t.counted t.moved t.unmoved t.few_moved
  table_by false e =
      let by : goes_on (run_number before) head.number ≡ false = ap (λ (o : Option ℕ). goes_on o head.number) (sym t.numbered) ∙ e in
      table_with [] (λ q. no_count) (λ q nth. None) (run_more before line head is ∙ rw by refl) tt (omega arith) (λ reel nth. refl) (λ reel. refl) (λ reel p first. absurd (none-some p first)) (λ e reel. refl) (λ reel. omega arith)

  pub table_more : (more : List ℕ → Count) (after : List ℕ → ℕ → Option ℕ) → ((q : List ℕ) → more q ≡ with_line (kept_count (goes_on number head.number) counts) head.reel q)
      → ((q : List ℕ) (nth : ℕ) → after q nth ≡ with_place (kept_count (goes_on number head.number) counts) (kept_place (goes_on number head.number) seats) (length before) head.reel q nth) → IsTable (before ++ line ∷ []) (Some head.number) more after
  table_more = table_by (goes_on number head.number) refl
