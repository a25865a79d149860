-- The table and the speeds, a line more.
use Rattle.std.proofs.Common.{◌≡◌, ℕ, ℤ, ◌+◌, ◌≤◌, Bool, true, false, cond, eqb, List, [], ◌∷◌, ◌++◌, length, take, refl, ap, sym, subst, ◌∙◌, arith, Option, inl, inr}
use Rattle.std.specs.Prelude.{Some, None, Ok, slice_get, unwrap_or, IfSome, nat_abs}
use Rattle.std.specs.List.{filter}
use Rattle.std.specs.Str.{bytes_eq}
use Rattle.std.specs.Ordering.{nat_cmp}
use Rattle.std.specs.BTreeMap.{BTreeMap, get}
use Rattle.std.proofs.lemmas.Bool.{cases_Bool}
use Rattle.std.proofs.lemmas.Cmp.{nat_list_eq_equiv}
use Rattle.std.proofs.lemmas.Slice.Eq.{bytes_eq-Decides}
use Rattle.std.proofs.lemmas.Option.{none-some, slice_get_within}
use Rattle.std.proofs.lemmas.List.{length-take-le}
use Rattle.cf_base.specs.declared.lines.Span.{Span}
use Rattle.edl_lines.specs.declared.LineKind.{LineKind}
use Rattle.edl_lines.specs.declared.LineKind.TheVariants.{Blank, Note, Title, Fcm, Motion, Event, Skipped}
use Rattle.edl_events.specs.declared.table.Count.{Count}
use Rattle.edl_events.specs.declared.table.Table.{Table}
use Rattle.edl_events.specs.Places.{Line, Head, head_of_kind, passes_at}
use Rattle.edl_events.specs.Motion.{is_motion, has_reel, moves_reel, motions_from, run_after, owner_after, speed_at}
use Rattle.edl_events.specs.inside.Table.{IsTable, goes_on, count_of, place_of, kept_count, kept_place, with_place, with_motion, one_more as one_more_32}
use Rattle.edl_events.specs.inside.Reads.{Follows, IsPlain, IsAdded, noted}
use Rattle.edl_events.proofs.StateLaws.{one_more}
use Rattle.edl_events.proofs.TableLaws.{owner_is, table_still, table_more, few_more}
use Rattle.edl_events.proofs.SpeedLaws.{speed_same, speed_more}

still_by : (kind : LineKind) (line : Line) → line.kind ≡ Ok kind → IsPlain kind → is_motion line ≡ false
still_by Blank line is p = rw is refl
still_by Note line is p = rw is refl
still_by (Title text) line is p = rw is refl
still_by (Fcm mode) line is p = rw is refl
still_by (Motion reel speed trigger) line is p = absurd p
still_by (Event number reel transition spans) line is p = rw is refl
still_by (Skipped number reel) line is p = rw is refl

moves_by : (kind : LineKind) (line : Line) → line.kind ≡ Ok kind → IsPlain kind → (reel : List ℕ) → moves_reel reel line ≡ false
moves_by Blank line is p reel = rw is refl
moves_by Note line is p reel = rw is refl
moves_by (Title text) line is p reel = rw is refl
moves_by (Fcm mode) line is p reel = rw is refl
moves_by (Motion r speed trigger) line is p reel = absurd p
moves_by (Event number r transition spans) line is p reel = rw is refl
moves_by (Skipped number r) line is p reel = rw is refl

-- a table under the number that the code has
same_number : (before : List Line) (n m : Option ℕ) (counts : List ℕ → Count) (seats : List ℕ → ℕ → Option ℕ) → n ≡ m → IsTable before n counts seats → IsTable before m counts seats
same_number before n m counts seats e t = rw (← e) t

module _ (lines : List Line) (n : ℕ) (t : Table) (speeds : BTreeMap ℕ ℤ) (f : Follows lines n t speeds) (line : Line) (at : slice_get lines n ≡ Some line) (short : n ≤ 4194304) where
  few : length (take n lines) ≡ n
  few = let w = slice_get_within lines n line at in length-take-le n lines (omega arith)

  table_by : (new : Table) → ((reel : List ℕ) → moves_reel reel line ≡ false) → (o : Option Head) → head_of_kind line.kind ≡ o → IsAdded o n t new → IsTable (take n lines ++ line ∷ []) new.number (count_of new.counts) (place_of new.places)
  table_by new none None is h =
      same_number _ _ _ _ _ (sym h.0)
      (table_still (take n lines) t.number (count_of t.counts) (place_of t.places) f.table line (rw is refl) (count_of new.counts) (place_of new.places)
      (λ reel. ap (λ (c : Count). c.lines) (h.1 reel))
      (λ reel. let same = ap (λ (c : Count). c.moved) (h.1 reel) in rw (none reel) (let z : (count_of t.counts reel).moved + 0 ≡ (count_of t.counts reel).moved = omega arith in same ∙ sym z))
      h.2
      (λ empty reel. ap (λ (c : Count). c.moved) (h.1 reel) ∙ f.table.unmoved empty reel))
  table_by new none (Some head) is h =
      same_number _ _ _ _ _ (sym h.0)
      (table_more (take n lines) t.number (count_of t.counts) (place_of t.places) f.table (rw few short) line head is none (count_of new.counts) (place_of new.places) h.1
      (λ q nth. h.2 q nth ∙ ap (λ (k : ℕ). with_place (kept_count (goes_on t.number head.number) (count_of t.counts)) (kept_place (goes_on t.number head.number) (place_of t.places)) k head.reel q nth) (sym few)))

  pub follows_plain : (kind : LineKind) → line.kind ≡ Ok kind → IsPlain kind → (new : Table) → IsAdded (head_of_kind (Ok kind)) n t new → Follows lines (n + 1) new speeds
  follows_plain kind is plain new added =
      let more = one_more lines n line at in
      let speed : (event : ℕ) → speed_at (take (n + 1) lines) event ≡ speed_at (take n lines) event = λ event. ap (λ (ls : List Line). speed_at ls event) more ∙ speed_same (take n lines) line (still_by kind line is plain) event in
      record {
        table = subst (λ (ls : List Line). IsTable ls new.number (count_of new.counts) (place_of new.places)) (sym more) (table_by new (moves_by kind line is plain) (head_of_kind (Ok kind)) (ap head_of_kind is) added);
        known = λ event. f.known event ∙ sym (speed event);
        bounded = λ event. subst (λ (o : Option ℤ). IfSome o (λ s. nat_abs s ≤ 999999)) (sym (speed event)) (f.bounded event);
      }

  pub owner_known : (reel : List ℕ) → owner_after (take n lines) reel ≡ place_of t.places reel (count_of t.counts reel).moved
  owner_known reel = owner_is (take n lines) t.number (count_of t.counts) (place_of t.places) f.table reel

  bound_by : (b : Bool) (old : Option ℤ) (speed : ℤ) → nat_abs speed ≤ 999999 → IfSome old (λ s. nat_abs s ≤ 999999) → IfSome (cond b (Some (unwrap_or old speed)) old) (λ s. nat_abs s ≤ 999999)
  bound_by true None speed small old = small
  bound_by true (Some s) speed small old = old
  bound_by false o speed small old = old

  -- a motion line moves its own reel alone
  moves_here : (reel : List ℕ) (speed : ℤ) (trigger : Span) → line.kind ≡ Ok (Motion reel speed trigger) → (r : List ℕ) → moves_reel r line ≡ bytes_eq reel r
  moves_here reel speed trigger is r = rw is (nat_list_eq_equiv.symm r reel)

  -- the counts with one motion line more
  motion_count : (new : Table) (reel r : List ℕ) → ((q : List ℕ) → count_of new.counts q ≡ with_motion (count_of t.counts) reel q)
      → ((count_of new.counts r).lines ≡ (count_of t.counts r).lines) × ((count_of new.counts r).moved ≡ (count_of t.counts r).moved + cond (bytes_eq reel r) 1 0)
  motion_count new reel r counts = elim (cases_Bool (bytes_eq reel r)) [
    | inl same ↦
        let one : reel ≡ r = (bytes_eq-Decides reel r).0 same in
        let whole : count_of new.counts r ≡ record { lines = (count_of t.counts reel).lines; moved = one_more_32 (count_of t.counts reel).moved } = counts r ∙ rw same refl in
        let same_lines : (count_of new.counts r).lines ≡ (count_of t.counts reel).lines = ap (λ (c : Count). c.lines) whole in
        let moves : (count_of new.counts r).moved ≡ one_more_32 (count_of t.counts reel).moved = ap (λ (c : Count). c.moved) whole in
        let small : (count_of t.counts reel).moved ≤ length (take n lines) = f.table.few_moved reel in
        rw same (same_lines ∙ ap (λ (q : List ℕ). (count_of t.counts q).lines) one, moves ∙ few_more (count_of t.counts reel).moved (omega (arith, small, few, short)) ∙ ap (λ (q : List ℕ). (count_of t.counts q).moved + 1) one)
    | inr other ↦
        let same : count_of new.counts r ≡ count_of t.counts r = counts r ∙ rw other refl in
        let z : (count_of t.counts r).moved + 0 ≡ (count_of t.counts r).moved = omega arith in
        rw other (ap (λ (c : Count). c.lines) same, ap (λ (c : Count). c.moved) same ∙ sym z)
  ]

  pub follows_motion : (reel : List ℕ) (speed : ℤ) (trigger : Span) → line.kind ≡ Ok (Motion reel speed trigger) → nat_abs speed ≤ 999999 → (place : ℕ) → owner_after (take n lines) reel ≡ Some place
      → (new : Table) → new.number ≡ t.number → ((q : List ℕ) → count_of new.counts q ≡ with_motion (count_of t.counts) reel q) → ((q : List ℕ) (nth : ℕ) → place_of new.places q nth ≡ place_of t.places q nth)
      → (after : BTreeMap ℕ ℤ) → ((event : ℕ) → get nat_cmp after event ≡ noted (get nat_cmp speeds event) place speed event) → Follows lines (n + 1) new after
  follows_motion reel speed trigger is small place owner new number counts places after sets =
      let more = one_more lines n line at in
      let said : (event : ℕ) → speed_at (take (n + 1) lines) event ≡ cond (eqb place event) (Some (unwrap_or (speed_at (take n lines) event) speed)) (speed_at (take n lines) event)
      = λ event. ap (λ (ls : List Line). speed_at ls event) more ∙ speed_more (take n lines) line reel speed trigger is place owner event in
      let some : (r : List ℕ) → run_after (take n lines) ≡ [] → (count_of new.counts r).moved ≡ 0
      = λ r none. absurd (none-some place (ap (λ (run : List ℕ). slice_get (filter (passes_at (has_reel reel) (take n lines)) run) (motions_from (unwrap_or (slice_get (run_after (take n lines)) 0) 0) (take n lines) reel)) (sym none) ∙ owner)) in
      let table = table_still (take n lines) t.number (count_of t.counts) (place_of t.places) f.table line (rw is refl) (count_of new.counts) (place_of new.places)
      (λ r. (motion_count new reel r counts).0)
      (λ r. (motion_count new reel r counts).1 ∙ ap (λ (b : Bool). (count_of t.counts r).moved + cond b 1 0) (sym (moves_here reel speed trigger is r)))
      places (λ none r. some r none) in
      record {
        table = subst (λ (ls : List Line). IsTable ls new.number (count_of new.counts) (place_of new.places)) (sym more) (same_number _ _ _ _ _ (sym number) table);
        known = λ event. sets event ∙ ap (λ (o : Option ℤ). cond (eqb place event) (Some (unwrap_or o speed)) o) (f.known event) ∙ sym (said event);
        bounded = λ event. subst (λ (o : Option ℤ). IfSome o (λ s. nat_abs s ≤ 999999)) (sym (said event)) (bound_by (eqb place event) (speed_at (take n lines) event) speed small (f.bounded event));
      }

-- a speed that is passed on is the same number
pub same_sets : (after speeds : BTreeMap ℕ ℤ) (place : ℕ) (s speed : ℤ) → s ≡ speed → ((event : ℕ) → get nat_cmp after event ≡ noted (get nat_cmp speeds event) place s event) → (event : ℕ) → get nat_cmp after event ≡ noted (get nat_cmp speeds event) place speed event
same_sets after speeds place s speed same h event = h event ∙ ap (λ (x : ℤ). noted (get nat_cmp speeds event) place x event) same
