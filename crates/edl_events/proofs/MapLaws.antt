-- A map of the table with one entry set.
use Rattle.std.proofs.Common.{◌≡◌, ℕ, Bool, true, false, ◌&&◌, cond, eqb, List, refl, ap, ◌∙◌, arith, Option}
use Rattle.std.specs.Prelude.{Some, None, unwrap_or}
use Rattle.std.specs.Option.{option_eq}
use Rattle.std.proofs.Math.Bool.{not}
use Rattle.std.specs.Str.{bytes_eq}
use Rattle.std.specs.BTreeMap.{BTreeMap, Updates, get}
use Rattle.std.specs.declared.cmp.Ordering.{Ordering}
use Rattle.std.specs.declared.cmp.Ordering.TheVariants.{Less, Equal, Greater}
use Rattle.std.specs.Ordering.{is_eq, nat_cmp, ordering_then}
use Rattle.std.specs.Cmp.Lexicographic.{slice_cmp}
use Rattle.std.proofs.lemmas.Bool.Decides.{nat_tests}
use Rattle.std.proofs.lemmas.Map.Text.{is_eq-slice_cmp}
use Rattle.edl_events.specs.declared.table.Count.{Count}
use Rattle.edl_events.specs.inside.Table.{goes_on, reel_cmp, seat_cmp, no_count, count_of, place_of, with_line, with_place}

same_number : (k n : ℕ) → is_eq (nat_cmp k n) ≡ eqb k n
same_number k n = grind (arith, nat_tests)

both_equal : (a b : Ordering) → is_eq (ordering_then a b) ≡ (is_eq a && is_eq b)
both_equal Less b = refl
both_equal Equal b = refl
both_equal Greater b = refl

count_by : (b : Bool) (c : Count) (o : Option Count) → unwrap_or (cond b (Some c) o) no_count ≡ cond b c (unwrap_or o no_count)
count_by true c o = refl
count_by false c o = refl

-- the counts with those of one reel set
pub count_set : (m n : BTreeMap (List ℕ) Count) (reel : List ℕ) (c : Count) → Updates reel_cmp m n reel (Some c) → (q : List ℕ) → count_of n q ≡ cond (bytes_eq reel q) c (count_of m q)
count_set m n reel c u q =
    ap (λ (o : Option Count). unwrap_or o no_count) (u.0 q)
    ∙ ap (λ (b : Bool). unwrap_or (cond b (Some c) (get reel_cmp m q)) no_count) (is_eq-slice_cmp reel q)
    ∙ count_by (bytes_eq reel q) c (get reel_cmp m q)

-- the places with one more
pub place_set : (m n : BTreeMap (List ℕ × ℕ) ℕ) (reel : List ℕ) (k place : ℕ) → Updates seat_cmp m n (reel, k) (Some place) → (q : List ℕ) (nth : ℕ) → place_of n q nth ≡ cond (bytes_eq reel q && eqb k nth) (Some place) (place_of m q nth)
place_set m n reel k place u q nth =
    u.0 (q, nth)
    ∙ ap (λ (b : Bool). cond b (Some place) (place_of m q nth)) (both_equal (slice_cmp nat_cmp reel q) (nat_cmp k nth) ∙ rw (is_eq-slice_cmp reel q, same_number k nth) refl)

-- counts and places that agree with others before a line agree with them behind it
pub same_line : (f g : List ℕ → Count) → ((q : List ℕ) → f q ≡ g q) → (reel q : List ℕ) → with_line f reel q ≡ with_line g reel q
same_line f g same reel q = rw (same reel, same q) refl

pub same_place : (f g : List ℕ → Count) (s t : List ℕ → ℕ → Option ℕ) → ((q : List ℕ) → f q ≡ g q) → ((q : List ℕ) (nth : ℕ) → s q nth ≡ t q nth) → (place : ℕ) (reel q : List ℕ) (nth : ℕ) → with_place f s place reel q nth ≡ with_place g t place reel q nth
same_place f g s t counts places place reel q nth = rw (counts reel, places q nth) refl

-- a run ends where the number is another one
pub ends_where : (number : Option ℕ) (n : ℕ) (other : Bool) → other ≡ not (option_eq eqb number (Some n)) → other ≡ not (goes_on number n)
ends_where None n other is = is
ends_where (Some k) n other is = is
