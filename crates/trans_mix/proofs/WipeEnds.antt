-- What a wipe's first and last frame show, by the pixels where it begins and ends; and wipes whose columns and lines are exchanged.
use Rattle.std.proofs.Common.{◌≡◌, ℕ, ◌+◌, ◌-◌, ◌*◌, ◌/◌, ◌<◌, ◌≤◌, Bool, true, false, ◌==◌, nat_lt, refl, ap, sym, ◌∙◌, arith}
use Rattle.std.specs.Prelude.{◌&&◌, IfSome, IsTrue}
use Rattle.std.specs.Int.{abs_diff}
use Rattle.std.specs.Map.{lookup}
use Rattle.std.proofs.lemmas.Bool.Decides.{nat_tests}
use Rattle.cf_base.specs.Events.{is_known_wipe}
use Rattle.std.proofs.Math.Nat.{mul-le-mul_left, mul-le-mul_right}
use Rattle.trans_mix.specs.Wipe.{has_passed, is_incoming}
use Rattle.trans_mix.specs.Laws.{BeginsEmpty, EndsFull, ReachesAll, Turns, Flips, way_of, shows_at, is_marked, early_wipes, full_wipes, off_middle, turned_wipes, flipped_wipes}
use Rattle.trans_mix.proofs.ColumnLemmas.{below_true}
use Rattle.trans_mix.proofs.WipeLaws.{never, Shapeless, by_shape, shows_nothing, listed_nowhere, begins_and_ends}

-- Two tests are the same where their sides lie equally far apart.
shifted : (a b c e : ℕ) → a + e ≡ c + b → nat_lt a b ≡ nat_lt c e
shifted a b c e same = grind (arith, nat_tests)

same_test : (a b c e : ℕ) → a ≡ c → b ≡ e → nat_lt a b ≡ nat_lt c e
same_test a b c e left right = rw (left, right) refl

all_of : (p q r s : Bool) → p ≡ r → q ≡ s → (p && q) ≡ (r && s)
all_of p q r s first second = rw (first, second) refl

turned_over : (p q : Bool) → (p && q) ≡ (q && p)
turned_over true true = refl
turned_over true false = refl
turned_over false true = refl
turned_over false false = refl

-- The first frame, where the shape begins.

left_early : (d w : ℕ) → has_passed 0 d (2 * 0 + 1) w ≡ nat_lt d w
left_early d w = shifted ((2 * 0 + 1) * d) ((2 * 0 + 1) * w) d w (omega arith)

right_early : (d w : ℕ) → 0 < w → has_passed 0 d (2 * w - (2 * (w - 1) + 1)) w ≡ nat_lt d w
right_early d w some =
    let one : (2 * w - (2 * (w - 1) + 1)) * d ≡ 1 * d = ap (λ n. n * d) (omega arith) in
    shifted ((2 * w - (2 * (w - 1) + 1)) * d) ((2 * 0 + 1) * w) d w (omega arith)

off_middle_is : (w : ℕ) → abs_diff (2 * (w / 2) + 1) w ≡ off_middle w
off_middle_is w = omega arith

middle_early : (d w : ℕ) → has_passed 0 d (abs_diff (2 * (w / 2) + 1) w * 2) w ≡ nat_lt (2 * d * off_middle w) w
middle_early d w =
    let same : abs_diff (2 * (w / 2) + 1) w * (2 * d) ≡ off_middle w * (2 * d) = ap (λ n. n * (2 * d)) (off_middle_is w) in
    shifted (abs_diff (2 * (w / 2) + 1) w * 2 * d) ((2 * 0 + 1) * w) (2 * d * off_middle w) w (omega arith)

diamond_early : (d w h : ℕ) → has_passed 0 d (abs_diff (2 * (w / 2) + 1) w * h + abs_diff (2 * (h / 2) + 1) h * w) (w * h) ≡ nat_lt (d * (off_middle w * h + off_middle h * w)) (w * h)
diamond_early d w h =
    let across : abs_diff (2 * (w / 2) + 1) w * (h * d) ≡ off_middle w * (h * d) = ap (λ n. n * (h * d)) (off_middle_is w) in
    let along : abs_diff (2 * (h / 2) + 1) h * (w * d) ≡ off_middle h * (w * d) = ap (λ n. n * (w * d)) (off_middle_is h) in
    shifted ((abs_diff (2 * (w / 2) + 1) w * h + abs_diff (2 * (h / 2) + 1) h * w) * d) ((2 * 0 + 1) * (w * h)) (d * (off_middle w * h + off_middle h * w)) (w * h) (omega arith)

-- The last frame, k of k + 1, where the shape ends.

left_full : (k w : ℕ) → 0 < w → has_passed k (k + 1) (2 * (w - 1) + 1) w ≡ nat_lt w (k + 1)
left_full k w some =
    let same : (2 * (w - 1) + 1 + 1) * (k + 1) ≡ 2 * w * (k + 1) = ap (λ n. n * (k + 1)) (omega arith) in
    shifted ((2 * (w - 1) + 1) * (k + 1)) ((2 * k + 1) * w) w (k + 1) (omega arith)

right_full : (k w : ℕ) → 0 < w → has_passed k (k + 1) (2 * w - (2 * 0 + 1)) w ≡ nat_lt w (k + 1)
right_full k w some =
    let same : (2 * w - (2 * 0 + 1) + 1) * (k + 1) ≡ 2 * w * (k + 1) = ap (λ n. n * (k + 1)) (omega arith) in
    shifted ((2 * w - (2 * 0 + 1)) * (k + 1)) ((2 * k + 1) * w) w (k + 1) (omega arith)

edge_is : (w : ℕ) → 0 < w → abs_diff (2 * 0 + 1) w + 1 ≡ w
edge_is w some = omega arith

middle_full : (k w : ℕ) → 0 < w → has_passed k (k + 1) (abs_diff (2 * 0 + 1) w * 2) w ≡ nat_lt w (2 * (k + 1))
middle_full k w some =
    let same : (abs_diff (2 * 0 + 1) w + 1) * (2 * (k + 1)) ≡ w * (2 * (k + 1)) = ap (λ n. n * (2 * (k + 1))) (edge_is w some) in
    shifted (abs_diff (2 * 0 + 1) w * 2 * (k + 1)) ((2 * k + 1) * w) w (2 * (k + 1)) (omega arith)

diagonal_full : (k w h : ℕ) → 0 < w → 0 < h → has_passed k (k + 1) ((2 * (w - 1) + 1) * h + (2 * (h - 1) + 1) * w) (2 * w * h) ≡ nat_lt (2 * w * h) ((k + 1) * (w + h))
diagonal_full k w h some_w some_h =
    let across : (2 * (w - 1) + 1 + 1) * (h * (k + 1)) ≡ 2 * w * (h * (k + 1)) = ap (λ n. n * (h * (k + 1))) (omega arith) in
    let along : (2 * (h - 1) + 1 + 1) * (w * (k + 1)) ≡ 2 * h * (w * (k + 1)) = ap (λ n. n * (w * (k + 1))) (omega arith) in
    shifted (((2 * (w - 1) + 1) * h + (2 * (h - 1) + 1) * w) * (k + 1)) ((2 * k + 1) * (2 * w * h)) (2 * w * h) ((k + 1) * (w + h)) (omega arith)

diamond_full : (k w h : ℕ) → 0 < w → 0 < h → has_passed k (k + 1) (abs_diff (2 * 0 + 1) w * h + abs_diff (2 * 0 + 1) h * w) (w * h) ≡ nat_lt (w * h) ((k + 1) * (w + h))
diamond_full k w h some_w some_h =
    let across : (abs_diff (2 * 0 + 1) w + 1) * (h * (k + 1)) ≡ w * (h * (k + 1)) = ap (λ n. n * (h * (k + 1))) (edge_is w some_w) in
    let along : (abs_diff (2 * 0 + 1) h + 1) * (w * (k + 1)) ≡ h * (w * (k + 1)) = ap (λ n. n * (w * (k + 1))) (edge_is h some_h) in
    shifted ((abs_diff (2 * 0 + 1) w * h + abs_diff (2 * 0 + 1) h * w) * (k + 1)) ((2 * k + 1) * (w * h)) (w * h) ((k + 1) * (w + h)) (omega arith)

-- The pixel where a wipe begins tells of the first frame, and the one where it ends of the last.

pub record IsMarked (w h d k code : ℕ) : Type 0 where
  pub first_column : (way_of code w h).0.0 < w
  pub first_line : (way_of code w h).0.1 < h
  pub last_column : (way_of code w h).1.0 < w
  pub last_line : (way_of code w h).1.1 < h
  pub early : shows_at code (way_of code w h).0 w h 0 d ≡ is_marked code (early_wipes w h d)
  pub full : shows_at code (way_of code w h).1 w h k (k + 1) ≡ is_marked code (full_wipes w h (k + 1))

marked : (code w h d k : ℕ) → 0 < w → 0 < h → IsMarked w h d k code
marked code w h d k some_w some_h = by_shape (IsMarked w h d k) (record {
  left = at 1 (omega arith) (omega arith) (omega arith) (omega arith) (left_early d w) (left_full k w some_w);
  top = at 2 (omega arith) (omega arith) (omega arith) (omega arith) (left_early d h) (left_full k h some_h);
  top_left = at 3 (omega arith) (omega arith) (omega arith) (omega arith) (all_of _ _ _ _ (left_early d w) (left_early d h)) (all_of _ _ _ _ (left_full k w some_w) (left_full k h some_h));
  top_right = at 4 (omega arith) (omega arith) (omega arith) (omega arith) (all_of _ _ _ _ (right_early d w some_w) (left_early d h)) (all_of _ _ _ _ (right_full k w some_w) (left_full k h some_h));
  bottom_right = at 5 (omega arith) (omega arith) (omega arith) (omega arith) (all_of _ _ _ _ (right_early d w some_w) (right_early d h some_h)) (all_of _ _ _ _ (right_full k w some_w) (right_full k h some_h));
  bottom_left = at 6 (omega arith) (omega arith) (omega arith) (omega arith) (all_of _ _ _ _ (left_early d w) (right_early d h some_h)) (all_of _ _ _ _ (left_full k w some_w) (right_full k h some_h));
  across = at 21 (omega arith) (omega arith) (omega arith) (omega arith) (middle_early d w) (middle_full k w some_w);
  along = at 22 (omega arith) (omega arith) (omega arith) (omega arith) (middle_early d h) (middle_full k h some_h);
  diagonal = at 41 (omega arith) (omega arith) (omega arith) (omega arith)
      (shifted (((2 * 0 + 1) * h + (2 * 0 + 1) * w) * d) ((2 * 0 + 1) * (2 * w * h)) (d * (w + h)) (2 * w * h) (omega arith))
      (diagonal_full k w h some_w some_h);
  box = at 101 (omega arith) (omega arith) (omega arith) (omega arith) (all_of _ _ _ _ (middle_early d w) (middle_early d h)) (all_of _ _ _ _ (middle_full k w some_w) (middle_full k h some_h));
  diamond = at 102 (omega arith) (omega arith) (omega arith) (omega arith) (diamond_early d w h) (diamond_full k w h some_w some_h);
}) (λ c shapeless. nothing c shapeless) code
  where
    at : (c : ℕ) → (way_of c w h).0.0 < w → (way_of c w h).0.1 < h → (way_of c w h).1.0 < w → (way_of c w h).1.1 < h
        → shows_at c (way_of c w h).0 w h 0 d ≡ is_marked c (early_wipes w h d)
        → shows_at c (way_of c w h).1 w h k (k + 1) ≡ is_marked c (full_wipes w h (k + 1)) → IsMarked w h d k c
    at c a b p q early full = record { first_column = a; first_line = b; last_column = p; last_line = q; early = early; full = full }

    nothing : (c : ℕ) → Shapeless c → IsMarked w h d k c
    nothing c shapeless =
        let unlisted : way_of c w h ≡ ((0, 0), (0, 0)) = listed_nowhere c shapeless _ _ _ _ _ _ _ _ _ _ _ ((0, 0), (0, 0)) in
        record {
          first_column = omega (arith, ap (λ way. way.0.0) unlisted);
          first_line = omega (arith, ap (λ way. way.0.1) unlisted);
          last_column = omega (arith, ap (λ way. way.1.0) unlisted);
          last_line = omega (arith, ap (λ way. way.1.1) unlisted);
          early = shows_nothing c shapeless _ _ w h 0 d ∙ sym (listed_nowhere c shapeless _ _ _ _ _ _ _ _ _ _ _ false);
          full = shows_nothing c shapeless _ _ w h k (k + 1) ∙ sym (listed_nowhere c shapeless _ _ _ _ _ _ _ _ _ _ _ false);
        }

pub begins_empty : BeginsEmpty
begins_empty code w h d some_w some_h =
    let is : IsMarked w h d 0 code = marked code w h d 0 some_w some_h in (
      λ nothing. sym is.early ∙ nothing _ _ is.first_column is.first_line,
      λ late. (begins_and_ends code w h 0 d).0 (is.early ∙ late),
    )

pub ends_full : EndsFull
ends_full code w h k some_w some_h =
    let is : IsMarked w h 0 k code = marked code w h 0 k some_w some_h in (
      λ all. sym is.full ∙ all _ _ is.last_column is.last_line,
      λ full. (begins_and_ends code w h k (k + 1)).1 (is.full ∙ full),
    )

unknown : (c : ℕ) → Shapeless c → is_known_wipe c ≡ false
unknown c shapeless = grind (arith, nat_tests)

abbrev Fills : (w h k code : ℕ) → Type 0
Fills w h k code = IsTrue (is_known_wipe code) → is_marked code (full_wipes w h (k + 1)) ≡ true

fills : (code w h k : ℕ) → 0 < w → 0 < h → w ≤ k → h ≤ k → Fills w h k code
fills code w h k some_w some_h few_w few_h = by_shape (Fills w h k) (record {
  left = λ _. columns;
  top = λ _. lines;
  top_left = λ _. all_of _ _ true true columns lines;
  top_right = λ _. all_of _ _ true true columns lines;
  bottom_right = λ _. all_of _ _ true true columns lines;
  bottom_left = λ _. all_of _ _ true true columns lines;
  across = λ _. half_columns;
  along = λ _. half_lines;
  diagonal = λ _. below_true (2 * w * h) ((k + 1) * (w + h)) (omega (arith, by_w, by_h));
  box = λ _. all_of _ _ true true half_columns half_lines;
  diamond = λ _. below_true (w * h) ((k + 1) * (w + h)) (omega (arith, by_w, by_h));
}) (λ c shapeless. never _ _ (unknown c shapeless)) code
  where
    columns : nat_lt w (k + 1) ≡ true
    columns = below_true w (k + 1) (omega arith)

    lines : nat_lt h (k + 1) ≡ true
    lines = below_true h (k + 1) (omega arith)

    half_columns : nat_lt w (2 * (k + 1)) ≡ true
    half_columns = below_true w (2 * (k + 1)) (omega arith)

    half_lines : nat_lt h (2 * (k + 1)) ≡ true
    half_lines = below_true h (2 * (k + 1)) (omega arith)

    by_w : w * h ≤ k * h
    by_w = mul-le-mul_right h few_w

    by_h : w * h ≤ w * k
    by_h = mul-le-mul_left w few_h

pub reaches_all : ReachesAll
reaches_all code w h k known few_w few_h x y in_w in_h =
    (ends_full code w h k (omega arith) (omega arith)).1 (fills code w h k (omega arith) (omega arith) few_w few_h known) x y in_w in_h

-- Columns and lines exchanged, and left and right.

abbrev IsTurned : (x y w h k d code : ℕ) → Type 0
IsTurned x y w h k d code = IfSome (lookup (λ c. code == c) turned_wipes) (λ other. is_incoming code x y w h k d ≡ is_incoming other y x h w k d)

pub turns : Turns
turns code x y w h k d = by_shape (IsTurned x y w h k d) (record {
  left = refl;
  top = refl;
  top_left = turned_over left top;
  top_right = turned_over right top;
  bottom_right = turned_over right bottom;
  bottom_left = turned_over left bottom;
  across = refl;
  along = refl;
  diagonal = same_test _ _ _ _ (omega arith) (omega arith);
  box = turned_over (has_passed k d (abs_diff (2 * x + 1) w * 2) w) (has_passed k d (abs_diff (2 * y + 1) h * 2) h);
  diamond = same_test _ _ _ _ (omega arith) (omega arith);
})
    (λ c shapeless. rw (
      shapeless.left,
      shapeless.top,
      shapeless.top_left,
      shapeless.top_right,
      shapeless.bottom_right,
      shapeless.bottom_left,
      shapeless.across,
      shapeless.along,
      shapeless.diagonal,
      shapeless.box,
      shapeless.diamond,
    ) tt)
    code
  where
    left : Bool
    left = has_passed k d (2 * x + 1) w

    top : Bool
    top = has_passed k d (2 * y + 1) h

    right : Bool
    right = has_passed k d (2 * w - (2 * x + 1)) w

    bottom : Bool
    bottom = has_passed k d (2 * h - (2 * y + 1)) h

abbrev IsFlipped : (x y w h k d code : ℕ) → Type 0
IsFlipped x y w h k d code = IfSome (lookup (λ c. code == c) flipped_wipes) (λ other. is_incoming code x y w h k d ≡ is_incoming other (w - 1 - x) y w h k d)

pub flips : Flips
flips code x y w h k d within = by_shape (IsFlipped x y w h k d) (record {
  left = tt;
  top = refl;
  top_left = ap (λ n. has_passed k d n w && top) rightward;
  top_right = ap (λ n. has_passed k d n w && top) leftward;
  bottom_right = ap (λ n. has_passed k d n w && bottom) leftward;
  bottom_left = ap (λ n. has_passed k d n w && bottom) rightward;
  across = ap (λ n. has_passed k d (n * 2) w) middle;
  along = refl;
  diagonal = tt;
  box = ap (λ n. has_passed k d (n * 2) w && has_passed k d (abs_diff (2 * y + 1) h * 2) h) middle;
  diamond = ap (λ n. has_passed k d (n * h + abs_diff (2 * y + 1) h * w) (w * h)) middle;
})
    (λ c shapeless. rw (
      shapeless.top,
      shapeless.top_left,
      shapeless.top_right,
      shapeless.bottom_right,
      shapeless.bottom_left,
      shapeless.across,
      shapeless.along,
      shapeless.box,
      shapeless.diamond,
    ) tt)
    code
  where
    top : Bool
    top = has_passed k d (2 * y + 1) h

    bottom : Bool
    bottom = has_passed k d (2 * h - (2 * y + 1)) h

    rightward : 2 * x + 1 ≡ 2 * w - (2 * (w - 1 - x) + 1)
    rightward = omega arith

    leftward : 2 * w - (2 * x + 1) ≡ 2 * (w - 1 - x) + 1
    leftward = omega arith

    middle : abs_diff (2 * x + 1) w ≡ abs_diff (2 * (w - 1 - x) + 1) w
    middle = omega arith
