-- The laws of wipes, code by code.
use Rattle.std.proofs.Common.{◌≡◌, ℕ, ◌+◌, ◌-◌, ◌*◌, ◌/◌, ◌<◌, ◌≤◌, Bool, true, false, ◌==◌, refl, sym, subst, arith, inl, inr}
use Rattle.std.specs.Prelude.{[], ◌∷◌, ◌&&◌, unwrap_or}
use Rattle.std.proofs.Math.Nat.{mul-le-mul_left, mul-le-mul_right}
use Rattle.std.proofs.lemmas.Bool.{cases_lt}
use Rattle.std.proofs.lemmas.Bool.Decides.{nat_tests, eqb_tells}
use Rattle.std.specs.Int.{abs_diff}
use Rattle.std.specs.Map.{lookup}
use Rattle.trans_mix.specs.Wipe.{has_passed, is_incoming}
use Rattle.trans_mix.specs.Laws.{KeepsShowing, BeginsAndEnds, IsNoLater, way_of, shows_at}

-- a code is one of those with a shape, or none of them

pub record Shaped (P : ℕ → Type 0) : Type 0 where
  pub left : P 1
  pub top : P 2
  pub top_left : P 3
  pub top_right : P 4
  pub bottom_right : P 5
  pub bottom_left : P 6
  pub across : P 21
  pub along : P 22
  pub diagonal : P 41
  pub box : P 101
  pub diamond : P 102

pub record Shapeless (c : ℕ) : Type 0 where
  pub left : (c == 1) ≡ false
  pub top : (c == 2) ≡ false
  pub top_left : (c == 3) ≡ false
  pub top_right : (c == 4) ≡ false
  pub bottom_right : (c == 5) ≡ false
  pub bottom_left : (c == 6) ≡ false
  pub across : (c == 21) ≡ false
  pub along : (c == 22) ≡ false
  pub diagonal : (c == 41) ≡ false
  pub box : (c == 101) ≡ false
  pub diamond : (c == 102) ≡ false

or_else : (P : ℕ → Type 0) (c a : ℕ) → P a → ((c == a) ≡ false → P c) → P c
or_else P c a here rest = elim (eqb_tells c a) [ inl e ↦ subst P (sym e.1) here | inr e ↦ rest e.0 ]

pub by_shape : (P : ℕ → Type 0) → Shaped P → ((c : ℕ) → Shapeless c → P c) → (c : ℕ) → P c
by_shape P is other c =
    or_else P c 1 is.left
    (λ left. or_else P c 2 is.top
    (λ top. or_else P c 3 is.top_left
    (λ top_left. or_else P c 4 is.top_right
    (λ top_right. or_else P c 5 is.bottom_right
    (λ bottom_right. or_else P c 6 is.bottom_left
    (λ bottom_left. or_else P c 21 is.across
    (λ across. or_else P c 22 is.along
    (λ along. or_else P c 41 is.diagonal
    (λ diagonal. or_else P c 101 is.box
    (λ box. or_else P c 102 is.diamond
    (λ diamond. other c
    (record {
      left = left;
      top = top;
      top_left = top_left;
      top_right = top_right;
      bottom_right = bottom_right;
      bottom_left = bottom_left;
      across = across;
      along = along;
      diagonal = diagonal;
      box = box;
      diamond = diamond;
    }))))))))))))

-- a table of the shapes has nothing of another code
pub listed_nowhere : {A : Type 0} (c : ℕ) → Shapeless c → (a b e f g i j l m n o none : A)
    → unwrap_or
    (lookup (λ k. c == k)
    ((1, a) ∷ (2, b) ∷ (3, e) ∷ (4, f) ∷ (5, g) ∷ (6, i) ∷ (21, j) ∷ (22, l) ∷ (41, m) ∷ (101, n) ∷ (102, o) ∷ []))
    none
    ≡ none
listed_nowhere c is a b e f g i j l m n o none =
    rw (is.left, is.top, is.top_left, is.top_right, is.bottom_right, is.bottom_left, is.across, is.along, is.diagonal, is.box, is.diamond) refl

pub shows_nothing : (c : ℕ) → Shapeless c → (x y w h k d : ℕ) → is_incoming c x y w h k d ≡ false
shows_nothing c shapeless x y w h k d = listed_nowhere c shapeless _ _ _ _ _ _ _ _ _ _ _ false

pub never : (p q : Bool) → p ≡ false → p ≡ true → q ≡ true
never p q fails holds = cc

both : (p q r s : Bool) → (p ≡ true → r ≡ true) → (q ≡ true → s ≡ true) → (p && q) ≡ true → (r && s) ≡ true
both true q r s first second is = rw (first refl) (second is)
both false q r s first second is = cc

-- what holds of one shape's test holds at later times
passes_on : (k d m e distance reach : ℕ) → IsNoLater k d m e → has_passed k d distance reach ≡ true → has_passed m e distance reach ≡ true
passes_on k d m e distance reach later passed =
    let now : distance * d < (2 * k + 1) * reach = grind (arith, nat_tests) in
    elim (cases_lt (distance * e) ((2 * m + 1) * reach)) [
      | inl lt ↦ grind (arith, nat_tests)
      | inr le ↦
          let by_e : (distance * d + 1) * e ≤ (2 * k + 1) * reach * e = mul-le-mul_right e (omega arith) in
          let by_reach : reach * ((2 * k + 1) * e) ≤ reach * ((2 * m + 1) * d) = mul-le-mul_left reach later in
          let by_d : (2 * m + 1) * reach * d ≤ distance * e * d = mul-le-mul_right d le in
          let none : e ≤ 0 = omega arith in
          let no_way : distance * e ≤ distance * 0 = mul-le-mul_left distance none in
          let no_reach : reach ≤ 0 = omega arith in
          let nothing : (2 * k + 1) * reach ≤ (2 * k + 1) * 0 = mul-le-mul_left (2 * k + 1) no_reach in
          absurd (omega arith)
    ]

abbrev Keeps : (x y w h k d m e code : ℕ) → Type 0
Keeps x y w h k d m e code = is_incoming code x y w h k d ≡ true → is_incoming code x y w h m e ≡ true

pub keeps : KeepsShowing
keeps code x y w h k d m e later = by_shape (Keeps x y w h k d m e) (record {
  left = on _ _;
  top = on _ _;
  top_left = both _ _ _ _ (on _ _) (on _ _);
  top_right = both _ _ _ _ (on _ _) (on _ _);
  bottom_right = both _ _ _ _ (on _ _) (on _ _);
  bottom_left = both _ _ _ _ (on _ _) (on _ _);
  across = on _ _;
  along = on _ _;
  diagonal = on _ _;
  box = both _ _ _ _ (on _ _) (on _ _);
  diamond = on _ _;
}) (λ c shapeless. never _ _ (shows_nothing c shapeless x y w h k d)) code
  where
    on : (distance reach : ℕ) → has_passed k d distance reach ≡ true → has_passed m e distance reach ≡ true
    on distance reach = passes_on k d m e distance reach later

-- what the shape has passed shows all that is nearer
nearer : (k d near far reach : ℕ) → near ≤ far → has_passed k d far reach ≡ true → has_passed k d near reach ≡ true
nearer k d near far reach order passed = let less : near * d ≤ far * d = mul-le-mul_right d order in grind (arith, nat_tests)

-- of each direction, the place where it begins and the one where it ends
left_first : (k d x w : ℕ) → has_passed k d (2 * x + 1) w ≡ true → has_passed k d (2 * 0 + 1) w ≡ true
left_first k d x w = nearer k d (2 * 0 + 1) (2 * x + 1) w (omega arith)

left_last : (k d x w : ℕ) → x < w → has_passed k d (2 * (w - 1) + 1) w ≡ true → has_passed k d (2 * x + 1) w ≡ true
left_last k d x w within = nearer k d (2 * x + 1) (2 * (w - 1) + 1) w (omega arith)

right_first : (k d x w : ℕ) → x < w → has_passed k d (2 * w - (2 * x + 1)) w ≡ true → has_passed k d (2 * w - (2 * (w - 1) + 1)) w ≡ true
right_first k d x w within = nearer k d (2 * w - (2 * (w - 1) + 1)) (2 * w - (2 * x + 1)) w (omega arith)

right_last : (k d x w : ℕ) → has_passed k d (2 * w - (2 * 0 + 1)) w ≡ true → has_passed k d (2 * w - (2 * x + 1)) w ≡ true
right_last k d x w = nearer k d (2 * w - (2 * x + 1)) (2 * w - (2 * 0 + 1)) w (omega arith)

middle_nearest : (x w : ℕ) → abs_diff (2 * (w / 2) + 1) w ≤ abs_diff (2 * x + 1) w
middle_nearest x w = omega arith

edge_farthest : (x w : ℕ) → x < w → abs_diff (2 * x + 1) w ≤ abs_diff (2 * 0 + 1) w
edge_farthest x w within = omega arith

middle_first : (k d x w : ℕ) → has_passed k d (abs_diff (2 * x + 1) w * 2) w ≡ true → has_passed k d (abs_diff (2 * (w / 2) + 1) w * 2) w ≡ true
middle_first k d x w = nearer k d (abs_diff (2 * (w / 2) + 1) w * 2) (abs_diff (2 * x + 1) w * 2) w (mul-le-mul_right 2 (middle_nearest x w))

middle_last : (k d x w : ℕ) → x < w → has_passed k d (abs_diff (2 * 0 + 1) w * 2) w ≡ true → has_passed k d (abs_diff (2 * x + 1) w * 2) w ≡ true
middle_last k d x w within = nearer k d (abs_diff (2 * x + 1) w * 2) (abs_diff (2 * 0 + 1) w * 2) w (mul-le-mul_right 2 (edge_farthest x w within))

-- two distances, each taken as the other's reach
two_ways : (a b w h c e : ℕ) → a ≤ c → b ≤ e → a * h + b * w ≤ c * h + e * w
two_ways a b w h c e first second =
    let across : a * h ≤ c * h = mul-le-mul_right h first in
    let along : b * w ≤ e * w = mul-le-mul_right w second in
    omega arith

abbrev GoesItsWay : (x y w h k d code : ℕ) → Type 0
GoesItsWay x y w h k d code =
    (is_incoming code x y w h k d ≡ true → shows_at code (way_of code w h).0 w h k d ≡ true)
    × (shows_at code (way_of code w h).1 w h k d ≡ true → is_incoming code x y w h k d ≡ true)

goes : (x y w h k d : ℕ) → x < w → y < h → Shaped (GoesItsWay x y w h k d)
goes x y w h k d in_w in_h = record {
  left = (left_first k d x w, left_last k d x w in_w);
  top = (left_first k d y h, left_last k d y h in_h);
  top_left = (both _ _ _ _ (left_first k d x w) (left_first k d y h), both _ _ _ _ (left_last k d x w in_w) (left_last k d y h in_h));
  top_right = (both _ _ _ _ (right_first k d x w in_w) (left_first k d y h), both _ _ _ _ (right_last k d x w) (left_last k d y h in_h));
  bottom_right = (both _ _ _ _ (right_first k d x w in_w) (right_first k d y h in_h), both _ _ _ _ (right_last k d x w) (right_last k d y h));
  bottom_left = (both _ _ _ _ (left_first k d x w) (right_first k d y h in_h), both _ _ _ _ (left_last k d x w in_w) (right_last k d y h));
  across = (middle_first k d x w, middle_last k d x w in_w);
  along = (middle_first k d y h, middle_last k d y h in_h);
  diagonal = (
    nearer k d ((2 * 0 + 1) * h + (2 * 0 + 1) * w) ((2 * x + 1) * h + (2 * y + 1) * w) (2 * w * h)
        (two_ways (2 * 0 + 1) (2 * 0 + 1) w h (2 * x + 1) (2 * y + 1) (omega arith) (omega arith)),
    nearer k d ((2 * x + 1) * h + (2 * y + 1) * w) ((2 * (w - 1) + 1) * h + (2 * (h - 1) + 1) * w) (2 * w * h)
        (two_ways (2 * x + 1) (2 * y + 1) w h (2 * (w - 1) + 1) (2 * (h - 1) + 1) (omega arith) (omega arith)),
  );
  box = (both _ _ _ _ (middle_first k d x w) (middle_first k d y h), both _ _ _ _ (middle_last k d x w in_w) (middle_last k d y h in_h));
  diamond = (
    nearer k d (abs_diff (2 * (w / 2) + 1) w * h + abs_diff (2 * (h / 2) + 1) h * w) (abs_diff (2 * x + 1) w * h + abs_diff (2 * y + 1) h * w) (w * h)
        (two_ways _ _ w h _ _ (middle_nearest x w) (middle_nearest y h)),
    nearer k d (abs_diff (2 * x + 1) w * h + abs_diff (2 * y + 1) h * w) (abs_diff (2 * 0 + 1) w * h + abs_diff (2 * 0 + 1) h * w) (w * h)
        (two_ways _ _ w h _ _ (edge_farthest x w in_w) (edge_farthest y h in_h)),
  );
}

going : (code x y w h k d : ℕ) → x < w → y < h → GoesItsWay x y w h k d code
going code x y w h k d in_w in_h =
    by_shape (GoesItsWay x y w h k d) (goes x y w h k d in_w in_h)
    (λ c shapeless. (never _ _ (shows_nothing c shapeless x y w h k d), never _ _ (shows_nothing c shapeless _ _ w h k d))) code

not_shown : (p q : Bool) → (p ≡ true → q ≡ true) → q ≡ false → p ≡ false
not_shown true q shows fails = cc (shows refl)
not_shown false q shows fails = refl

pub begins_and_ends : BeginsAndEnds
begins_and_ends code w h k d = (
  λ fails x y in_w in_h. not_shown _ _ (going code x y w h k d in_w in_h).0 fails,
  λ shows x y in_w in_h. (going code x y w h k d in_w in_h).1 shows,
)
