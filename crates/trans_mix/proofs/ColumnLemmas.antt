-- Columns whose centres lie below a reach.
use Rattle.std.proofs.Common.{◌≡◌, ℕ, ◌+◌, ◌-◌, ◌*◌, ◌<◌, ◌≤◌, Bool, true, false, nat_lt, min, refl, ap, ◌∙◌, arith, inl, inr}
use Rattle.std.proofs.lemmas.Bool.{cases_lt}
use Rattle.std.proofs.lemmas.Bool.Decides.{nat_tests}
use Rattle.std.specs.Int.{abs_diff}
use Rattle.trans_mix.specs.Wipe.{has_passed}
use Rattle.trans_mix.specs.Columns.{AreColumns}
use Rattle.trans_mix.specs.inside.Columns.{from_left, from_right, from_middle}

pub below_true : (a b : ℕ) → a < b → nat_lt a b ≡ true
below_true a b lt = grind (arith, nat_tests)

below_false : (a b : ℕ) → b ≤ a → nat_lt a b ≡ false
below_false a b le = grind (arith, nat_tests)

-- a test that is the same on each column
pub same_columns : (p q : ℕ → Bool) (w from to : ℕ) → ((x : ℕ) → x < w → q x ≡ p x) → AreColumns p w from to → AreColumns q w from to
same_columns p q w from to same are = record {
  order = are.order;
  within = are.within;
  inside = λ x low high. same x (omega (arith, are.within)) ∙ are.inside x low high;
  before = λ x low. same x (omega (arith, are.order, are.within)) ∙ are.before x low;
  behind = λ x high last. same x last ∙ are.behind x high last;
}

-- From the right the columns are those from the left, turned round.
turned : (by reach w x : ℕ) → x < w → nat_lt ((2 * w - (2 * x + 1)) * by) reach ≡ nat_lt ((2 * (w - 1 - x) + 1) * by) reach
turned by reach w x lt =
    let same : 2 * w - (2 * x + 1) ≡ 2 * (w - 1 - x) + 1 = omega arith in
    ap (λ n. nat_lt (n * by) reach) same

not_below : (n by reach z : ℕ) → ((2 * z + 1) * by < reach → z < n) → n ≤ z → reach ≤ (2 * z + 1) * by
not_below n by reach z only le =
    elim (cases_lt ((2 * z + 1) * by) reach) [ inl lt ↦ absurd (omega (arith, only lt)) | inr high ↦ high ]

pub right_columns : (by reach w n count : ℕ)
    → ((x : ℕ) → ((2 * x + 1) * by < reach → x < n) × (x < n → (2 * x + 1) * by < reach))
    → count ≡ min n w → AreColumns (from_right by reach w) w (w - count) w
right_columns by reach w n count only is = record {
  order = omega arith;
  within = omega arith;
  inside = λ x low high. turned by reach w x high ∙ below_true _ _ ((only (w - 1 - x)).1 (omega arith));
  before = λ x low. turned by reach w x (omega arith) ∙ below_false _ _ (not_below n by reach (w - 1 - x) (only (w - 1 - x)).0 (omega arith));
  behind = λ x high last. absurd (omega arith);
}

-- A summand may stand on the other side.
moved : (a b c e m : ℕ) → a ≡ b + c → m ≡ e - c → nat_lt a e ≡ nat_lt b m
moved a b c e m sum is = grind (arith, nat_tests)

pub left_moved : (y w h k d across along line share whole reach from to : ℕ)
    → across ≡ w → along ≡ h → line ≡ y → share ≡ k → whole ≡ d
    → reach ≡ (2 * share + 1) * (2 * across * along) - (2 * line + 1) * across * whole
    → AreColumns (from_left (along * whole) reach) w from to
    → AreColumns (λ x. has_passed k d ((2 * x + 1) * h + (2 * y + 1) * w) (2 * w * h)) w from to
left_moved y w h k d across along line share whole reach from to is_w is_h is_y is_k is_d is are =
    same_columns (from_left (along * whole) reach) _ w from to
    (λ x lt. moved _ ((2 * x + 1) * (along * whole)) ((2 * y + 1) * w * d) _ reach (rw (is_h, is_d) (omega arith)) (is ∙ rw (is_w, is_h, is_y, is_k, is_d) refl))
    are

pub middle_moved : (y w h k d across along line share whole centre reach from to : ℕ)
    → across ≡ w → along ≡ h → line ≡ y → share ≡ k → whole ≡ d
    → centre ≡ abs_diff (2 * line + 1) along
    → reach ≡ (2 * share + 1) * (across * along) - centre * across * whole
    → AreColumns (from_middle (along * whole) reach w) w from to
    → AreColumns (λ x. has_passed k d (abs_diff (2 * x + 1) w * h + abs_diff (2 * y + 1) h * w) (w * h)) w from to
middle_moved y w h k d across along line share whole centre reach from to is_w is_h is_y is_k is_d is_centre is are =
    same_columns (from_middle (along * whole) reach w) _ w from to
    (λ x lt. product x (abs_diff (2 * x + 1) w))
    are
  where
    product : (x a : ℕ) → nat_lt ((a * h + abs_diff (2 * y + 1) h * w) * d) ((2 * k + 1) * (w * h)) ≡ nat_lt (a * (along * whole)) reach
    product x a = moved _ (a * (along * whole)) (abs_diff (2 * y + 1) h * w * d) _ reach (summed a (abs_diff (2 * y + 1) h)) (is ∙ rw (is_centre, is_w, is_h, is_y, is_k, is_d) refl)
      where
        summed : (a b : ℕ) → (a * h + b * w) * d ≡ a * (along * whole) + b * w * d
        summed a b = rw (is_h, is_d) (omega arith)
