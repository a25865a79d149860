-- Codes and colours.
use Rattle.std.proofs.Common.{◌≡◌, ap, sym, refl, ℕ, ℤ, pos, negsuc, ◌≤◌, Bool, true, false, List, [], ◌∷◌, length, get_or, arith, Option, Some, None, nat_le, if◌then◌else◌}
use Rattle.std.proofs.Props.{props}
use Rattle.std.specs.Option.{option_map}
use Rattle.std.proofs.lemmas.Bool.{le-leb}
use Rattle.std.proofs.lemmas.Option.{none-some, same_Some}
use mathlib.Core.HLevel.{is_prop→PathP}
use Rattle.toml.specs.View.{items_view, view}
use Rattle.toml.specs.declared.value.Value.{Value}
use Rattle.cf_base.specs.declared.pixel.Rgb.{Rgb}
use Rattle.project_file.specs.Keys.{number_between}
use Rattle.project_file.specs.Projects.{Code, code_if, code_of, code_at, rgb_from, rgb_of}

-- a code without its range
abbrev pub bare : Option Code → Option ℕ
bare o = option_map (λ (code : Code). code.0) o

pub code_is : (z : ℤ) → bare (code_of z) ≡ number_between 0 1023 z
code_is (pos n) = let low : nat_le 0 n ≡ true = le-leb 0 n (omega arith) in rw low (by_cases (nat_le n 1023) refl)
  where
    by_cases : (in_range : Bool) (is : nat_le n 1023 ≡ in_range) → bare (code_if n in_range is) ≡ (if in_range then Some n else None)
    by_cases true is = refl
    by_cases false is = refl
code_is (negsuc n) = refl

-- colours of the same codes are one
pub same_rgb : (a b : Rgb) → a.r ≡ b.r → a.g ≡ b.g → a.b ≡ b.b → a ≡ b
same_rgb a b r g u = λ i. record {
  r = r i;
  g = g i;
  b = u i;
  r_in_range = is_prop→PathP (λ j. r j ≤ 1023) (λ j. hlevel props) a.r_in_range b.r_in_range i;
  g_in_range = is_prop→PathP (λ j. g j ≤ 1023) (λ j. hlevel props) a.g_in_range b.g_in_range i;
  b_in_range = is_prop→PathP (λ j. u j ≤ 1023) (λ j. hlevel props) a.b_in_range b.b_in_range i;
}

pub rgb_is : (x y z : Option Code) (p : Rgb) → bare x ≡ Some p.r → bare y ≡ Some p.g → bare z ≡ Some p.b → Some p ≡ rgb_from x y z
rgb_is None y z p r g b = absurd (none-some p.r r)
rgb_is (Some x) None z p r g b = absurd (none-some p.g g)
rgb_is (Some x) (Some y) None p r g b = absurd (none-some p.b b)
rgb_is (Some x) (Some y) (Some z) p r g b = ap Some (same_rgb p _ (sym (same_Some _ _ r)) (sym (same_Some _ _ g)) (sym (same_Some _ _ b)))

-- the colour of three values
pub of_three : (vs : List Value) (a b c : Value) → length vs ≡ 3 → a ≡ get_or vs 0 a → b ≡ get_or vs 1 b → c ≡ get_or vs 2 c
    → rgb_from (code_at (view a)) (code_at (view b)) (code_at (view c)) ≡ rgb_of (items_view vs)
of_three [] a b c h p q r = absurd (omega (arith, h))
of_three (x ∷ []) a b c h p q r = absurd (omega (arith, h))
of_three (x ∷ y ∷ []) a b c h p q r = absurd (omega (arith, h))
of_three (x ∷ y ∷ z ∷ []) a b c h p q r = rw (p, q, r) refl
of_three (x ∷ y ∷ z ∷ w ∷ vs) a b c h p q r = absurd (omega (arith, h))
