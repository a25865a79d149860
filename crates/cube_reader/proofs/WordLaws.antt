-- The numbers of a line's words, one by one.
use Rattle.std.proofs.Common.{◌≡◌, ℕ, zero, suc, Bool, true, false, cond, eqb, ◌&&◌, List, [], ◌∷◌, length, drop, get_or, refl, ap, sym, ◌∙◌, arith, Option, Result, inl, inr}
use Rattle.std.specs.Prelude.{Some, None, Ok, Err, option_and_then, is_ok}
use Rattle.std.specs.Option.{option_map}
use Rattle.std.specs.List.{list_all}
use Rattle.std.proofs.lemmas.Bool.{cases_Bool, eqb-true, eqb-false, eq-eqb, ne_eqb}
use Rattle.std.proofs.lemmas.Option.{none-some, same_Some}
use Rattle.cf_base.specs.declared.fixed.Fixed.{Fixed}
use Rattle.cf_base.specs.declared.fixed.FixedFault.{FixedFault}
use Rattle.cf_base.specs.Fixed.{fixed_of}
use Rattle.cube_reader.specs.Text.{are_numbers, numbers}
use Rattle.cube_reader.specs.inside.Steps.{first_number, values}

pub one_less : (a b : ℕ) → eqb (suc a) (suc b) ≡ eqb a b
one_less a b = elim (cases_Bool (eqb a b)) [
  | inl t ↦ let same : a ≡ b = eqb-true a b t in rw t (eq-eqb (suc a) (suc b) (ap suc same))
  | inr f ↦ rw f (ne_eqb (suc a) (suc b) (λ z. eqb-false a b f (omega arith)))
]

pub never_none : (n : ℕ) → eqb 0 (suc n) ≡ false
never_none n = ne_eqb 0 (suc n) (λ z. omega arith)

pub never_some : (n : ℕ) → eqb (suc n) 0 ≡ false
never_some n = ne_eqb (suc n) 0 (λ z. omega arith)

never : (a b : Bool) (vs : List Fixed) → cond (a && (false && b)) (Some vs) None ≡ None
never true b vs = refl
never false b vs = refl

again : (b : Bool) (v : Fixed) (vs : List Fixed) → cond b (Some (v ∷ vs)) None ≡ option_map (λ (xs : List Fixed). v ∷ xs) (cond b (Some vs) None)
again true v vs = refl
again false v vs = refl

values_by : (n : ℕ) (w : List ℕ) (more : List (List ℕ)) (r : Result Fixed FixedFault) → fixed_of w ≡ r → values (suc n) (w ∷ more) ≡ option_and_then (λ v. option_map (λ (vs : List Fixed). v ∷ vs) (values n more)) (first_number (w ∷ more))
values_by n w more (Err e) is = rw (is, one_less (length more) n) (never (eqb (length more) n) (list_all (λ token. is_ok (fixed_of token)) more) (numbers more))
values_by n w more (Ok v) is = rw (is, one_less (length more) n) (again (are_numbers n more) v (numbers more))

values_more : (n : ℕ) (ws : List (List ℕ)) → values (suc n) ws ≡ option_and_then (λ v. option_map (λ (vs : List Fixed). v ∷ vs) (values n (drop 1 ws))) (first_number ws)
values_more n [] = rw (never_none n) refl
values_more n (w ∷ more) = values_by n w more (fixed_of w) refl

-- a number, and so many behind it
pub value_then : (n : ℕ) (ws rest : List (List ℕ)) (v : Fixed) (vs : Option (List Fixed)) → first_number ws ≡ Some v → drop 1 ws ≡ rest → vs ≡ values n rest → option_map (λ (xs : List Fixed). v ∷ xs) vs ≡ values (suc n) ws
value_then n ws rest v vs first behind more = sym (values_more n ws ∙ rw (first, behind, ← more) refl)

by_first : (n : ℕ) (vs : List Fixed) (o : Option Fixed) (r : Option (List Fixed)) → option_and_then (λ v. option_map (λ (xs : List Fixed). v ∷ xs) r) o ≡ Some vs
    → ((xs : List Fixed) → r ≡ Some xs → length xs ≡ n) → length vs ≡ suc n
by_first n vs None r e h = absurd (none-some vs e)
by_first n vs (Some v) None e h = absurd (none-some vs e)
by_first n vs (Some v) (Some xs) e h = let same : v ∷ xs ≡ vs = same_Some _ _ e in rw (← same) (ap suc (h xs refl))

-- so many numbers are as long
pub values_length : (n : ℕ) (ws : List (List ℕ)) (vs : List Fixed) → values n ws ≡ Some vs → length vs ≡ n
values_length zero [] vs e = let same : [] ≡ vs = same_Some _ _ e in rw (← same) refl
values_length zero (w ∷ more) vs e = absurd (none-some vs (rw (never_some (length more)) at e))
values_length (suc n) ws vs e = by_first n vs (first_number ws) (values n (drop 1 ws)) (sym (values_more n ws) ∙ e) (λ xs f. values_length n (drop 1 ws) xs f)

pub values_none : (n : ℕ) (ws : List (List ℕ)) → values n ws ≡ None → are_numbers n ws ≡ false
values_none n ws = by_test (are_numbers n ws)
  where
    by_test : (b : Bool) → ◌≡◌ {A = Option (List Fixed)} (cond b (Some (numbers ws)) None) None → b ≡ false
    by_test true e = absurd (none-some _ (sym e))
    by_test false e = refl

pub values_some : (n : ℕ) (ws : List (List ℕ)) (vs : List Fixed) → values n ws ≡ Some vs → (are_numbers n ws ≡ true) × (numbers ws ≡ vs)
values_some n ws vs = by_test (are_numbers n ws)
  where
    by_test : (b : Bool) → ◌≡◌ {A = Option (List Fixed)} (cond b (Some (numbers ws)) None) (Some vs) → (b ≡ true) × (numbers ws ≡ vs)
    by_test true e = (refl, same_Some _ _ e)
    by_test false e = absurd (none-some vs e)

pub numbers_length : (n : ℕ) (ws : List (List ℕ)) → are_numbers n ws ≡ true → length (numbers ws) ≡ n
numbers_length n ws h = values_length n ws (numbers ws) (rw h refl)

-- lists of one, two and three, by their places
pub one_of : (vs : List Fixed) (d : Fixed) → length vs ≡ 1 → vs ≡ get_or vs 0 d ∷ []
one_of [] d e = absurd (omega arith)
one_of (a ∷ []) d e = refl
one_of (a ∷ b ∷ vs) d e = absurd (omega arith)

pub two_of : (vs : List Fixed) (d : Fixed) → length vs ≡ 2 → vs ≡ get_or vs 0 d ∷ get_or vs 1 d ∷ []
two_of [] d e = absurd (omega arith)
two_of (a ∷ []) d e = absurd (omega arith)
two_of (a ∷ b ∷ []) d e = refl
two_of (a ∷ b ∷ c ∷ vs) d e = absurd (omega arith)

pub three_of : (vs : List Fixed) (d : Fixed) → length vs ≡ 3 → vs ≡ get_or vs 0 d ∷ get_or vs 1 d ∷ get_or vs 2 d ∷ []
three_of [] d e = absurd (omega arith)
three_of (a ∷ []) d e = absurd (omega arith)
three_of (a ∷ b ∷ []) d e = absurd (omega arith)
three_of (a ∷ b ∷ c ∷ []) d e = refl
three_of (a ∷ b ∷ c ∷ e ∷ vs) d f = absurd (omega arith)
