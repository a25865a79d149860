-- One element more, and what the tests of a list say together.
use Rattle.std.proofs.Common.{◌≡◌, ℕ, ◌+◌, ◌≤◌, Bool, true, false, not, cond, ◌||◌, ◌==◌, eqb, List, [], ◌∷◌, ◌++◌, length, take, refl, ap, sym, ◌∙◌, arith, Option, inl, inr}
use Rattle.std.specs.Prelude.{Some, None, slice_get, unwrap_or}
use Rattle.std.specs.List.{list_any, filter, filter_map, last_or, count_by, cons_option}
use Rattle.std.proofs.lemmas.Bool.{cases_Bool, or_parts, ne_eqb}
use Rattle.std.proofs.lemmas.Option.{slice_get_within, get_or_from_slice_get}
use Rattle.std.proofs.lemmas.List.{take_more}
use Rattle.std.proofs.lemmas.List.Elements.{filter_map-append, filter-append}
use Rattle.std.proofs.lemmas.List.Sums.{sum_by-append}

pub one_more : {X : Type 0} (xs : List X) (n : ℕ) (x : X) → slice_get xs n ≡ Some x → take (n + 1) xs ≡ take n xs ++ x ∷ []
one_more xs n x at = take_more xs n x (slice_get_within xs n x at) ∙ rw (get_or_from_slice_get xs n x x at) refl

-- tests in another order
pub swap : (a b c : Bool) → (a || (b || c)) ≡ (b || (a || c))
swap false b c = refl
swap true true c = refl
swap true false c = refl

either_way : (a b c d : Bool) → ((a || b) || (c || d)) ≡ ((a || c) || (b || d))
either_way true b c d = refl
either_way false b c d = swap b c d

pub any_more : {X : Type 0} (p : X → Bool) (xs : List X) (x : X) → list_any p (xs ++ x ∷ []) ≡ (p x || list_any p xs)
any_more p [] x = refl
any_more p (y ∷ ys) x = ap (λ (b : Bool). p y || b) (any_more p ys x) ∙ swap (p y) (p x) (list_any p ys)

pub any_either : {X : Type 0} (p q : X → Bool) (xs : List X) → list_any (λ x. p x || q x) xs ≡ (list_any p xs || list_any q xs)
any_either p q [] = refl
any_either p q (x ∷ xs) = ap (λ (b : Bool). (p x || q x) || b) (any_either p q xs) ∙ either_way (p x) (q x) (list_any p xs) (list_any q xs)

pub none_left : {X : Type 0} (p : X → Bool) (xs : List X) → list_any p xs ≡ false → filter p xs ≡ []
none_left p [] h = refl
none_left p (x ∷ xs) h = let parts = or_parts (p x) (list_any p xs) h in rw parts.0 (none_left p xs parts.1)

pub filter_one : {X : Type 0} (p : X → Bool) (xs : List X) (x : X) → filter p (xs ++ x ∷ []) ≡ filter p xs ++ cond (p x) (x ∷ []) []
filter_one p xs x = filter-append p xs (x ∷ [])

count_first : {X : Type 0} (p : X → Bool) (x : X) (xs : List X) → count_by p (x ∷ xs) ≡ cond (p x) 1 0 + count_by p xs
count_first {X} p x xs = let e = sum_by-append (λ (y : X). cond (p y) 1 0) (x ∷ []) xs in omega (arith, e)

pub count_more : {X : Type 0} (p : X → Bool) (xs : List X) (x : X) → count_by p (xs ++ x ∷ []) ≡ count_by p xs + cond (p x) 1 0
count_more {X} p xs x = let e = sum_by-append (λ (y : X). cond (p y) 1 0) xs (x ∷ []) in omega (arith, e)

-- there is none where none are counted
pub any_count : {X : Type 0} (p : X → Bool) (xs : List X) → list_any p xs ≡ not (count_by p xs == 0)
any_count p [] = refl
any_count p (x ∷ xs) = elim (cases_Bool (p x)) [
  | inl t ↦
      let some : eqb (count_by p (x ∷ xs)) 0 ≡ false = ne_eqb _ _ (λ z. let e : count_by p (x ∷ xs) ≡ 1 + count_by p xs = count_first p x xs ∙ rw t refl in omega arith) in
      ap (λ (b : Bool). b || list_any p xs) t ∙ sym (ap not some)
  | inr f ↦
      let first = count_first p x xs in
      let none : ◌≡◌ {A = ℕ} (cond (p x) 1 0) 0 = rw f refl in
      let e : count_by p (x ∷ xs) ≡ count_by p xs = omega (arith, first, none) in
      ap (λ (b : Bool). b || list_any p xs) f ∙ any_count p xs ∙ sym (ap (λ (n : ℕ). not (n == 0)) e)
]

pub length_filter : {X : Type 0} (p : X → Bool) (xs : List X) → length (filter p xs) ≡ count_by p xs
length_filter p [] = refl
length_filter p (x ∷ xs) =
    let more : length (filter p (x ∷ xs)) ≡ cond (p x) 1 0 + length (filter p xs) = by_test (p x) in
    let e = count_first p x xs in
    let f = length_filter p xs in
    omega (arith, more, e, f)
  where
    by_test : (b : Bool) → length (cond b (x ∷ filter p xs) (filter p xs)) ≡ cond b 1 0 + length (filter p xs)
    by_test true = omega arith
    by_test false = omega arith

pub count_most : {X : Type 0} (p : X → Bool) (xs : List X) → count_by p xs ≤ length xs
count_most p [] = omega arith
count_most p (x ∷ xs) =
    let first = count_first p x xs in
    let rest = count_most p xs in
    let one : cond (p x) 1 0 ≤ 1 = at_most (p x) in
    omega (arith, first, rest, one)
  where
    at_most : (b : Bool) → cond b 1 0 ≤ 1
    at_most true = omega arith
    at_most false = omega arith

last_or-append : {A : Type 0} (o : Option A) (xs ys : List A) → last_or o (xs ++ ys) ≡ last_or (last_or o xs) ys
last_or-append o [] ys = refl
last_or-append o (x ∷ xs) ys = last_or-append (Some x) xs ys

last_by : {A : Type 0} (old new : Option A) (d : A) → unwrap_or (last_or old (cons_option new [])) d ≡ unwrap_or new (unwrap_or old d)
last_by old None d = refl
last_by old (Some x) d = refl

-- the last that is given, one more
pub last_more : {X A : Type 0} (f : X → Option A) (d : A) (xs : List X) (x : X) → unwrap_or (last_or None (filter_map f (xs ++ x ∷ []))) d ≡ unwrap_or (f x) (unwrap_or (last_or None (filter_map f xs)) d)
last_more {X} {A} f d xs x =
    ap (λ (ys : List A). unwrap_or (last_or None ys) d) (filter_map-append f xs (x ∷ []))
    ∙ ap (λ (o : Option A). unwrap_or o d) (last_or-append None (filter_map f xs) (cons_option (f x) []))
    ∙ last_by (last_or None (filter_map f xs)) (f x) d
