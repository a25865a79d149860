-- How many frames are free and done.
use Rattle.std.proofs.Common.{◌≡◌, ◌≢◌, ℕ, zero, suc, ◌+◌, ◌<◌, ◌≤◌, Bool, true, false, cond, inl, inr, List, [], ◌∷◌, ◌++◌, length, get_or, count_by, refl, sym, ◌∙◌, ap, subst, arith, ◌-◌}
use Rattle.std.specs.List.{range_with_len}
use Rattle.std.proofs.lemmas.List.{length_push}
use Rattle.std.proofs.lemmas.List.FromFn.{length-range_with_len}
use Rattle.std.proofs.lemmas.List.Sums.{sum_by-cons, count_by-le-length}
use Rattle.render_board.specs.declared.step.Step.{Step}
use Rattle.render_board.specs.declared.step.Step.TheVariants.{Claim, Finish, Stop}
use Rattle.render_board.specs.declared.step.Why.{Why}
use Rattle.render_board.specs.declared.board.Turn.TheVariants as turns
use Rattle.render_board.specs.Board.{Log, is_done, is_free, free_count, done_count, turn_of, IsNext, IsLegal, with_step}
use Rattle.render_board.specs.History.{finished_of}
use Rattle.render_board.proofs.Steps.{or_false, equal_or_not, isnt_other, claimed_own, finished_own, done_as_before, free_as_before, range_is}
use Rattle.render_board.proofs.Runs.{legal_induction}
use Rattle.render_board.proofs.Holding.{held_isnt_done, held_within, held_inside, least_free_is}
use Rattle.render_board.proofs.Histories.{finished_of-claim, finished_of-finish, finished_of-stop}

counted_cons : (p : ℕ → Bool) (x : ℕ) (xs : List ℕ) → count_by p (x ∷ xs) ≡ cond (p x) 1 0 + count_by p xs
counted_cons p x xs = sum_by-cons (λ (y : ℕ). cond (p y) 1 0) x xs

one_or_none : {A : Type 0} (b c : Bool) (x y : A) → b ≡ c → cond b x y ≡ cond c x y
one_or_none b c x y e = ap (λ d. cond d x y) e

-- two tests that agree from a place on
count_same : (p q : ℕ → Bool) (a n : ℕ) → ((j : ℕ) → a ≤ j → q j ≡ p j) → count_by q (range_with_len a n) ≡ count_by p (range_with_len a n)
count_same p q a zero same = refl
count_same p q a (suc n) same =
    let here : cond {A = ℕ} (q a) 1 0 ≡ cond (p a) 1 0 = one_or_none (q a) (p a) 1 0 (same a (omega arith)) in
    omega (arith, here, counted_cons p a (range_with_len (a + 1) n), counted_cons q a (range_with_len (a + 1) n), count_same p q (a + 1) n (λ j low. same j (omega arith)))

-- and two that differ at one place
count_one_more : (p q : ℕ → Bool) (a n i : ℕ) → a ≤ i → i < a + n → p i ≡ false → q i ≡ true → ((j : ℕ) → j ≢ i → q j ≡ p j)
    → count_by q (range_with_len a n) ≡ count_by p (range_with_len a n) + 1
count_one_more p q a zero i low high was is same = absurd (omega arith)
count_one_more p q a (suc n) i low high was is same = elim (equal_or_not a i) [
  | inl e ↦
      let one : cond {A = ℕ} (q a) 1 0 ≡ 1 = one_or_none (q a) true 1 0 (ap q e ∙ is) in
      let none : cond {A = ℕ} (p a) 1 0 ≡ 0 = one_or_none (p a) false 1 0 (ap p e ∙ was) in
      omega (arith, one, none, counted_cons p a (range_with_len (a + 1) n), counted_cons q a (range_with_len (a + 1) n), count_same p q (a + 1) n (λ j past. same j (omega (arith, e))))
  | inr other ↦
      let here : cond {A = ℕ} (q a) 1 0 ≡ cond (p a) 1 0 = one_or_none (q a) (p a) 1 0 (same a other) in
      omega (arith, here, counted_cons p a (range_with_len (a + 1) n), counted_cons q a (range_with_len (a + 1) n), count_one_more p q (a + 1) n i (omega (arith, other)) (omega arith) was is same)
]

-- A claim leaves one frame fewer free.
pub free_count-claim : (log : Log) (w i : ℕ) → IsNext log (Claim w i) → free_count log ≡ free_count (with_step log (Claim w i)) + 1
free_count-claim log w i next =
    let least = least_free_is log i next.3 in
    count_one_more (is_free (with_step log (Claim w i))) (is_free log) 0 (length log.start) i (omega arith) (omega (arith, least.1)) (claimed_own log w i) least.0
    (λ j other. sym (free_as_before log (Claim w i) j (isnt_other i j (λ e. other (sym e)))))

-- No other step changes how many are free.
pub free_count-finish : (log : Log) (w i : ℕ) → free_count (with_step log (Finish w i)) ≡ free_count log
free_count-finish log w i = count_same (is_free log) (is_free (with_step log (Finish w i))) 0 (length log.start) (λ j low. free_as_before log (Finish w i) j refl)

pub free_count-stop : (log : Log) (w : ℕ) (why : Why) → free_count (with_step log (Stop w why)) ≡ free_count log
free_count-stop log w why = count_same (is_free log) (is_free (with_step log (Stop w why))) 0 (length log.start) (λ j low. free_as_before log (Stop w why) j refl)

-- A finish makes one frame more done, and no other step changes how many are done.
pub done_count-finish : (log : Log) (w i : ℕ) → IsLegal log → turn_of log w ≡ turns.Holds i → done_count (with_step log (Finish w i)) ≡ done_count log + 1
done_count-finish log w i legal holds =
    count_one_more (is_done log) (is_done (with_step log (Finish w i))) 0 (length log.start) i (omega arith) (omega (arith, held_within log w i legal holds)) (held_isnt_done log w i legal holds) (finished_own log w i)
    (λ j other. done_as_before log (Finish w i) j (isnt_other i j (λ e. other (sym e))))

pub done_count-claim : (log : Log) (w i : ℕ) → done_count (with_step log (Claim w i)) ≡ done_count log
done_count-claim log w i = count_same (is_done log) (is_done (with_step log (Claim w i))) 0 (length log.start) (λ j low. done_as_before log (Claim w i) j refl)

pub done_count-stop : (log : Log) (w : ℕ) (why : Why) → done_count (with_step log (Stop w why)) ≡ done_count log
done_count-stop log w why = count_same (is_done log) (is_done (with_step log (Stop w why))) 0 (length log.start) (λ j low. done_as_before log (Stop w why) j refl)

-- a list counted by its places
count_places : (p : ℕ → Bool) (xs : List Bool) (a : ℕ) → ((k : ℕ) → p (a + k) ≡ get_or xs k false) → count_by p (range_with_len a (length xs)) ≡ count_by (λ b. b) xs
count_places p [] a same = refl
count_places p (x ∷ xs) a same =
    let first : p a ≡ x = subst (λ (k : ℕ). p k ≡ x) (omega arith) (same 0) in
    let here : cond {A = ℕ} (p a) 1 0 ≡ cond x 1 0 = one_or_none (p a) x 1 0 first in
    let rest = count_places p xs (a + 1) (λ k. subst (λ (j : ℕ). p j ≡ get_or xs k false) (omega arith) (same (suc k))) in
    omega (arith, here, rest, counted_cons p a (range_with_len (a + 1) (length xs)), sum_by-cons (λ (b : Bool). cond {A = ℕ} b 1 0) x xs)

counted_more : (log : Log) (s : Step) → IsLegal log → IsNext log s → done_count log ≡ count_by (λ b. b) log.start + length (finished_of log.steps)
    → done_count (with_step log s) ≡ count_by (λ b. b) log.start + length (finished_of (log.steps ++ s ∷ []))
counted_more log (Claim w i) legal next old = done_count-claim log w i ∙ old ∙ ap (λ xs. count_by (λ b. b) log.start + length xs) (sym (finished_of-claim log.steps w i))
counted_more log (Stop w why) legal next old = done_count-stop log w why ∙ old ∙ ap (λ xs. count_by (λ b. b) log.start + length xs) (sym (finished_of-stop log.steps w why))
counted_more log (Finish w i) legal next old =
    let longer : length (finished_of (log.steps ++ Finish w i ∷ [])) ≡ length (finished_of log.steps) + 1 = ap length (finished_of-finish log.steps w i) ∙ length_push (finished_of log.steps) i in
    omega (arith, old, longer, done_count-finish log w i legal next.1)

-- The frames that are done are as many as those of the start and the finished ones.
pub done_count_is : (log : Log) → IsLegal log → done_count log ≡ count_by (λ was. was) log.start + length (finished_of log.steps)
done_count_is log legal =
    let first : done_count (record log { steps = [] }) ≡ count_by (λ b. b) log.start + 0 =
    omega (arith, count_places (is_done (record log { steps = [] })) log.start 0 (λ k. or_false (get_or log.start (0 + k) false) ∙ ap (λ j. get_or log.start j false) (omega arith))) in
    legal_induction (λ l. done_count l ≡ count_by (λ was. was) l.start + length (finished_of l.steps)) log legal first counted_more

pub done_count_most : (log : Log) → done_count log ≤ length log.start
done_count_most log = omega (arith, count_by-le-length (is_done log) (range_with_len 0 (length log.start)), length-range_with_len 0 (length log.start))

-- a test that holds of each place holds of as many as there are
count_all : (p : ℕ → Bool) (a n : ℕ) → ((j : ℕ) → a ≤ j → j < a + n → p j ≡ true) → count_by p (range_with_len a n) ≡ n
count_all p a zero all = refl
count_all p a (suc n) all =
    let here : cond {A = ℕ} (p a) 1 0 ≡ 1 = one_or_none (p a) true 1 0 (all a (omega arith) (omega arith)) in
    omega (arith, here, counted_cons p a (range_with_len (a + 1) n), count_all p (a + 1) n (λ j low high. all j (omega (arith, low)) (omega (arith, high))))

-- Where every frame is done, those of the start and the finished ones are all.
pub whole_count : (log : Log) → IsLegal log → ((i : ℕ) → i < length log.start → is_done log i ≡ true) → count_by (λ was. was) log.start + length (finished_of log.steps) ≡ length log.start
whole_count log legal all = omega (arith, done_count_is log legal, count_all (is_done log) 0 (length log.start) (λ j low high. all j (omega (arith, high))))

-- So at most as many frames are finished as the reel has.
pub finished_most : (log : Log) → IsLegal log → length (finished_of log.steps) ≤ length log.start
finished_most log legal = omega (arith, done_count_is log legal, done_count_most log)

-- how many frames of the range are done, and how many were at the start
abbrev range_done : Log → ℕ
range_done log = count_by (is_done log) (range_with_len log.low (log.high - log.low))

abbrev range_begun : Log → ℕ
range_begun log = count_by (λ i. get_or log.start i false) (range_with_len log.low (log.high - log.low))

range_more : (log : Log) (s : Step) → IsLegal log → IsNext log s → range_done log ≡ range_begun log + length (finished_of log.steps)
    → range_done (with_step log s) ≡ range_begun log + length (finished_of (log.steps ++ s ∷ []))
range_more log (Claim w i) legal next old =
    count_same (is_done log) (is_done (with_step log (Claim w i))) log.low (log.high - log.low) (λ j low. done_as_before log (Claim w i) j refl) ∙ old ∙ ap (λ xs. range_begun log + length xs) (sym (finished_of-claim log.steps w i))
range_more log (Stop w why) legal next old =
    count_same (is_done log) (is_done (with_step log (Stop w why))) log.low (log.high - log.low) (λ j low. done_as_before log (Stop w why) j refl) ∙ old ∙ ap (λ xs. range_begun log + length xs) (sym (finished_of-stop log.steps w why))
range_more log (Finish w i) legal next old =
    let longer : length (finished_of (log.steps ++ Finish w i ∷ [])) ≡ length (finished_of log.steps) + 1 = ap length (finished_of-finish log.steps w i) ∙ length_push (finished_of log.steps) i in
    let at = range_is log i (held_inside log w i legal next.1) in
    let more = count_one_more (is_done log) (is_done (with_step log (Finish w i))) log.low (log.high - log.low) i at.0 (omega (arith, at.0, at.1)) (held_isnt_done log w i legal next.1) (finished_own log w i)
    (λ j other. done_as_before log (Finish w i) j (isnt_other i j (λ e. other (sym e)))) in
    omega (arith, old, longer, more)

range_count_is : (log : Log) → IsLegal log → range_done log ≡ range_begun log + length (finished_of log.steps)
range_count_is log legal =
    let same = count_same (λ i. get_or log.start i false) (is_done (record log { steps = [] })) log.low (log.high - log.low) (λ j low. or_false (get_or log.start j false)) in
    let first : range_done (record log { steps = [] }) ≡ range_begun log + 0 = omega (arith, same) in
    legal_induction (λ l. range_done l ≡ range_begun l + length (finished_of l.steps)) log legal first range_more

-- Where every frame of the range is done, those of the start and the finished ones are all.
pub range_count : (log : Log) → IsLegal log → ((i : ℕ) → log.low ≤ i → i < log.high → is_done log i ≡ true)
    → count_by (λ i. get_or log.start i false) (range_with_len log.low (log.high - log.low)) + length (finished_of log.steps) ≡ log.high - log.low
range_count log legal all =
    omega (arith, range_count_is log legal, count_all (is_done log) log.low (log.high - log.low) (λ j low high. all j low (omega (arith, low, high))))
