-- Where the tokens of a line begin, from one place to the next.
use Rattle.std.proofs.Common.{◌≡◌, ℕ, zero, suc, ◌+◌, ◌-◌, ◌<◌, ◌≤◌, inl, inr, Bool, true, false, not, ◌&&◌, ◌||◌, ◌==◌, List, [], ◌∷◌, length, drop, get_or, map, refl, ap, sym, ◌∙◌, arith, get_or-drop, length-drop}
use Rattle.std.proofs.lemmas.Bool.{ne_eqb, eq-eqb, cases_lt, true≢false, or_left, or_right}
use Rattle.std.proofs.lemmas.List.Sums.{prefix_len_is}
use Rattle.std.specs.List.{filter, range_with_len, prefix_len}
use Rattle.cf_base.specs.Tokens.{is_blank, is_solid, Token, starts_token, token_at, tokens_from, token_between, IsGap}

-- places where the test fails can be left out in front
pub none_in_front : (p : ℕ → Bool) (a k m : ℕ) → ((i : ℕ) → a ≤ i → i < a + k → p i ≡ false) → filter p (range_with_len a (k + m)) ≡ filter p (range_with_len (a + k) m)
none_in_front p a zero m fails =
    let e : 0 + m ≡ m = omega arith in
    let f : a + 0 ≡ a = omega arith in
    rw (e, f) refl
none_in_front p a (suc k) m fails =
    let e : suc k + m ≡ suc (k + m) = omega arith in
    let f : a + suc k ≡ (a + 1) + k = omega arith in
    let here : p a ≡ false = fails a (omega arith) (omega arith) in
    rw (e, f, here) (none_in_front p (a + 1) k m (λ i low high. fails i (omega arith) (omega arith)))

-- blanks begin no token
pub blank_starts_none : (line : List ℕ) (i : ℕ) → is_blank (get_or line i 0) ≡ true → starts_token line i ≡ false
blank_starts_none line i e = rw e refl

-- nor does a byte behind one that is no blank
pub inside_starts_none : (line : List ℕ) (i : ℕ) → 0 < i → is_blank (get_or line (i - 1) 0) ≡ false → starts_token line i ≡ false
inside_starts_none line i positive e =
    let f : (i == 0) ≡ false = ne_eqb _ _ (λ z. omega arith) in
    rw (f, e) (elim (is_solid (get_or line i 0)) as (λ b. (b && false) ≡ false) [ true ↦ refl | false ↦ refl ])

pub skip_to : (p : ℕ → Bool) (a b n : ℕ) → a ≤ b → b ≤ n → ((i : ℕ) → a ≤ i → i < b → p i ≡ false) → filter p (range_with_len a (n - a)) ≡ filter p (range_with_len b (n - b))
skip_to p a b n low high fails =
    let e : n - a ≡ (b - a) + (n - b) = omega arith in
    let f : a + (b - a) ≡ b = omega arith in
    let h = none_in_front p a (b - a) (n - b) (λ i from below. fails i from (omega arith)) in
    rw e (rw f at h)

pub take_first : (p : ℕ → Bool) (a n : ℕ) → a < n → p a ≡ true → filter p (range_with_len a (n - a)) ≡ a ∷ filter p (range_with_len (a + 1) (n - (a + 1)))
take_first p a n below passes =
    let e : n - a ≡ suc (n - (a + 1)) = omega arith in
    rw (e, passes) refl

pub no_tokens : (line : List ℕ) (at : ℕ) → at ≤ length line → ((k : ℕ) → at ≤ k → k < length line → is_blank (get_or line k 0) ≡ true) → tokens_from line at ≡ []
no_tokens line at within blanks =
    let none : length line - length line ≡ 0 = omega arith in
    let h = skip_to (starts_token line) at (length line) (length line) within (omega arith) (λ i from below. blank_starts_none line i (blanks i from below)) in
    ap (map (token_at line)) (rw none at h)

pub starts_here : (line : List ℕ) (at start : ℕ) → at ≤ start → start < length line → IsGap line at → ((k : ℕ) → at ≤ k → k < start → is_blank (get_or line k 0) ≡ true) → is_blank (get_or line start 0) ≡ false → starts_token line start ≡ true
starts_here line at start low within gap blanks solid =
    let before : ((start == 0) || is_blank (get_or line (start - 1) 0)) ≡ true =
    elim (cases_lt at start) [
      | inl behind ↦ or_right _ _ (blanks (start - 1) (omega arith) (omega arith))
      | inr same ↦ elim gap [
        | inl first ↦ (let front : start ≡ 0 = omega arith in or_left _ _ (eq-eqb start 0 front))
        | inr (inl last) ↦ absurd (omega arith)
        | inr (inr blank) ↦ absurd (let e : at ≡ start = omega arith in true≢false (sym (rw e at blank) ∙ solid))
      ]
    ] in
    rw (solid, before) refl

pub longer : (line : List ℕ) (start «end» : ℕ) → start ≤ «end» → start < length line → is_blank (get_or line start 0) ≡ false → («end» < length line → is_blank (get_or line «end» 0) ≡ true) → start < «end»
longer line start «end» low within solid blank =
    elim (cases_lt start «end») [
      | inl more ↦ more
      | inr same ↦ absurd (let e : «end» ≡ start = omega arith in true≢false (sym (rw e at (blank (omega arith))) ∙ solid))
    ]

pub token_is : (line : List ℕ) (start «end» : ℕ) → start < «end» → «end» ≤ length line → ((k : ℕ) → start ≤ k → k < «end» → is_blank (get_or line k 0) ≡ false) → («end» < length line → is_blank (get_or line «end» 0) ≡ true) → token_at line start ≡ token_between line start «end»
token_is line start «end» some within solid blank =
    let here : prefix_len is_solid (drop start line) ≡ «end» - start =
    prefix_len_is is_solid (drop start line) («end» - start) 0 (omega (arith, length-drop start line))
    (λ k below. rw get_or-drop (ap not (solid (start + k) (omega arith) (omega arith))))
    (λ below. let at_end : start + («end» - start) ≡ «end» = omega arith in rw (get_or-drop, at_end) (ap not (blank (omega (arith, length-drop start line)))))
    in rw here refl

pub first_token : (line : List ℕ) (at start «end» : ℕ) → at ≤ start → start < «end» → «end» ≤ length line → IsGap line at → ((k : ℕ) → at ≤ k → k < start → is_blank (get_or line k 0) ≡ true)
    → ((k : ℕ) → start ≤ k → k < «end» → is_blank (get_or line k 0) ≡ false) → («end» < length line → is_blank (get_or line «end» 0) ≡ true)
    → tokens_from line at ≡ token_between line start «end» ∷ tokens_from line «end»
first_token line at start «end» low some within gap blanks solid blank =
    let p = starts_token line in
    let n = length line in
    let front = skip_to p at start n low (omega arith) (λ i from below. blank_starts_none line i (blanks i from below)) in
    let here = take_first p start n (omega arith) (starts_here line at start low (omega arith) gap blanks (solid start (omega arith) (omega arith))) in
    let rest = skip_to p (start + 1) «end» n (omega arith) within (λ i from below. inside_starts_none line i (omega arith) (solid (i - 1) (omega arith) (omega arith))) in
    ap (map (token_at line)) (front ∙ here ∙ ap (λ (is : List ℕ). start ∷ is) rest) ∙ ap (λ (t : Token). t ∷ tokens_from line «end») (token_is line start «end» some within solid blank)
