-- The lines of a text in turn, each as something that is read of it.
use Rattle.std.proofs.Common.{◌≡◌, ℕ, zero, suc, ◌+◌, ◌-◌, ◌<◌, ◌≤◌, cond, eqb, List, [], ◌∷◌, length, take, drop, map, ap, sym, subst, ◌∙◌, arith, inl, inr, length-take, length-drop}
use Rattle.std.specs.Prelude.{Some, None, slice_get, slice_range, slice_index, ◌==◌}
use Rattle.std.proofs.lemmas.Bool.{cases_Bool, eqb-true, eqb-false}
use Rattle.std.proofs.lemmas.Option.{none-some, same_Some}
use Rattle.std.proofs.Math.Seq.{drop-length}
use Rattle.cf_base.specs.declared.lines.LineSpan.{LineSpan}
use Rattle.cf_base.specs.Lines.{line_span, lines_of, without_return, feed_from, LinesInTurn}

front : {X : Type 0} (xs : List X) (n : ℕ) (x : X) (rest : List X) → drop n xs ≡ x ∷ rest → (slice_get xs n ≡ Some x) × (drop (n + 1) xs ≡ rest)
front {X} [] zero x rest h = absurd (never x rest h)
  where
    never : (x : X) (rest : List X) → ◌≡◌ {A = List X} [] (x ∷ rest) → ⊥
    never x rest h = cc
front {X} [] (suc n) x rest h = absurd (never x rest h)
  where
    never : (x : X) (rest : List X) → ◌≡◌ {A = List X} [] (x ∷ rest) → ⊥
    never x rest h = cc
front {X} (y ∷ xs) zero x rest h = (first, more)
  where
    first : Some y ≡ Some x
    first = cc

    more : xs ≡ rest
    more = cc
front {X} (y ∷ xs) (suc n) x rest h =
    let f = front xs n x rest h in
    let step : suc n + 1 ≡ suc (n + 1) = omega arith in
    (f.0, ap (λ (k : ℕ). drop k (y ∷ xs)) step ∙ f.1)

-- what is read of each line
abbrev pub lines_by : {A : Type 0} → (List ℕ → A) → List ℕ → List A
lines_by read text = map read (lines_of text)

-- the line at a place, and those behind it
pub in_turn : {A : Type 0} (read : List ℕ → A) → LinesInTurn → (text : List ℕ) (at n : ℕ) → at < length text → drop n (lines_by read text) ≡ lines_by read (drop at text)
    → (slice_get (lines_by read text) n ≡ Some (read (slice_range text (line_span text at).start (line_span text at).end))) × (drop (n + 1) (lines_by read text) ≡ lines_by read (drop (line_span text at).next text))
in_turn read turn text at n below h = front (lines_by read text) n (read (slice_range text (line_span text at).start (line_span text at).end)) _ (h ∙ ap (map read) (turn text at below))

without_return_short : (line : List ℕ) → length (without_return line) ≤ length line
without_return_short line = elim (cases_Bool (slice_index line (length line - 1) == 13)) [
  | inl t ↦ rw t (omega (arith, length-take (length line - 1) line))
  | inr f ↦ rw f (omega arith)
]

-- a line ends in its text, and the next one begins behind it
pub ends_within : (text : List ℕ) (at : ℕ) → at < length text → (line_span text at).end ≤ length text
ends_within text at below =
    let a = without_return_short (take (feed_from text at) (drop at text)) in
    let b = length-take (feed_from text at) (drop at text) in
    let c = length-drop at text in
    omega (arith, a, b, c)

pub goes_on : (text : List ℕ) (at : ℕ) → at < length text → (at < (line_span text at).next) × ((line_span text at).next ≤ length text)
goes_on text at below = (omega arith, omega arith)

pub all_dropped : {X : Type 0} (xs : List X) (n : ℕ) → drop n xs ≡ [] → length xs ≤ n
all_dropped xs n h = let e = length-drop n xs in let z : length (drop n xs) ≡ 0 = ap length h in omega (arith, e, z)

pub spanned : (text : List ℕ) (at : ℕ) (span : LineSpan) → at ≤ length text → Some span ≡ cond (eqb at (length text)) None (Some (line_span text at)) → (at < length text) × (span ≡ line_span text at)
spanned text at span within h = elim (cases_Bool (eqb at (length text))) [
  | inl t ↦ absurd (none-some span (sym (rw t at h)))
  | inr f ↦ let ne : at ≡ length text → ⊥ = eqb-false _ _ f in (omega arith, same_Some _ _ (rw f at h))
]

pub ended : (text : List ℕ) (at : ℕ) → None ≡ cond (eqb at (length text)) None (Some (line_span text at)) → at ≡ length text
ended text at h = elim (cases_Bool (eqb at (length text))) [
  | inl t ↦ eqb-true _ _ t
  | inr f ↦ absurd (none-some _ (rw f at h))
]

-- behind the last line
pub after_last : {A : Type 0} (read : List ℕ → A) (text : List ℕ) (at n : ℕ) → at ≡ length text → drop n (lines_by read text) ≡ lines_by read (drop at text) → length (lines_by read text) ≤ n
after_last read text at n done h =
    let none : drop (length text) text ≡ [] = drop-length text in
    all_dropped (lines_by read text) n (h ∙ ap (λ (k : ℕ). lines_by read (drop k text)) done ∙ ap (lines_by read) none)

-- the line that a span gives, and where it leads
pub record Turn {A : Type 0} (read : List ℕ → A) (text : List ℕ) (at n : ℕ) (span : LineSpan) : Type 0 where
  pub line : slice_get (lines_by read text) n ≡ Some (read (slice_range text span.start span.end))
  pub rest : drop (n + 1) (lines_by read text) ≡ lines_by read (drop span.next text)
  pub on : at < span.next
  pub within : span.next ≤ length text

pub turn_at : {A : Type 0} (read : List ℕ → A) → LinesInTurn → (text : List ℕ) (at n : ℕ) (span : LineSpan) → at ≤ length text → Some span ≡ cond (eqb at (length text)) None (Some (line_span text at)) → drop n (lines_by read text) ≡ lines_by read (drop at text) → Turn read text at n span
turn_at read turn text at n span within h rest =
    let sp = spanned text at span within h in
    let t = in_turn read turn text at n sp.0 rest in
    let on = goes_on text at sp.0 in
    subst (Turn read text at n) (sym sp.1) (record { line = t.0; rest = t.1; on = on.0; within = on.1 })
