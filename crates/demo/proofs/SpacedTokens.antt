-- The tokens of words with single spaces between them are the words.
use Rattle.std.proofs.Common.{◌≡◌, ℕ, zero, suc, ◌+◌, ◌-◌, ◌<◌, ◌≤◌, Bool, true, false, not, List, [], ◌∷◌, ◌++◌, length, get_or, refl, sym, ap, ◌∙◌, arith, inl, inr, length-append, append_assoc, append-nil, subst}
use Rattle.std.specs.Prelude.{slice_range}
use Rattle.std.specs.List.{list_all, join_with_byte}
use Rattle.std.proofs.lemmas.Bool.{and_parts, true≢false}
use Rattle.std.proofs.lemmas.List.{get_or_append_left}
use Rattle.std.proofs.Math.Seq.{get_or-append_seam, get_or-append_right, drop-append_seam, take-append_seam}
use Rattle.cf_base.specs.Tokens.{Token, tokens, tokens_from, token_between, is_blank, is_solid}
use Rattle.cf_base.proofs.TokenLaws.{first_token, no_tokens}

-- some bytes, of which none is a blank
pub record IsWord (w : List ℕ) : Type 0 where
  pub some : 0 < length w
  pub solid : list_all is_solid w ≡ true

abbrev pub AreWords : List (List ℕ) → Type 0
AreWords [] = Unit {0}
AreWords (w ∷ ws) = IsWord w × AreWords ws

-- the words as tokens, of which the first begins at a place
abbrev pub placed : ℕ → List (List ℕ) → List Token
placed at [] = []
placed at (w ∷ ws) = record { start = at; bytes = w } ∷ placed (at + length w + 1) ws

-- a space before each word
abbrev pub after : List (List ℕ) → List ℕ
after [] = []
after (w ∷ ws) = 32 ∷ (w ++ after ws)

pub spaced_is : (w : List ℕ) (ws : List (List ℕ)) → join_with_byte 32 (w ∷ ws) ≡ w ++ after ws
spaced_is w [] = sym (append-nil w)
spaced_is w (v ∷ ws) = ap (λ (l : List ℕ). w ++ (32 ∷ l)) (spaced_is v ws)

all_at : (p : ℕ → Bool) (w : List ℕ) → list_all p w ≡ true → (k : ℕ) → k < length w → p (get_or w k 0) ≡ true
all_at p [] h k below = absurd (omega arith)
all_at p (b ∷ w) h zero below = (and_parts _ _ h).0
all_at p (b ∷ w) h (suc k) below = all_at p w (and_parts _ _ h).1 k (omega arith)

not_blank : (b : Bool) → not b ≡ true → b ≡ false
not_blank false h = refl
not_blank true h = absurd (true≢false (sym h))

-- the bytes of a piece of a list
piece_is : (front w back : List ℕ) → slice_range (front ++ (w ++ back)) (length front) (length front + length w) ≡ w
piece_is front w back =
    let size : length front + length w - length front ≡ length w = omega arith in
    rw (size, drop-append_seam front (w ++ back)) (take-append_seam w back)

end_blank : (front : List ℕ) (ws : List (List ℕ)) → length front < length (front ++ after ws) → is_blank (get_or (front ++ after ws) (length front) 0) ≡ true
end_blank front [] below = absurd (omega (arith, length-append front []))
end_blank front (w ∷ ws) below = rw (get_or-append_seam front 32 (w ++ after ws) 0) refl

-- a word behind a front that a word may follow
module _ (front w back : List ℕ) (word : IsWord w) where
  solid_at : (k : ℕ) → length front ≤ k → k < length front + length w → is_blank (get_or (front ++ (w ++ back)) k 0) ≡ false
  solid_at k low high =
      let there : get_or (front ++ (w ++ back)) k 0 ≡ get_or w (k - length front) 0
      = get_or-append_right front (w ++ back) k 0 low ∙ get_or_append_left w back 0 (k - length front) (omega arith) in
      rw there (not_blank _ (all_at is_solid w word.solid (k - length front) (omega arith)))

  size : length (front ++ (w ++ back)) ≡ length front + (length w + length back)
  size = length-append front (w ++ back) ∙ ap (λ (n : ℕ). length front + n) (length-append w back)

pub words_from : (front : List ℕ) (ws : List (List ℕ)) → AreWords ws → tokens_from (front ++ after ws) (length front) ≡ placed (length front + 1) ws
words_from front [] words =
    rw (append-nil front) (no_tokens front (length front) (omega arith) (λ k low high. absurd (omega arith)))
words_from front (w ∷ ws) words =
    let line = front ++ after (w ∷ ws) in
    let more = front ++ 32 ∷ [] in
    let long : length more ≡ length front + 1 = length-append front (32 ∷ []) in
    let same : more ++ (w ++ after ws) ≡ line = append_assoc front (32 ∷ []) (w ++ after ws) in
    let size = size more w (after ws) words.0 in
    let some = words.0.some in
    let first : tokens_from (more ++ (w ++ after ws)) (length front) ≡ token_between (more ++ (w ++ after ws)) (length more) (length more + length w) ∷ tokens_from (more ++ (w ++ after ws)) (length more + length w)
    = first_token (more ++ (w ++ after ws)) (length front) (length more) (length more + length w) (omega arith) (omega arith) (omega arith)
    (inr (inr (rw (same, get_or-append_seam front 32 (w ++ after ws) 0) refl)))
    (λ k low high. let here : k ≡ length front = omega arith in rw (same, here, get_or-append_seam front 32 (w ++ after ws) 0) refl)
    (solid_at more w (after ws) words.0)
    (λ below. let joined : (more ++ w) ++ after ws ≡ more ++ (w ++ after ws) = append_assoc more w (after ws) in
    let at : length (more ++ w) ≡ length more + length w = length-append more w in
    rw (← joined, ← at) (end_blank (more ++ w) ws (rw (joined, at) below))) in
    let next : tokens_from (more ++ (w ++ after ws)) (length more + length w) ≡ placed (length more + length w + 1) ws
    = rw (← append_assoc more w (after ws), ← length-append more w) (words_from (more ++ w) ws words.1) in
    ap (λ (l : List ℕ). tokens_from l (length front)) (sym same) ∙ first
    ∙ ap (λ (l : List Token). token_between (more ++ (w ++ after ws)) (length more) (length more + length w) ∷ l) next
    ∙ ap (λ (l : List ℕ). record { start = length more; bytes = l } ∷ placed (length more + length w + 1) ws) (piece_is more w (after ws))
    ∙ ap (λ (n : ℕ). placed n (w ∷ ws)) long

-- from the start of the line
pub words_of : (w : List ℕ) (ws : List (List ℕ)) → IsWord w → AreWords ws → tokens (join_with_byte 32 (w ∷ ws)) ≡ placed 0 (w ∷ ws)
words_of w ws word words =
    let some = word.some in
    let size = length-append w (after ws) in
    let zero_plus : 0 + length w ≡ length w = omega arith in
    let first : tokens_from (w ++ after ws) 0 ≡ token_between (w ++ after ws) 0 (length w) ∷ tokens_from (w ++ after ws) (length w)
    = first_token (w ++ after ws) 0 0 (length w) (omega arith) (omega arith) (omega arith) (inl refl) (λ k low high. absurd (omega arith))
    (λ k low high. solid_at [] w (after ws) word k (omega arith) (omega arith)) (λ below. end_blank w ws below) in
    ap tokens (spaced_is w ws) ∙ first
    ∙ ap (λ (l : List Token). token_between (w ++ after ws) 0 (length w) ∷ l) (words_from w ws words)
    ∙ ap (λ (l : List ℕ). record { start = 0; bytes = l } ∷ placed (length w + 1) ws) (rw zero_plus at (piece_is [] w (after ws)))
    ∙ ap (λ (n : ℕ). record { start = 0; bytes = w } ∷ placed (n + 1) ws) (sym zero_plus)

-- the bytes of each word stand at its place
pub word_stands : (front w : List ℕ) (ws : List (List ℕ)) → slice_range (front ++ after (w ∷ ws)) (length front + 1) (length front + 1 + length w) ≡ w
word_stands front w ws =
    let long : length (front ++ 32 ∷ []) ≡ length front + 1 = length-append front (32 ∷ []) in
    rw (← append_assoc front (32 ∷ []) (w ++ after ws), ← long) (piece_is (front ++ 32 ∷ []) w (after ws))

-- each token stands where it is said to
abbrev pub Stand : List ℕ → List Token → Type 0
Stand line [] = Unit {0}
Stand line (t ∷ ts) = (slice_range line t.start (t.start + length t.bytes) ≡ t.bytes) × Stand line ts

pub stand_from : (front : List ℕ) (ws : List (List ℕ)) → Stand (front ++ after ws) (placed (length front + 1) ws)
stand_from front [] = tt
stand_from front (w ∷ ws) =
    let more = front ++ 32 ∷ w in
    let long : length more + 1 ≡ length front + 1 + length w + 1 = omega (arith, length-append front (32 ∷ w)) in
    let same : more ++ after ws ≡ front ++ after (w ∷ ws) = append_assoc front (32 ∷ w) (after ws) in
    (word_stands front w ws, subst (λ (l : List ℕ). Stand l (placed (length front + 1 + length w + 1) ws)) same (subst (λ (n : ℕ). Stand (more ++ after ws) (placed n ws)) long (stand_from more ws)))

pub stand_in : (w : List ℕ) (ws : List (List ℕ)) → Stand (join_with_byte 32 (w ∷ ws)) (placed 0 (w ∷ ws))
stand_in w ws =
    let zero_plus : length w + 1 ≡ 0 + length w + 1 = omega arith in
    subst (λ (l : List ℕ). Stand l (placed 0 (w ∷ ws))) (sym (spaced_is w ws))
    (piece_is [] w (after ws), subst (λ (n : ℕ). Stand (w ++ after ws) (placed n ws)) zero_plus (stand_from w ws))
