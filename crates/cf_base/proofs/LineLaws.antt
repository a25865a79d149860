-- The lines of a text, one after another.
use Rattle.std.proofs.Common.{◌≡◌, ℕ, ◌+◌, ◌-◌, ◌<◌, ◌≤◌, min, List, [], ◌∷◌, length, take, drop, map, refl, ap, sym, ◌∙◌, arith, inl, inr, length-drop, length-take}
use Rattle.std.proofs.lemmas.Bool.{cases_lt, cases_Bool, cond_both}
use Rattle.std.proofs.Math.Seq.{take-append_seam, drop-length}
use Rattle.std.proofs.lemmas.List.{take-append-drop, take-append-le, take_all, drop-drop}
use Rattle.std.proofs.lemmas.List.Sums.{fails_before_first}
use Rattle.std.proofs.lemmas.List.Splits.{slice_split_first, slice_split_none}
use Rattle.std.specs.List.{slice_split, before_first, after_first, slice_range}
use Rattle.cf_base.specs.Lines.{is_line_feed, without_return, without_last_empty, lines_of, feed_from, line_from, LinesInTurn}

-- the list of pieces is never empty
pub some_piece : (text : List ℕ) → (q : List ℕ) × (qs : List (List ℕ)) × (slice_split is_line_feed text ≡ q ∷ qs)
some_piece [] = ([], [], refl)
some_piece (byte ∷ text) = elim (cases_Bool (is_line_feed byte)) [
  | inl feed ↦ ([], slice_split is_line_feed text, rw feed refl)
  | inr other ↦ let h = some_piece text in (byte ∷ h.0, h.1, rw (other, h.2) refl)
]

pub keeps_more : (piece q : List ℕ) (qs : List (List ℕ)) → without_last_empty (piece ∷ q ∷ qs) ≡ piece ∷ without_last_empty (q ∷ qs)
keeps_more [] q qs = refl
keeps_more (byte ∷ piece) q qs = refl

pub keeps_first : (piece : List ℕ) (text : List ℕ) → without_last_empty (piece ∷ slice_split is_line_feed text) ≡ piece ∷ without_last_empty (slice_split is_line_feed text)
keeps_first piece text = let h = some_piece text in rw h.2 (keeps_more piece h.0 h.1)

pub keeps_last : (piece : List ℕ) → 0 < length piece → without_last_empty (piece ∷ []) ≡ piece ∷ []
keeps_last [] some = absurd (omega arith)
keeps_last (byte ∷ piece) some = refl

-- the front of a list, by its own length
pub front_again : (j : ℕ) (xs : List ℕ) → take (length (take j xs)) xs ≡ take j xs
front_again j xs = ap (λ (ys : List ℕ). take (length (take j xs)) ys) (sym (take-append-drop j xs)) ∙ take-append_seam (take j xs) (drop j xs)

pub front_of_front : (m k : ℕ) (xs : List ℕ) → take (length (take m (take k xs))) xs ≡ take m (take k xs)
front_of_front m k xs =
    let l = take k xs in
    let n = length (take m l) in
    let few : n ≤ length l = omega (arith, length-take m l) in
    ap (λ (ys : List ℕ). take n ys) (sym (take-append-drop k xs)) ∙ take-append-le n l (drop k xs) few ∙ front_again m l

pub without_return_front : (k : ℕ) (xs : List ℕ) → take (length (without_return (take k xs))) xs ≡ without_return (take k xs)
without_return_front k xs =
    cond_both _ _ _ (λ (l : List ℕ). take (length l) xs ≡ l) (λ e. front_of_front (length (take k xs) - 1) k xs) (λ e. front_again k xs)

pub line_is : (text : List ℕ) (at : ℕ) → slice_range text at (at + length (line_from text at)) ≡ line_from text at
line_is text at =
    let e : at + length (line_from text at) - at ≡ length (line_from text at) = omega arith in
    rw e (without_return_front (feed_from text at) (drop at text))

pub in_turn : LinesInTurn
in_turn text at below =
    let rest = drop at text in
    let some : 0 < length rest = omega (arith, length-drop at text) in
    elim (cases_lt (feed_from text at) (length rest)) [
      | inl found ↦
          let there : min (at + feed_from text at + 1) (length text) ≡ at + (feed_from text at + 1) = omega (arith, length-drop at text) in
          ap (λ (ps : List (List ℕ)). map without_return (without_last_empty ps)) (slice_split_first is_line_feed rest 0 found)
          ∙ ap (map without_return) (keeps_first (before_first is_line_feed rest) (after_first is_line_feed rest))
          ∙ rw (line_is text at, there) (ap (λ (ys : List ℕ). line_from text at ∷ lines_of ys) (drop-drop (feed_from text at + 1) at text))
      | inr none ↦
          let there : min (at + feed_from text at + 1) (length text) ≡ length text = omega (arith, length-drop at text) in
          ap (λ (ps : List (List ℕ)). map without_return (without_last_empty ps)) (slice_split_none is_line_feed rest (λ k d small. fails_before_first is_line_feed rest k d (omega arith)))
          ∙ ap (map without_return) (keeps_last rest some)
          ∙ rw (line_is text at, there, drop-length) (ap (λ (ys : List ℕ). without_return ys ∷ []) (sym (take_all (feed_from text at) rest none)))
    ]
