-- A count of the whole is the sum of its pieces' counts.
use Rattle.std.proofs.Common.{◌≡◌, ℕ, ◌+◌, ◌/◌, ◌%◌, ◌^◌, ◌<◌, ◌≤◌, List, [], ◌∷◌, ◌++◌, length, map, cond, refl, sym, ap, ◌∙◌, arith, w32, Fits, get_or}
use Rattle.std.specs.List.{All, fold, flat_map, sum_by}
use Rattle.std.proofs.lemmas.List.Sums.{sum_by-append, sum_by-cons, sum_by-le, count_by-le-length}
use Rattle.std.proofs.lemmas.List.{get_or_default}
use Rattle.std.proofs.Math.Facts.{Fits-lt-pow}
use Rattle.rayon.specs.Lists.{chunks_of}
use Rattle.rayon.proofs.ToStd.{chunks_of-concat}
use Rattle.reel_qc.specs.declared.table.probe.ProbeKind.{ProbeKind}
use Rattle.reel_qc.specs.declared.table.probe.ProbeKind.TheVariants.{High, Low, Sum}
use Rattle.reel_qc.specs.Counts.{count_of, reaches_high, reaches_low, code_sum}

-- what one word adds to the count of a kind
weight : ProbeKind → ℕ → ℕ
weight High word = cond (reaches_high word) 1 0
weight Low word = cond (reaches_low word) 1 0
weight Sum word = code_sum word

count_is : (kind : ProbeKind) (words : List ℕ) → count_of kind words ≡ sum_by (weight kind) words
unfolding weight
count_is High words = refl
count_is Low words = refl
count_is Sum words = refl

pieces_of : (f : ℕ → ℕ) (pieces : List (List ℕ)) → fold ◌+◌ 0 (map (sum_by f) pieces) ≡ sum_by f (flat_map (λ l. l) pieces)
pieces_of f [] = refl
pieces_of f (piece ∷ pieces) =
    sum_by-cons (λ x. x) (sum_by f piece) (map (sum_by f) pieces) ∙ ap (λ n. sum_by f piece + n) (pieces_of f pieces)
    ∙ sym (sum_by-append f piece (flat_map (λ l. l) pieces))

same_map : (kind : ProbeKind) (pieces : List (List ℕ)) → map (count_of kind) pieces ≡ map (sum_by (weight kind)) pieces
same_map kind [] = refl
same_map kind (piece ∷ pieces) = λ i. count_is kind piece i ∷ same_map kind pieces i

pub whole_of_pieces : (kind : ProbeKind) (size : ℕ) (words : List ℕ) → 0 < size → fold ◌+◌ 0 (map (count_of kind) (chunks_of size words)) ≡ count_of kind words
whole_of_pieces kind size words pos =
    ap (fold ◌+◌ 0) (same_map kind (chunks_of size words)) ∙ pieces_of (weight kind) (chunks_of size words)
    ∙ ap (sum_by (weight kind)) (chunks_of-concat size words pos) ∙ sym (count_is kind words)

-- no count of a picture is past a word of 64 bits
pub count_small : (kind : ProbeKind) (words : List ℕ) → ((i : ℕ) → get_or words i 0 < 2 ^ 32) → length words ≤ 16777216 → count_of kind words < 2 ^ 64
count_small High words fit short = omega (arith, count_by-le-length reaches_high words)
count_small Low words fit short = omega (arith, count_by-le-length reaches_low words)
count_small Sum words fit short = omega (arith, sum_by-le code_sum 3069 words small)
  where
    codes : (word : ℕ) → word < 2 ^ 32 → code_sum word ≤ 3069
    codes word lt =
        let red : word / 2 ^ 22 < 2 ^ 10 = omega arith in
        let green = mod_below (word / 2 ^ 12) in
        let blue = mod_below (word / 2 ^ 2) in
        omega (arith, red, green, blue)
      where
        mod_below : (n : ℕ) → n % 2 ^ 10 < 2 ^ 10
        mod_below n = omega arith

    small : All (λ word. code_sum word ≤ 3069) words
    small k d lt = rw (get_or_default words k d 0 lt) (codes (get_or words k 0) (fit k))

pub count_fits : (kind : ProbeKind) (words : List ℕ) → ((i : ℕ) → Fits w32 (get_or words i 0)) → length words ≤ 16777216 → count_of kind words < 2 ^ 64
count_fits kind words fit short = count_small kind words (λ i. Fits-lt-pow {w = w32} (fit i)) short

-- the count of two parts is the sum of theirs
pub count_along : (kind : ProbeKind) (first second : List ℕ) → count_of kind (first ++ second) ≡ count_of kind first + count_of kind second
count_along kind first second =
    count_is kind (first ++ second) ∙ sum_by-append (weight kind) first second ∙ (λ i. sym (count_is kind first) i + sym (count_is kind second) i)
