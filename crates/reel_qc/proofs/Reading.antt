-- The words of a file, piece by piece.
use Rattle.std.proofs.Common.{◌≡◌, ℕ, zero, suc, ◌+◌, ◌-◌, ◌*◌, ◌/◌, ◌<◌, ◌≤◌, min, List, [], ◌∷◌, ◌++◌, length, take, drop, map, Option, Some, None, refl, sym, ap, ◌∙◌, arith, append-nil}
use Rattle.std.proofs.lemmas.List.{append_assoc, drop-drop, drop-take, length-drop, length-take-le, take-append-le, take-take, take_all}
use Rattle.std.proofs.lemmas.List.FromFn.{fill_by_all, get_or-map-range_with_len, length-map-range_with_len, map-range_with_len_more}
use Rattle.std.specs.List.{range_with_len}
use borrow.Rule.Slice.PartMut.{put_mid}
use Rattle.byteorder.specs.Endian.{IsRead, big_number}
use Rattle.byteorder.specs.Numbers.{big_from-take}
use Rattle.reel_disk.specs.declared.disk.Got.TheVariants.{Bytes}
use Rattle.reel_disk.specs.Disk.{HasRead}
use Rattle.reel_qc.specs.Words.{whole_words, words_from, words_in}

-- a list by its places
same_words : (f g : ℕ → ℕ) (n : ℕ) → ((k : ℕ) → k < n → f k ≡ g k) → map f (range_with_len 0 n) ≡ map g (range_with_len 0 n)
same_words f g n same =
    fill_by_all g (map f (range_with_len 0 n)) n 0 (length-map-range_with_len f 0 n)
    (λ k lt. get_or-map-range_with_len f 0 n k k 0 lt (omega arith) ∙ same k lt)

-- in two parts
two_parts : (f : ℕ → ℕ) (a b : ℕ) → map f (range_with_len 0 (a + b)) ≡ map f (range_with_len 0 a) ++ map (λ k. f (a + k)) (range_with_len 0 b)
two_parts f a zero =
    let none : a + 0 ≡ a = omega arith in
    ap (λ n. map f (range_with_len 0 n)) none ∙ sym (append-nil _)
two_parts f a (suc b) =
    let more : a + suc b ≡ a + b + 1 = omega arith in
    let last : suc b ≡ b + 1 = omega arith in
    ap (λ n. map f (range_with_len 0 n)) more
    ∙ map-range_with_len_more f 0 (a + b) (a + b) (omega arith)
    ∙ ap (λ l. l ++ f (a + b) ∷ []) (two_parts f a b)
    ∙ append_assoc (map f (range_with_len 0 a)) (map (λ k. f (a + k)) (range_with_len 0 b)) (f (a + b) ∷ [])
    ∙ ap (λ l. map f (range_with_len 0 a) ++ l) (sym (map-range_with_len_more (λ k. f (a + k)) 0 b b (omega arith)))
    ∙ ap (λ n. map f (range_with_len 0 a) ++ map (λ k. f (a + k)) (range_with_len 0 n)) (sym last)

-- the words up to a place, and those from there on
words_along : (start done count : ℕ) (bytes : List ℕ) → words_from start (done + count) bytes ≡ words_from start done bytes ++ words_from (start + 4 * done) count bytes
unfolding words_from
words_along start done count bytes =
    let f : ℕ → ℕ = λ k. big_number 4 (drop (start + 4 * k) bytes) in
    let first : ℕ = whole_words start done (length bytes) in
    let rest : ℕ = whole_words (start + 4 * done) count (length bytes) in
    let sum : whole_words start (done + count) (length bytes) ≡ first + rest = omega arith in
    ap (λ n. map f (range_with_len 0 n)) sum
    ∙ two_parts f first rest
    ∙ ap (λ l. map f (range_with_len 0 first) ++ l)
    (same_words (λ k. f (first + k)) (λ k. big_number 4 (drop (start + 4 * done + 4 * k) bytes)) rest
    (λ k lt. ap (λ n. big_number 4 (drop n bytes)) (omega (arith, lt))))

pub words_more : (first done count : ℕ) (content : Option (List ℕ)) → words_in first (done + count) content ≡ words_in first done content ++ words_in (first + done) count content
words_more first done count None = refl
words_more first done count (Some bytes) =
    let there : 2048 + 4 * first + 4 * done ≡ 2048 + 4 * (first + done) = omega arith in
    words_along (2048 + 4 * first) done count bytes ∙ ap (λ n. words_from (2048 + 4 * first) done bytes ++ words_from n count bytes) there

words_none : (start : ℕ) (bytes : List ℕ) → words_from start 0 bytes ≡ []
unfolding words_from
words_none start bytes =
    let none : min 0 ((length bytes - start) / 4) ≡ 0 = omega arith in
    ap (λ n. map (λ k. big_number 4 (drop (start + 4 * k) bytes)) (range_with_len 0 n)) none

pub none_read : (first : ℕ) (content : Option (List ℕ)) → [] ≡ words_in first 0 content
none_read first None = refl
none_read first (Some bytes) = sym (words_none (2048 + 4 * first) bytes)

-- the front of two lists reaches into the second
take_behind : (front rest : List ℕ) (m : ℕ) → take (length front + m) (front ++ rest) ≡ front ++ take m rest
take_behind [] rest m = let none : 0 + m ≡ m = omega arith in ap (λ n. take n rest) none
take_behind (x ∷ front) rest m =
    let one : length (x ∷ front) + m ≡ suc (length front + m) = omega arith in
    ap (λ n. take n (x ∷ front ++ rest)) one ∙ ap (λ l. x ∷ l) (take_behind front rest m)

-- the words that were found lie one after another
pub found_behind : (found more count : ℕ) (words room : List ℕ) → found + count ≤ length words → length room ≡ count → more ≤ count
    → take (found + more) (take found words ++ (room ++ drop (found + count) words)) ≡ take found words ++ take more room
found_behind found more count words room within size few =
    ap (λ n. take (n + more) (take found words ++ (room ++ drop (found + count) words))) (sym (length-take-le found words (omega (arith, within))))
    ∙ take_behind (take found words) (room ++ drop (found + count) words) more
    ∙ ap (λ l. take found words ++ l) (take-append-le more room _ (omega (arith, size, few)))

pub parts_read : (done count : ℕ) (content later : Option (List ℕ)) → later ≡ content → words_in 0 (done + count) content ≡ words_in 0 done content ++ words_in done count later
parts_read done count content later same =
    let from : 0 + done ≡ done = omega arith in
    words_more 0 done count content ∙ (λ i. words_in 0 done content ++ words_in (from i) count (sym same i))

-- so many places of a list
pub part_size : (at count : ℕ) (words : List ℕ) → at + count ≤ length words → length (take (at + count - at) (drop at words)) ≡ count
part_size at count words within =
    let size : at + count - at ≡ count = omega arith in
    ap (λ n. length (take n (drop at words))) size ∙ length-take-le count (drop at words) (omega (arith, length-drop at words, within))

-- the words of one read more lie behind those before
pub found_joined : (count found more : ℕ) (words room : List ℕ) → found + count ≤ length words → length room ≡ count → more ≤ count
    → take (found + more) (put_mid found (found + count - found) words room) ≡ take found words ++ take more room
found_joined count found more words room within size few =
    let whole : found + (found + count - found) ≡ found + count = omega arith in
    ap (λ l. take (found + more) (take found words ++ (room ++ l))) (drop-drop (found + count - found) found words ∙ ap (λ n. drop n words) whole)
    ∙ found_behind found more count words room within size few

-- one read more
pub found_more : (first done count found more : ℕ) (content later : Option (List ℕ)) (words room : List ℕ) → found + count ≤ length words → length room ≡ count → more ≤ count
    → later ≡ content → take found words ≡ words_in first done content → take more room ≡ words_in (first + done) count later
    → take (found + more) (put_mid found (found + count - found) words room) ≡ words_in first (done + count) content
found_more first done count found more content later words room within size few same so_far read =
    found_joined count found more words room within size few
    ∙ (λ i. so_far i ++ read i)
    ∙ ap (λ file. words_in first done content ++ words_in (first + done) count file) same
    ∙ sym (words_more first done count content)

-- what is kept of a list that was written over
pub kept : (n len : ℕ) (new rest : List ℕ) → n ≤ len → n ≤ length new → take n (take len (new ++ rest)) ≡ take n new
kept n len new rest within few = take-take n len (new ++ rest) within ∙ take-append-le n new rest few

-- a word of a piece that was read is that of the file
piece_word : (start n k : ℕ) (bytes : List ℕ) → 4 * k + 4 ≤ n → big_number 4 (drop (0 + 4 * k) (take n (drop start bytes))) ≡ big_number 4 (drop (start + 4 * k) bytes)
piece_word start n k bytes within =
    let at : 0 + 4 * k ≡ 4 * k = omega arith in
    let split : n ≡ 4 * k + (n - 4 * k) = omega arith in
    ap (λ m. big_number 4 (drop m (take n (drop start bytes)))) at
    ∙ ap (λ m. big_number 4 (drop (4 * k) (take m (drop start bytes)))) split
    ∙ ap (big_number 4) (drop-take (4 * k) (n - 4 * k) (drop start bytes))
    ∙ big_from-take 0 4 (n - 4 * k) (drop (4 * k) (drop start bytes)) (omega arith)
    ∙ ap (big_number 4) (drop-drop (4 * k) start bytes)

piece_words : (start count n : ℕ) (bytes : List ℕ) → n ≡ min (4 * count) (length bytes - start)
    → words_from 0 count (take n (drop start bytes)) ≡ words_from start count bytes
unfolding words_from
piece_words start count n bytes n_is =
    let long : length (take n (drop start bytes)) ≡ n = length-take-le n (drop start bytes) (omega (arith, length-drop start bytes, n_is)) in
    let same : min count ((length (take n (drop start bytes)) - 0) / 4) ≡ min count ((length bytes - start) / 4) = omega (arith, long, n_is) in
    ap (λ m. map (λ k. big_number 4 (drop (0 + 4 * k) (take n (drop start bytes)))) (range_with_len 0 m)) same
    ∙ same_words (λ k. big_number 4 (drop (0 + 4 * k) (take n (drop start bytes)))) (λ k. big_number 4 (drop (start + 4 * k) bytes)) (min count ((length bytes - start) / 4))
    (λ k lt. piece_word start n k bytes (omega (arith, lt, n_is)))

pub read_in : (content : Option (List ℕ)) (first count n : ℕ) (into : List ℕ) → length into ≡ 4 * count → HasRead content (2048 + 4 * first) into (Bytes n)
    → words_from 0 count (take n into) ≡ words_in first count content
read_in content first count n into size read =
    ap (words_from 0 count) read.3
    ∙ piece_words (2048 + 4 * first) count n read.0 (omega (arith, read.2, size))
    ∙ ap (words_in first count) (sym read.1)

pub none_in : (first count : ℕ) (content : Option (List ℕ)) → content ≡ None → [] ≡ words_in first count content
none_in first count content is = sym (ap (words_in first count) is)

-- the words from a byte on are those of the rest
pub behind : (start most : ℕ) (bytes : List ℕ) → words_from 0 most (drop start bytes) ≡ words_from start most bytes
unfolding words_from
behind start most bytes =
    let long = length-drop start bytes in
    let same : min most ((length (drop start bytes) - 0) / 4) ≡ min most ((length bytes - start) / 4) = omega (arith, long) in
    ap (λ m. map (λ k. big_number 4 (drop (0 + 4 * k) (drop start bytes))) (range_with_len 0 m)) same
    ∙ same_words (λ k. big_number 4 (drop (0 + 4 * k) (drop start bytes))) (λ k. big_number 4 (drop (start + 4 * k) bytes)) (min most ((length bytes - start) / 4))
    (λ k lt. let at : 0 + 4 * k ≡ 4 * k = omega arith in ap (λ m. big_number 4 (drop m (drop start bytes))) at ∙ ap (big_number 4) (drop-drop (4 * k) start bytes))

-- a slice's first words are those of some bytes
pub words_taken : (count most : ℕ) (bytes words taken : List ℕ) → count ≡ min most (length bytes / 4) → length taken ≡ count
    → IsRead big_number 4 (take (4 * count) bytes) taken → take count (taken ++ drop count words) ≡ words_from 0 most bytes
unfolding words_from
words_taken count most bytes words taken count_is size read =
    take-append-le count taken (drop count words) (omega (arith, size)) ∙ take_all count taken (omega (arith, size))
    ∙ fill_by_all (λ k. big_number 4 (drop (0 + 4 * k) bytes)) taken (whole_words 0 most (length bytes)) 0 (omega (arith, size, count_is))
    (λ k lt. read k (omega (arith, lt, size, count_is)) ∙ piece_byte k (omega (arith, lt, count_is)))
  where
    piece_byte : (k : ℕ) → k < count → big_number 4 (drop (4 * k) (take (4 * count) bytes)) ≡ big_number 4 (drop (0 + 4 * k) bytes)
    piece_byte k lt =
        let at : 0 + 4 * k ≡ 4 * k = omega arith in
        let split : 4 * count ≡ 4 * k + (4 * count - 4 * k) = omega (arith, lt) in
        ap (λ m. big_number 4 (drop (4 * k) (take m bytes))) split
        ∙ ap (big_number 4) (drop-take (4 * k) (4 * count - 4 * k) bytes)
        ∙ big_from-take 0 4 (4 * count - 4 * k) (drop (4 * k) bytes) (omega (arith, lt))
        ∙ ap (λ m. big_number 4 (drop m bytes)) (sym at)
