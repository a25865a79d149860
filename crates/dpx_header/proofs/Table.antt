-- Fields that are laid over bytes, one after another.
use Rattle.std.proofs.Common.{◌≡◌, ℕ, zero, suc, ◌+◌, ◌-◌, ◌<◌, ◌≤◌, List, [], ◌∷◌, ◌++◌, length, take, drop, get_or, slice_index_or, IsTrue, refl, sym, ap, subst, ◌∙◌, arith, inl, inr, ◌⊎◌}
use Rattle.std.proofs.lemmas.Bool.{leb-true, and_parts}
use Rattle.std.proofs.lemmas.List.{length-append, length-drop, length-take-le, take-append-le, take-take, drop-take, get_or-take, get_or-drop}
use Rattle.std.proofs.Math.Seq.{take-append_seam, drop-append_seam, drop-append-add}
use Rattle.dpx_header.specs.Writing.{Field, IsOutside, Stands, laid, all_laid, lie_apart}

-- One field: the bytes before it and behind it stay, and its own stand there.
length-laid : (bytes : List ℕ) (field : Field) → field.0 + length field.1 ≤ length bytes → length (laid bytes field) ≡ length bytes
unfolding laid
length-laid bytes field within =
    let front = length-take-le field.0 bytes (omega arith) in
    omega (arith, length-append (take field.0 bytes) (field.1 ++ drop (field.0 + length field.1) bytes), length-append field.1 (drop (field.0 + length field.1) bytes), length-drop (field.0 + length field.1) bytes)

before_laid : (n : ℕ) (bytes : List ℕ) (field : Field) → n ≤ field.0 → field.0 ≤ length bytes → take n (laid bytes field) ≡ take n bytes
unfolding laid
before_laid n bytes field first within =
    let front = length-take-le field.0 bytes within in
    take-append-le n (take field.0 bytes) (field.1 ++ drop (field.0 + length field.1) bytes) (omega arith) ∙ take-take n field.0 bytes first

here_laid : (bytes : List ℕ) (field : Field) → field.0 ≤ length bytes → Stands (laid bytes field) field
unfolding laid
here_laid bytes field within =
    let rest : List ℕ = field.1 ++ drop (field.0 + length field.1) bytes in
    ap (take (length field.1)) (ap (λ n. drop n (take field.0 bytes ++ rest)) (sym (length-take-le field.0 bytes within)) ∙ drop-append_seam (take field.0 bytes) rest)
    ∙ take-append_seam field.1 (drop (field.0 + length field.1) bytes)

behind_laid : (bytes : List ℕ) (field : Field) → field.0 ≤ length bytes
    → drop (field.0 + length field.1) (laid bytes field) ≡ drop (field.0 + length field.1) bytes
unfolding laid
behind_laid bytes field within =
    let rest : List ℕ = field.1 ++ drop (field.0 + length field.1) bytes in
    ap (λ n. drop (n + length field.1) (take field.0 bytes ++ rest)) (sym (length-take-le field.0 bytes within))
    ∙ drop-append-add (take field.0 bytes) rest (length field.1)
    ∙ drop-append_seam field.1 (drop (field.0 + length field.1) bytes)

outside_laid : (bytes : List ℕ) (field : Field) (at : ℕ) → field.0 ≤ length bytes → (at < field.0) ⊎ (field.0 + length field.1 ≤ at)
    → get_or (laid bytes field) at 0 ≡ get_or bytes at 0
outside_laid bytes field at within (inl before) =
    sym (get_or-take (at + 1) (laid bytes field) at 0 (omega arith))
    ∙ ap (λ l. get_or l at 0) (before_laid (at + 1) bytes field (omega arith) within)
    ∙ get_or-take (at + 1) bytes at 0 (omega arith)
outside_laid bytes field at within (inr behind) =
    let end : ℕ = field.0 + length field.1 in
    let split : at ≡ field.0 + length field.1 + (at - (field.0 + length field.1)) = omega arith in
    ap (λ k. get_or (laid bytes field) k 0) split
    ∙ sym (get_or-drop end (laid bytes field) (at - end) 0)
    ∙ ap (λ l. get_or l (at - end) 0) (behind_laid bytes field within)
    ∙ get_or-drop end bytes (at - end) 0
    ∙ ap (λ k. get_or bytes k 0) (sym split)

-- What it says that fields lie apart.
first_apart : (start end : ℕ) (field : Field) (fields : List Field) → IsTrue (lie_apart start end (field ∷ fields)) → start ≤ field.0
unfolding lie_apart
first_apart start end field fields apart = leb-true _ _ (and_parts _ _ apart).0

rest_apart : (start end : ℕ) (field : Field) (fields : List Field) → IsTrue (lie_apart start end (field ∷ fields))
    → IsTrue (lie_apart (field.0 + length field.1) end fields)
unfolding lie_apart
rest_apart start end field fields apart = (and_parts _ _ apart).1

ends_apart : (start end : ℕ) (fields : List Field) → IsTrue (lie_apart start end fields) → start ≤ end
unfolding lie_apart
ends_apart start end [] apart = leb-true _ _ apart
ends_apart start end (field ∷ fields) apart =
    let first = first_apart start end field fields apart in
    let last = ends_apart (field.0 + length field.1) end fields (rest_apart start end field fields apart) in
    omega arith

-- All fields: they make no byte more, the bytes before them stay, and each one's stand there.
pub length-all_laid : (start end : ℕ) (fields : List Field) (bytes : List ℕ) → IsTrue (lie_apart start end fields) → end ≤ length bytes
    → length (all_laid bytes fields) ≡ length bytes
unfolding all_laid
length-all_laid start end [] bytes apart within = refl
length-all_laid start end (field ∷ fields) bytes apart within =
    let rest = rest_apart start end field fields apart in
    let last = ends_apart (field.0 + length field.1) end fields rest in
    let long = length-laid bytes field (omega arith) in
    length-all_laid (field.0 + length field.1) end fields (laid bytes field) rest (omega arith) ∙ long

before_all : (start end : ℕ) (fields : List Field) (bytes : List ℕ) → IsTrue (lie_apart start end fields) → end ≤ length bytes
    → take start (all_laid bytes fields) ≡ take start bytes
unfolding all_laid
before_all start end [] bytes apart within = refl
before_all start end (field ∷ fields) bytes apart within =
    let reach : ℕ = field.0 + length field.1 in
    let first = first_apart start end field fields apart in
    let rest = rest_apart start end field fields apart in
    let last = ends_apart (field.0 + length field.1) end fields rest in
    let long = length-laid bytes field (omega arith) in
    let later = before_all reach end fields (laid bytes field) rest (omega arith) in
    sym (take-take start reach (all_laid (laid bytes field) fields) (omega arith))
    ∙ ap (take start) later
    ∙ take-take start reach (laid bytes field) (omega arith)
    ∙ before_laid start bytes field first (omega arith)

pub stands_all : (start end : ℕ) (fields : List Field) (bytes : List ℕ) (k : ℕ) (field : Field) → IsTrue (lie_apart start end fields)
    → end ≤ length bytes → k < length fields → slice_index_or fields k field ≡ field → Stands (all_laid bytes fields) field
unfolding all_laid
stands_all start end [] bytes k field apart within lt is = absurd (omega arith)
stands_all start end (first ∷ fields) bytes zero field apart within lt is =
    let rest = rest_apart start end first fields apart in
    let last = ends_apart (first.0 + length first.1) end fields rest in
    let long = length-laid bytes first (omega arith) in
    let stands : Stands (all_laid (laid bytes first) fields) first =
    sym (drop-take first.0 (length first.1) (all_laid (laid bytes first) fields))
    ∙ ap (drop first.0) (before_all (first.0 + length first.1) end fields (laid bytes first) rest (omega arith))
    ∙ drop-take first.0 (length first.1) (laid bytes first)
    ∙ here_laid bytes first (omega arith) in
    subst (Stands (all_laid (laid bytes first) fields)) is stands
stands_all start end (first ∷ fields) bytes (suc k) field apart within lt is =
    let rest = rest_apart start end first fields apart in
    let last = ends_apart (first.0 + length first.1) end fields rest in
    let long = length-laid bytes first (omega arith) in
    stands_all (first.0 + length first.1) end fields (laid bytes first) k field rest (omega arith) (omega arith) is

pub outside_all : (start end : ℕ) (fields : List Field) (bytes : List ℕ) (at : ℕ) → IsTrue (lie_apart start end fields)
    → end ≤ length bytes → IsOutside fields at → get_or (all_laid bytes fields) at 0 ≡ get_or bytes at 0
unfolding all_laid
outside_all start end [] bytes at apart within outside = refl
outside_all start end (first ∷ fields) bytes at apart within outside =
    let rest = rest_apart start end first fields apart in
    let last = ends_apart (first.0 + length first.1) end fields rest in
    let long = length-laid bytes first (omega arith) in
    outside_all (first.0 + length first.1) end fields (laid bytes first) at rest (omega arith) (λ k d lt. outside (suc k) d (omega arith))
    ∙ outside_laid bytes first at (omega arith) (outside 0 first (omega arith))

-- several lists of fields, one after another
pub all_laid-append : (bytes : List ℕ) (a b : List Field) → all_laid bytes (a ++ b) ≡ all_laid (all_laid bytes a) b
unfolding all_laid
all_laid-append bytes [] b = refl
all_laid-append bytes (field ∷ a) b = all_laid-append (laid bytes field) a b
