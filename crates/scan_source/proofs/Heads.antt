-- The first bytes of a file, filled up with zeros.
use Rattle.std.proofs.Common.{◌≡◌, ℕ, ◌-◌, ◌≤◌, min, List, ◌++◌, length, take, drop, replicate, refl, sym, ap, ◌∙◌, arith, inl, inr}
use Rattle.std.proofs.lemmas.Bool.{cases_lt}
use Rattle.std.proofs.lemmas.List.{take_all, drop-replicate, length-take-le, take-append-le, take-append-drop}
use Rattle.scan_source.specs.Answers.{first_bytes}

take_least : (count : ℕ) (bytes : List ℕ) → take (min (length bytes) count) bytes ≡ take count bytes
take_least count bytes = elim (cases_lt (length bytes) count) [
  | inl short ↦ take_all (min (length bytes) count) bytes (omega arith) ∙ sym (take_all count bytes (omega arith))
  | inr long ↦ let all : min (length bytes) count ≡ count = omega arith in rw all refl
]

-- a front that is copied over zeros
pub head_filled : (count n : ℕ) (bytes front : List ℕ) → n ≡ min (length bytes) count → front ≡ take n bytes
    → front ++ drop n (replicate count 0) ≡ first_bytes count bytes
unfolding first_bytes
head_filled count n bytes front least is =
    let left : count - n ≡ count - length bytes = omega arith in
    rw (is, drop-replicate, left, least, take_least) refl

take_front : (count most : ℕ) (bytes : List ℕ) → count ≤ length (take most bytes) → take count (take most bytes) ≡ take count bytes
take_front count most bytes within =
    sym (take-append-le count (take most bytes) (drop most bytes) within) ∙ ap (take count) (take-append-drop most bytes)

-- the first bytes of a file are those of a longer front of it
pub first_bytes_front : (count most : ℕ) (bytes : List ℕ) → count ≤ most → first_bytes count (take most bytes) ≡ first_bytes count bytes
unfolding first_bytes
first_bytes_front count most bytes within = elim (cases_lt (length bytes) most) [
  | inl short ↦ ap (first_bytes count) (take_all most bytes (omega arith))
  | inr long ↦
      let part = length-take-le most bytes long in
      let none : count - length (take most bytes) ≡ count - length bytes = omega arith in
      rw (none, take_front count most bytes (omega arith)) refl
]
