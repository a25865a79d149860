-- A short file has nothing there.
use Rattle.std.proofs.Common.{◌≡◌, ◌∙◌, ℕ, List, length, drop, min, ◌≤◌, take, inl, inr, ap, sym, arith}
use Rattle.std.proofs.lemmas.Bool.{cases_lt}
use Rattle.std.proofs.lemmas.List.{drop_all, length-drop, take_all}
use Rattle.reel_qc.proofs.words.image_of.Goals as goal

at_most : (n start : ℕ) (l : List ℕ) → n ≡ min (length l) start → drop n l ≡ drop start l
at_most n start l is = elim (cases_lt (length l) start) [
  | inl short ↦ drop_all n l (omega (arith, is, short)) ∙ sym (drop_all start l (omega (arith, short)))
  | inr long ↦ let same : n ≡ start = omega (arith, is, long) in ap (λ k. drop k l) same
]

all_of : (l : List ℕ) (n : ℕ) → length l ≤ n → take n l ≡ l
all_of l n le = take_all n l le

pub returns : goal.returns
returns c = all_of _ _ (omega (arith, length-drop c.min.result c.args.file.now)) ∙ at_most c.min.result 2048 c.args.file.now c.min.ensures
