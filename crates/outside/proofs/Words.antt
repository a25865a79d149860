-- The words behind the first.
use Rattle.std.proofs.Common.{◌≡◌, ◌<◌, ◌+◌, ◌↔◌, ℕ, List, [], ◌∷◌, ◌++◌, length, drop, Option, IsSome, sym, ap, ◌∙◌, arith, append-nil}
use Rattle.std.specs.Prelude.{Some, None, option_to_list}
use Rattle.std.proofs.lemmas.List.{nil_from_length}
use Rattle.std.proofs.lemmas.Bool.{false≢true}

-- nothing is left where none is
pub none_left : {X : Type 0} (came left all : List X) (n : ℕ) → came ++ left ≡ all → n ≡ length left → n ≡ 0 → came ≡ all
none_left came left all n whole size none = sym (append-nil came) ∙ ap (λ (l : List _). came ++ l) (sym (nil_from_length left (sym size ∙ none))) ∙ whole

-- where a first word was taken off, those are left that stand behind it
pub behind : {X : Type 0} (all rest : List X) (first : Option X) (n m : ℕ) → all ≡ option_to_list first ++ rest → n ≡ length all → m ≡ length rest → m + length (option_to_list first) ≡ n
    → IsSome first ↔ (0 < n) → rest ≡ drop 1 all
behind {X} all rest (Some x) n m split size left less some = ap (drop 1) (sym split)
behind {X} all rest None n m split size left less some = by n rest (omega (arith, less, left)) (λ more. false≢true (some.1 more)) split
  where
    by : (n : ℕ) (rest : List X) → n ≡ length rest → (0 < n → ⊥) → all ≡ rest → rest ≡ drop 1 all
    by n [] is none same = ap (drop 1) (sym same)
    by n (x ∷ rest) is none same = absurd (none (omega (arith, is)))
