-- The entries of a map of files, from the first on.
use Rattle.std.proofs.Common.{◌≡◌, ◌≢◌, inl, inr, ℕ, true, false, List, ◌∷◌, refl, ap}
use Rattle.std.specs.Prelude.{cond, Some, Vec}
use Rattle.std.specs.declared.alloc.Global.{Global}
use Rattle.std.specs.declared.cmp.Ordering.{Ordering}
use Rattle.std.specs.declared.cmp.Ordering.TheVariants.{Less, Equal, Greater}
use Rattle.std.specs.Ordering.{nat_cmp, is_eq}
use Rattle.std.specs.Map.{lookup}
use Rattle.std.specs.BTreeMap.{is_at}
use Rattle.std.proofs.lemmas.Bool.{cases_Bool}
use Rattle.std.proofs.lemmas.Map.Lookups.{exact_unsigned, exact_pairs}
use Rattle.cf_base.specs.declared.file.FileId.{FileId}
use Rattle.cf_base.specs.declared.file.FileId.TheVariants.{Seal, Body, Seal2, Body2, Sheet, Frame}
use Rattle.cf_base.specs.contracts.file.FileIdOrd.TheImpl as file_id_order
use Rattle.reel_disk.specs.Memory.{content_of}
use Rattle.reel_disk.specs.inside.Memory.{find_in}

is_equal : (o : Ordering) → is_eq o ≡ true → o ≡ Equal
is_equal Less is = let e : false ≡ true = is in cc
is_equal Equal is = refl
is_equal Greater is = let e : false ≡ true = is in cc

-- the order of names tells all names apart
equal_same : (a b : FileId) → (file_id_order.ghosts).cmp a b ≡ Equal → a ≡ b
equal_same Seal Seal equal = refl
equal_same Body Body equal = refl
equal_same Seal2 Seal2 equal = refl
equal_same Body2 Body2 equal = refl
equal_same Sheet Sheet equal = refl
equal_same (Frame r f) (Frame s g) equal = ap (λ (p : ℕ × ℕ). Frame p.0 p.1) (exact_pairs nat_cmp nat_cmp exact_unsigned exact_unsigned (r, f) (s, g) equal)
equal_same a b equal = cc

-- a file isn't that of an entry with another name
pub find_later : (entry : FileId × Vec ℕ Global) (rest : List (FileId × Vec ℕ Global)) (q : FileId) → q ≢ entry.0 → find_in (entry ∷ rest) q ≡ find_in rest q
find_later entry rest q other = elim (cases_Bool (is_at ((file_id_order.ghosts).cmp q) entry.0)) [
  | inl here ↦ absurd (other (equal_same q entry.0 (is_equal ((file_id_order.ghosts).cmp q entry.0) here)))
  | inr not ↦ ap (λ b. content_of (cond b (Some entry.1) (lookup (is_at ((file_id_order.ghosts).cmp q)) rest))) not
]
