-- A legal log of a run on one thread is determined by its asks and by which of its puts found memory.
use Rattle.std.proofs.Common.{◌≡◌, ℕ, Bool, true, false, List, [], ◌∷◌, ◌++◌, length, refl, sym, ◌∙◌, ap, subst, slice_get}
use Rattle.std.specs.Prelude.{Some}
use Rattle.std.proofs.lemmas.List.{append_assoc}
use Rattle.std.proofs.Math.Seq.{take-append_seam}
use Rattle.cf_base.specs.declared.key.Key.{Key}
use Rattle.frame_share.specs.declared.step.ShareStep.{ShareStep}
use Rattle.frame_share.specs.declared.step.ShareStep.TheVariants.{Ask, Put}
use Rattle.frame_share.specs.Share.{IsLegal, IsNext, has_key}
use Rattle.run_alone.specs.Sharing.{IsDetermined, kepts_of}
use Rattle.frame_fetch.specs.Sharing.{IsPaired, asks_of}

head_of : {X : Type 0} (x y : X) (xs ys : List X) → (x ∷ xs) ≡ (y ∷ ys) → x ≡ y
head_of x y xs ys e = cc

tail_of : {X : Type 0} (x y : X) (xs ys : List X) → (x ∷ xs) ≡ (y ∷ ys) → xs ≡ ys
tail_of x y xs ys e = cc

at_seam : (pre : List ShareStep) (s : ShareStep) (rest : List ShareStep) → slice_get (pre ++ s ∷ rest) (length pre) ≡ Some s
at_seam [] s rest = refl
at_seam (p ∷ pre) s rest = at_seam pre s rest

module _ (c : ℕ) where
  -- the step after the first ones could come next
  next_at : (pre : List ShareStep) (s : ShareStep) (rest : List ShareStep) → IsLegal c (pre ++ s ∷ rest) → IsNext c pre s
  next_at pre s rest legal = subst (λ xs. IsNext c xs s) (take-append_seam pre (s ∷ rest)) (legal (length pre) s (at_seam pre s rest))

  -- one step more among the first ones
  on : (pre : List ShareStep) (s : ShareStep) (rest : List ShareStep) → IsLegal c (pre ++ s ∷ rest) → IsLegal c ((pre ++ s ∷ []) ++ rest)
  on pre s rest legal = subst (IsLegal c) (sym (append_assoc pre (s ∷ []) rest)) legal

  hits : (pre : List ShareStep) (k l : Key) (h i : Bool) (xs ys : List ShareStep) → IsLegal c (pre ++ Ask k h ∷ xs) → IsLegal c (pre ++ Ask l i ∷ ys) → k ≡ l → h ≡ i
  hits pre k l h i xs ys p q e = next_at pre (Ask k h) xs p ∙ ap (has_key c pre) e ∙ sym (next_at pre (Ask l i) ys q)

  same : (pre xs ys : List ShareStep) → IsLegal c (pre ++ xs) → IsLegal c (pre ++ ys) → IsPaired (Unit {0}) xs → IsPaired (Unit {0}) ys → asks_of xs ≡ asks_of ys → kepts_of xs ≡ kepts_of ys → xs ≡ ys
  same pre [] [] p q a b asks kepts = refl
  same pre [] (Ask l i ∷ ys) p q a b asks kepts = cc
  same pre [] (Put l i ∷ ys) p q a b asks kepts = absurd b
  same pre (Put k h ∷ xs) ys p q a b asks kepts = absurd a
  same pre (Ask k h ∷ xs) [] p q a b asks kepts = cc
  same pre (Ask k h ∷ xs) (Put l i ∷ ys) p q a b asks kepts = absurd b
  same pre (Ask k true ∷ xs) (Ask l true ∷ ys) p q a b asks kepts =
      let e = head_of k l _ _ asks in
      ap (λ m. Ask m true ∷ xs) e ∙ ap (λ zs. Ask l true ∷ zs) (same (pre ++ Ask l true ∷ []) xs ys (on pre (Ask l true) xs (subst (λ m. IsLegal c (pre ++ Ask m true ∷ xs)) e p)) (on pre (Ask l true) ys q) a b (tail_of k l _ _ asks) kepts)
  same pre (Ask k true ∷ xs) (Ask l false ∷ ys) p q a b asks kepts = let e = hits pre k l true false xs ys p q (head_of k l _ _ asks) in cc
  same pre (Ask k false ∷ xs) (Ask l true ∷ ys) p q a b asks kepts = let e = hits pre k l false true xs ys p q (head_of k l _ _ asks) in cc
  same pre (Ask k false ∷ []) (Ask l false ∷ []) p q a b asks kepts = ap (λ m. Ask m false ∷ []) (head_of k l _ _ asks)
  same pre (Ask k false ∷ []) (Ask l false ∷ Ask n i ∷ ys) p q a b asks kepts = absurd b
  same pre (Ask k false ∷ []) (Ask l false ∷ Put n i ∷ ys) p q a b asks kepts = cc
  same pre (Ask k false ∷ Ask m h ∷ xs) (Ask l false ∷ ys) p q a b asks kepts = absurd a
  same pre (Ask k false ∷ Put m h ∷ xs) (Ask l false ∷ []) p q a b asks kepts = cc
  same pre (Ask k false ∷ Put m h ∷ xs) (Ask l false ∷ Ask n i ∷ ys) p q a b asks kepts = absurd b
  same pre (Ask k false ∷ Put m h ∷ xs) (Ask l false ∷ Put n i ∷ ys) p q a b asks kepts =
      let e = head_of k l _ _ asks in
      let f : m ≡ n = a.0 ∙ e ∙ sym b.0 in
      let g = head_of h i _ _ kepts in
      let p' : IsLegal c (pre ++ Ask l false ∷ Put n i ∷ xs) = subst (λ o. IsLegal c (pre ++ Ask l false ∷ Put n o ∷ xs)) g (subst (λ o. IsLegal c (pre ++ Ask l false ∷ Put o h ∷ xs)) f (subst (λ o. IsLegal c (pre ++ Ask o false ∷ Put m h ∷ xs)) e p)) in
      let two = (pre ++ Ask l false ∷ []) ++ Put n i ∷ [] in
      ap (λ o. Ask o false ∷ Put m h ∷ xs) e ∙ ap (λ o. Ask l false ∷ Put o h ∷ xs) f ∙ ap (λ o. Ask l false ∷ Put n o ∷ xs) g
      ∙ ap (λ zs. Ask l false ∷ Put n i ∷ zs) (same two xs ys
      (on (pre ++ Ask l false ∷ []) (Put n i) xs (on pre (Ask l false) (Put n i ∷ xs) p'))
      (on (pre ++ Ask l false ∷ []) (Put n i) ys (on pre (Ask l false) (Put n i ∷ ys) q))
      a.1 b.1 (tail_of k l _ _ asks) (tail_of h i _ _ kepts))

  pub determined : (steps : List ShareStep) → IsLegal c steps → IsPaired (Unit {0}) steps → IsDetermined c steps
  determined steps legal paired = record { one = λ other l p asks kepts. same [] other steps l legal p paired asks kepts }
