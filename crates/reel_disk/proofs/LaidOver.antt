-- A list with other numbers laid over it.
use Rattle.std.proofs.Common.{◌≡◌, ◌⊎◌, inl, inr, ℕ, zero, suc, ◌+◌, ◌-◌, ◌<◌, ◌≤◌, get_or, List, [], ◌∷◌, ◌++◌, length, take, drop, refl, sym, ◌∙◌, ap, arith, length-take, length-drop}
use Rattle.std.specs.Prelude.{Option, Some, None, slice_get}
use Rattle.std.proofs.lemmas.List.{take-append-drop, drop-drop, append_assoc}
use Rattle.reel_disk.specs.Disk.{overwritten}
use Rattle.reel_disk.specs.Memory.{laid_over, put_back}
use Rattle.reel_disk.specs.inside.Memory.{byte_of}

-- over a list behind a first part
laid_over-behind : (a b c : List ℕ) → laid_over (a ++ b) (length a) c ≡ a ++ laid_over b 0 c
laid_over-behind [] b c = refl
laid_over-behind (x ∷ a) b c = ap (λ (l : List ℕ). x ∷ l) (laid_over-behind a b c)

-- over a first part of the same length
laid_over-first : (b c d : List ℕ) → length b ≡ length c → laid_over (b ++ d) 0 c ≡ c ++ d
laid_over-first [] [] [] same = refl
laid_over-first [] [] (x ∷ d) same = refl
laid_over-first [] (y ∷ c) d same = absurd (omega arith)
laid_over-first (x ∷ b) [] d same = absurd (omega arith)
laid_over-first (x ∷ b) (y ∷ c) d same = ap (λ (l : List ℕ). y ∷ l) (laid_over-first b c d (omega (arith, same)))

-- What was overwritten, laid over again, gives the list back.
pub laid_back : (old : List ℕ) (start : ℕ) (bytes : List ℕ) → start + length bytes ≤ length old → laid_over (overwritten old start bytes) start (take (length bytes) (drop start old)) ≡ old
laid_back old start bytes fits =
    let before : start ≡ length (take start old) = omega (arith, length-take start old, fits) in
    let long : length bytes ≡ length (take (length bytes) (drop start old)) = omega (arith, length-take (length bytes) (drop start old), length-drop start old, fits) in
    ap (λ (l : List ℕ). laid_over l start part) (append_assoc (take start old) bytes after)
    ∙ ap (λ n. laid_over (take start old ++ (bytes ++ after)) n part) before
    ∙ laid_over-behind (take start old) (bytes ++ after) part
    ∙ ap (λ (l : List ℕ). take start old ++ l) (laid_over-first bytes part after long)
    ∙ ap (λ (l : List ℕ). take start old ++ (part ++ l)) (sym (drop-drop (length bytes) start old))
    ∙ ap (λ (l : List ℕ). take start old ++ l) (take-append-drop (length bytes) (drop start old))
    ∙ take-append-drop start old
  where
    part : List ℕ
    part = take (length bytes) (drop start old)

    after : List ℕ
    after = drop (start + length bytes) old

laid_outside : (xs : List ℕ) (start : ℕ) (ys : List ℕ) (k : ℕ) → (k < start) ⊎ (start + length ys ≤ k) → slice_get (laid_over xs start ys) k ≡ slice_get xs k
laid_outside [] start ys k out = refl
laid_outside (x ∷ xs) zero [] k out = refl
laid_outside (x ∷ xs) zero (y ∷ ys) zero out = absurd (elim out [ inl before ↦ omega (arith, before) | inr after ↦ omega (arith, after) ])
laid_outside (x ∷ xs) zero (y ∷ ys) (suc k) out = laid_outside xs zero ys k (elim out [ inl before ↦ absurd (omega (arith, before)) | inr after ↦ inr (omega (arith, after)) ])
laid_outside (x ∷ xs) (suc start) ys zero out = refl
laid_outside (x ∷ xs) (suc start) ys (suc k) out = laid_outside xs start ys k (elim out [ inl before ↦ inl (omega (arith, before)) | inr after ↦ inr (omega (arith, after)) ])

laid_inside : (xs : List ℕ) (start : ℕ) (ys : List ℕ) (k x : ℕ) → start ≤ k → k < start + length ys → Some x ≡ slice_get xs k → Some (get_or ys (k - start) 0) ≡ slice_get (laid_over xs start ys) k
laid_inside [] start ys k x from below there = cc
laid_inside (x ∷ xs) zero [] k b from below there = absurd (omega (arith, below))
laid_inside (x ∷ xs) zero (y ∷ ys) zero b from below there = refl
laid_inside (x ∷ xs) zero (y ∷ ys) (suc k) b from below there = ap (λ n. Some (get_or (y ∷ ys) n 0)) (let e : suc k - 0 ≡ suc (k - 0) = omega arith in e) ∙ laid_inside xs zero ys k b (omega arith) (omega (arith, below)) there
laid_inside (x ∷ xs) (suc start) ys zero b from below there = absurd (omega (arith, from))
laid_inside (x ∷ xs) (suc start) ys (suc k) b from below there = ap (λ n. Some (get_or ys n 0)) (let e : suc k - suc start ≡ k - start = omega arith in e) ∙ laid_inside xs start ys k b (omega (arith, from)) (omega (arith, below)) there

-- a byte that isn't there isn't there before
pub under_absent : (content : Option (List ℕ)) (start : ℕ) (ys : List ℕ) (k : ℕ) → None ≡ byte_of content k → None ≡ byte_of (put_back content start ys) k
under_absent None start ys k is = refl
under_absent (Some xs) start ys k is = sym (past xs start ys k (sym is))
  where
    past : (xs : List ℕ) (start : ℕ) (ys : List ℕ) (k : ℕ) → slice_get xs k ≡ None → slice_get (laid_over xs start ys) k ≡ None
    past [] start ys k is = refl
    past (x ∷ xs) zero [] k is = is
    past (x ∷ xs) zero (y ∷ ys) zero is = cc
    past (x ∷ xs) zero (y ∷ ys) (suc k) is = past xs zero ys k is
    past (x ∷ xs) (suc start) ys zero is = is
    past (x ∷ xs) (suc start) ys (suc k) is = past xs start ys k is

pub under_outside : (byte : Option ℕ) (content : Option (List ℕ)) (start : ℕ) (ys : List ℕ) (k : ℕ) → (k < start) ⊎ (start + length ys ≤ k) → byte ≡ byte_of content k → byte ≡ byte_of (put_back content start ys) k
under_outside byte None start ys k out is = is
under_outside byte (Some xs) start ys k out is = is ∙ sym (laid_outside xs start ys k out)

pub under_inside : (b : ℕ) (content : Option (List ℕ)) (start : ℕ) (ys : List ℕ) (k : ℕ) → Some b ≡ byte_of content k → start ≤ k → k < start + length ys → Some (get_or ys (k - start) 0) ≡ byte_of (put_back content start ys) k
under_inside b None start ys k is from below = cc
under_inside b (Some xs) start ys k is from below = laid_inside xs start ys k b from below is
