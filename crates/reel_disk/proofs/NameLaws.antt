-- No two files of a reel folder have one name.
use Rattle.std.proofs.Common.{◌≡◌, ℕ, zero, suc, ◌+◌, ◌*◌, ◌/◌, ◌%◌, ◌^◌, List, [], ◌∷◌, length, get_or, take, drop, refl, ap, arith}
use Rattle.std.specs.Prelude.{cond, ◌==◌}
use Rattle.std.proofs.Math.Nat.{div-div-eq-div-mul, pow-suc}
use Rattle.cf_base.specs.Digits.{digits, frame_file_name}
use Rattle.cf_base.specs.declared.file.FileId.{FileId}
use Rattle.cf_base.specs.declared.file.FileId.TheVariants.{Seal, Body, Seal2, Body2, Sheet, Frame}
use Rattle.reel_disk.specs.Names.{file_name}
use Rattle.reel_disk.specs.inside.Names.{HasName}

-- what is left of a number by one digit more
left : (n w : ℕ) → n / 10 ^ w / 10 ≡ n / 10 ^ suc w
left n w = rw (pow-suc) (div-div-eq-div-mul n (10 ^ w) 10)

-- numbers with the same digits, and the same left before them, are one
same_digits : (w n m : ℕ) → n / 10 ^ w ≡ m / 10 ^ w → digits w n ≡ digits w m → n ≡ m
same_digits zero n m before same = let e : n / 1 ≡ m / 1 = before in omega (arith, e)
same_digits (suc w) n m before same =
    let first : 48 + n / 10 ^ w % 10 ≡ 48 + m / 10 ^ w % 10 = ap (λ (l : List ℕ). get_or l 0 0) same in
    same_digits w n m (omega (arith, first, before, left n w, left m w)) (ap (λ (l : List ℕ). drop 1 l) same)

-- what tells the names of the other files apart
kind : List ℕ → ℕ
kind [] = 0
kind (c ∷ cs) = cond (c == 114) 0 (length cs * 256 + get_or cs 7 0)

-- Two files with one name are one file.
pub names_apart : (a b : FileId) → HasName a → HasName b → file_name a ≡ file_name b → a ≡ b
unfolding kind frame_file_name
names_apart Seal Seal x y same = refl
names_apart Body Body x y same = refl
names_apart Seal2 Seal2 x y same = refl
names_apart Body2 Body2 x y same = refl
names_apart Sheet Sheet x y same = refl
names_apart (Frame r f) (Frame s g) x y same =
    let reels : r ≡ s = same_digits 3 r s (omega (arith, x.0, y.0)) (ap (λ (l : List ℕ). take 3 (drop 1 l)) same) in
    let frames : f ≡ g = same_digits 7 f g (omega (arith, x.1, y.1)) (ap (λ (l : List ℕ). take 7 (drop 5 l)) same) in
    λ i. Frame (reels i) (frames i)
names_apart a b x y same = let e = ap kind same in absurd (omega (arith, e))
