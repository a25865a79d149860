-- A file that is read piece by piece.
use Rattle.std.proofs.Common.{◌≡◌, ℕ, ◌+◌, ◌-◌, ◌≤◌, min, List, ◌++◌, length, take, drop, sym, ap, ◌∙◌, subst, arith}
use Rattle.std.specs.Prelude.{Option, Some}
use Rattle.std.proofs.lemmas.List.{take-append-drop, take-take, drop-take}
use Rattle.reel_disk.specs.declared.disk.Got.TheVariants.{Bytes}
use Rattle.reel_disk.specs.Disk.{HasRead}
use Rattle.resume_ledger.proofs.Bodies.{some_same}

take_more : (at n : ℕ) (l : List ℕ) → take at l ++ take n (drop at l) ≡ take (at + n) l
take_more at n l =
    let whole = take (at + n) l in
    sym (sym (take-append-drop at whole) ∙ (λ t. take-take at (at + n) l (omega arith) t ++ drop-take at n l t))

-- the piece goes on where the ones before it ended
pub piece_more : (content : Option (List ℕ)) (at n : ℕ) (into bytes : List ℕ) → content ≡ Some bytes → at ≤ length bytes → HasRead content at into (Bytes n)
    → (at + n ≤ length bytes) × (take at bytes ++ take n into ≡ take (at + n) bytes)
piece_more content at n into bytes is le read =
    let same : read.0 ≡ bytes = some_same (sym read.1 ∙ is) in
    let most : n ≡ min (length into) (length bytes - at) = subst (λ (l : List ℕ). n ≡ min (length into) (length l - at)) same read.2 in
    let piece : take n into ≡ take n (drop at bytes) = subst (λ (l : List ℕ). take n into ≡ take n (drop at l)) same read.3 in
    (omega (arith, most, le), ap (λ l. take at bytes ++ l) piece ∙ take_more at n bytes)
