-- The three lines from their pieces.
use Rattle.std.proofs.Common.{◌≡◌, ℕ, List, [], ◌∷◌, ◌++◌, codes, refl}
use Rattle.std.specs.Prelude.{decimal}
use Rattle.std.proofs.lemmas.List.{append_assoc}
use Rattle.hex.specs.Hex.{encode_lower}
use Rattle.demo.specs.Demo.{demo_text}

-- Each piece is a variable here, so that the two sides differ in nothing but how they are joined.
text_pieces : (a n b m c d e : List ℕ) → a ++ n ++ (e ++ b) ++ m ++ (e ++ c) ++ d ++ e ≡ ((a ++ n) ++ e) ++ ((b ++ m) ++ e) ++ ((c ++ d) ++ e)
text_pieces a n b m c d e = simp append_assoc refl

pub text_joined : (frames acknowledged : ℕ) (digest : List ℕ)
    → codes "frames " ++ decimal frames ++ codes "\nacknowledged " ++ decimal acknowledged ++ codes "\ndigest " ++ encode_lower digest ++ codes "\n" ≡ demo_text frames acknowledged digest
unfolding demo_text
text_joined frames acknowledged digest =
    text_pieces (codes "frames ") (decimal frames) (codes "acknowledged ") (decimal acknowledged) (codes "digest ") (encode_lower digest) (10 ∷ [])
