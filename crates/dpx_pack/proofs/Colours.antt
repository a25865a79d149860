-- The codes of a colour come back from its word.
use Rattle.std.proofs.Common.{◌≡◌, ℕ, ◌/◌, ◌%◌, ◌^◌, ◌≤◌, [], ◌∷◌, refl, arith}
use Rattle.dpx_pack.specs.Pixels.{colour_word, pixel_word, word_codes}

pub word_codes-colour_word : (r g b : ℕ) → g ≤ 1023 → b ≤ 1023 → word_codes (colour_word (r ∷ g ∷ b ∷ [])) ≡ r ∷ g ∷ b ∷ []
word_codes-colour_word r g b small_g small_b =
    let red : pixel_word r g b / 2 ^ 22 ≡ r = omega arith in
    let green : pixel_word r g b / 2 ^ 12 % 2 ^ 10 ≡ g = omega arith in
    let blue : pixel_word r g b / 2 ^ 2 % 2 ^ 10 ≡ b = omega arith in
    rw (red, green, blue) refl
