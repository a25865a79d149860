-- Worked examples of dissolves and wipes, each by computing the definition.
use Rattle.std.proofs.Common.{◌≡◌, refl, ℕ, Bool, true, false, List, [], ◌∷◌, map}
use Rattle.std.specs.List.{range_with_len, flat_map}
use Rattle.trans_mix.specs.Mix.{mixed_code}
use Rattle.cf_base.specs.Events.{is_known_wipe}
use Rattle.trans_mix.specs.Wipe.{is_incoming}
use Rattle.trans_mix.specs.Laws.{IsHalfway, way_of, is_marked, early_wipes, full_wipes}

-- the mask of a whole frame, line by line
abbrev mask : (code w h k d : ℕ) → List Bool
mask code w h k d = flat_map (λ y. map (λ x. is_incoming code x y w h k d) (range_with_len 0 w)) (range_with_len 0 h)

-- four frames from 100 to 200
dissolve_of_four : map (λ k. mixed_code 100 200 k 4) (range_with_len 0 4) ≡ 113 ∷ 138 ∷ 163 ∷ 188 ∷ []
dissolve_of_four = refl

-- and back: each frame is between the two, nearer to the new one than the last, and the codes are the same
back_in_four : map (λ k. mixed_code 200 100 k 4) (range_with_len 0 4) ≡ 188 ∷ 163 ∷ 138 ∷ 113 ∷ []
back_in_four = refl

-- the middle frame of three is as late as the only one of one
middle_of_three : map (λ k. mixed_code 100 200 k 3) (range_with_len 0 3) ≡ 117 ∷ mixed_code 100 200 0 1 ∷ 183 ∷ []
middle_of_three = refl

-- three quarters of a code and nine quarters, each to the nearest
quarters : map (λ k. mixed_code 0 3 k 2) (range_with_len 0 2) ≡ 1 ∷ 2 ∷ []
quarters = refl

-- the negatives of those: 1 and 1022, 2 and 1021
negatives_of_quarters : map (λ k. mixed_code 1023 1020 k 2) (range_with_len 0 2) ≡ 1022 ∷ 1021 ∷ []
negatives_of_quarters = refl

-- halfway between 100 and 101 is 101, and between their negatives 923 and 922 it is 923
halfway : IsHalfway 100 101 0 1
halfway = refl

halfway_codes : mixed_code 100 101 0 1 ∷ mixed_code 923 922 0 1 ∷ [] ≡ 101 ∷ 923 ∷ []
halfway_codes = refl

-- code 001 over four columns in two frames: one column, then three
from_the_left_first : mask 1 4 1 0 2 ≡ true ∷ false ∷ false ∷ false ∷ []
from_the_left_first = refl

from_the_left_second : mask 1 4 1 1 2 ≡ true ∷ true ∷ true ∷ false ∷ []
from_the_left_second = refl

-- as late in three frames as in one
from_the_middle : mask 21 4 1 0 1 ≡ false ∷ true ∷ true ∷ false ∷ []
from_the_middle = refl

from_the_middle_later : mask 21 4 1 1 3 ≡ mask 21 4 1 0 1
from_the_middle_later = refl

-- code 004 at 3 by 2 goes from the top right to the bottom left, which shows last
way_from_top_right : way_of 4 3 2 ≡ ((2, 0), (0, 1))
way_from_top_right = refl

from_top_right : mask 4 3 2 0 1 ≡ false ∷ false ∷ true ∷ false ∷ false ∷ false ∷ []
from_top_right = refl

from_top_right_later : mask 4 3 2 2 3 ≡ false ∷ true ∷ true ∷ false ∷ true ∷ true ∷ []
from_top_right_later = refl

-- so in four frames it ends full, and in three it doesn't
full_in_four : is_marked 4 (full_wipes 3 2 4) ∷ is_marked 4 (full_wipes 3 2 3) ∷ [] ≡ true ∷ false ∷ []
full_in_four = refl

last_of_four : mask 4 3 2 3 4 ≡ map (λ _. true) (range_with_len 0 6)
last_of_four = refl

-- the same with columns and lines exchanged is code 006, and with left and right exchanged code 003
from_bottom_left : mask 6 2 3 0 1 ≡ false ∷ false ∷ false ∷ false ∷ true ∷ false ∷ []
from_bottom_left = refl

from_top_left : mask 3 3 2 2 3 ≡ true ∷ true ∷ false ∷ true ∷ true ∷ false ∷ []
from_top_left = refl

-- code 002 over four lines in two frames is code 001 over four columns
from_the_top : mask 2 1 4 0 2 ≡ mask 1 4 1 0 2
from_the_top = refl

-- code 021: of three columns the middle one shows at once, however many frames there are; of four none does, if there are two
middle_column : mask 21 3 1 0 9 ≡ false ∷ true ∷ false ∷ []
middle_column = refl

no_middle_column : mask 21 4 1 0 2 ≡ map (λ _. false) (range_with_len 0 4)
no_middle_column = refl

early_middles : is_marked 21 (early_wipes 3 1 9) ∷ is_marked 21 (early_wipes 4 1 2) ∷ [] ≡ true ∷ false ∷ []
early_middles = refl

-- code 102 at 2 by 2 in one frame: each pixel has 4 on the left, which isn't below 4
diamond : mask 102 2 2 0 1 ≡ false ∷ false ∷ false ∷ false ∷ []
diamond = refl

-- in two frames it ends full
diamond_in_two : mask 102 2 2 1 2 ≡ map (λ _. true) (range_with_len 0 4)
diamond_in_two = refl

-- and of more frames than columns and than lines the last shows all
diamond_in_three : mask 102 2 2 2 3 ≡ map (λ _. true) (range_with_len 0 4)
diamond_in_three = refl

-- code 041 at 2 by 2 in two frames: the least left side is 8, against 8 and then 24
diagonal_first : mask 41 2 2 0 2 ≡ false ∷ false ∷ false ∷ false ∷ []
diagonal_first = refl

diagonal_second : mask 41 2 2 1 2 ≡ true ∷ true ∷ true ∷ false ∷ []
diagonal_second = refl

-- every code is known but these
unknown : map is_known_wipe (0 ∷ 7 ∷ 20 ∷ 23 ∷ 40 ∷ 42 ∷ 100 ∷ 103 ∷ 999 ∷ []) ≡ map (λ _. false) (range_with_len 0 9)
unknown = refl

known : map is_known_wipe (1 ∷ 2 ∷ 3 ∷ 4 ∷ 5 ∷ 6 ∷ 21 ∷ 22 ∷ 41 ∷ 101 ∷ 102 ∷ []) ≡ map (λ _. true) (range_with_len 0 11)
known = refl
