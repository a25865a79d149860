-- Worked examples of parts, each by computing the definition.
use Rattle.std.proofs.Common.{◌≡◌, [], ◌∷◌, map, refl}
use Rattle.frame_range.specs.Parts.{part_range}

-- three parts of ten frames
three_of_ten : map (λ k. part_range k 3 10) (1 ∷ 2 ∷ 3 ∷ []) ≡ record { low = 0; high = 3 } ∷ record { low = 3; high = 6 } ∷ record { low = 6; high = 10 } ∷ []
three_of_ten = refl

-- more parts than frames: some are empty
four_of_two : map (λ k. part_range k 4 2) (1 ∷ 2 ∷ 3 ∷ 4 ∷ []) ≡ record { low = 0; high = 0 } ∷ record { low = 0; high = 1 } ∷ record { low = 1; high = 1 } ∷ record { low = 1; high = 2 } ∷ []
four_of_two = refl

longest : part_range 999 999 262144 ≡ record { low = 261881; high = 262144 }
longest = refl
