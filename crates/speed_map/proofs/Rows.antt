-- Worked speeds, by computation.
use Rattle.std.proofs.Common.{◌≡◌, pos, negsuc, refl, [], ◌∷◌, map}
use Rattle.cf_base.specs.declared.timing.Rate.TheVariants.{R24}
use Rattle.speed_map.specs.Speeds.{source_offset_of}

half : map (source_offset_of R24 (pos 1200)) (0 ∷ 1 ∷ 2 ∷ 3 ∷ []) ≡ pos 0 ∷ pos 0 ∷ pos 1 ∷ pos 1 ∷ []
half = refl

back : map (source_offset_of R24 (negsuc 1199)) (0 ∷ 1 ∷ 2 ∷ 3 ∷ []) ≡ pos 0 ∷ negsuc 0 ∷ negsuc 0 ∷ negsuc 1 ∷ []
back = refl

still : map (source_offset_of R24 (pos 0)) (0 ∷ 1 ∷ 2 ∷ 3 ∷ []) ≡ pos 0 ∷ pos 0 ∷ pos 0 ∷ pos 0 ∷ []
still = refl
