-- Source offsets under a speed, by the floor rule, which is this project's own.
-- * source offset: the floor of `j * speed / (100 * rate)`. Law: it is the floor
--     IsFloor z d q      q is z / d rounded toward minus infinity: z is from d*q to below d*q + d
--     floor_div z d      that number
--     source_offset_of rate speed j      how far the source has come after j record frames
use Rattle.std.specs.Prelude.{◌≡◌, ℕ, ℤ, pos, negsuc, ◌+ℤ◌, ◌*ℤ◌, ◌≤ℤ◌, ◌<ℤ◌, ◌*◌, ◌/◌, ◌<◌}
use Rattle.cf_base.specs.declared.timing.Rate.{Rate}
use Rattle.cf_base.specs.Timing.{base_of}

abbrev pub IsFloor : ℤ → ℕ → ℤ → Type 0
IsFloor z d q = ((pos d *ℤ q) ≤ℤ z) × (z <ℤ ((pos d *ℤ q) +ℤ pos d))

-- negsuc n is -(n + 1)
abbrev pub floor_div : ℤ → ℕ → ℤ
floor_div (pos n) d = pos (n / d)
floor_div (negsuc n) d = negsuc (n / d)

-- the speed is in hundredths of a frame per second, and a second has as many record frames as the counting base
abbrev pub source_offset_of : Rate → ℤ → ℕ → ℤ
source_offset_of rate speed j = floor_div (pos j *ℤ speed) (100 * base_of rate)

-- floor_div rounds toward minus infinity
abbrev pub RoundsDown : Type 0
RoundsDown = (z : ℤ) (d : ℕ) → 0 < d → IsFloor z d (floor_div z d)

-- and no other number does
abbrev pub OneFloor : Type 0
OneFloor = (z : ℤ) (d : ℕ) (q r : ℤ) → 0 < d → IsFloor z d q → IsFloor z d r → q ≡ r
