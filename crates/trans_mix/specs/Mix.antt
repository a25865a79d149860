-- A dissolve of d frames, at its frame k, between the codes a and b of one channel: this project's own rule.
-- * mix, wipe mask [Wipe, Laws]: `floor((a*(2d-2k-1) + b*(2k+1) + d) / (2d))`; eleven conditions on the pixel's centre. Laws: a
--   dissolve lies between its codes, goes to the new one, is the nearest code and back again the same; a pixel that a wipe shows
--   it keeps showing, each shape has a first pixel and a last one, its first frame shows nothing and its last all if it is long
--   enough for a stated table, and shapes agree if turned or flipped
--
-- The frame's centre lies (2k + 1) / (2d) of the way through, so the new side has that weight and the
-- old side the rest. The sum is rounded to the nearest whole code, a half upward.
use Rattle.std.specs.Prelude.{ℕ, ◌+◌, ◌-◌, ◌*◌, ◌/◌}

abbrev pub mixed_code : (a b k d : ℕ) → ℕ
mixed_code a b k d = (a * (2 * d - 2 * k - 1) + b * (2 * k + 1) + d) / (2 * d)
