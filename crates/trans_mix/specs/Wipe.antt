-- Which pixels of a wipe's frame show the incoming side. Of CMX 3600 this takes the three digits of a wipe alone; which
-- code has which shape is this project's own choice. Which codes are known is said in cf_base's Events, and
-- `HaveShapes` says that they are those of this table.
--
-- The picture has w columns and h lines, the wipe has d frames, and this is its frame k. All places
-- are those of centres: the pixel's is 2x + 1 of 2w and 2y + 1 of 2h, in halves of a pixel, and the
-- frame's is 2k + 1 of 2d, in halves of a frame. A shape has passed what lies at a distance from its
-- start, out of the reach of its whole way, where the share of the way is below the share of the time.
use Rattle.std.specs.Prelude.{◌≡◌, ℕ, ◌+◌, ◌-◌, ◌*◌, Bool, false, List, [], ◌∷◌, nat_lt, ◌&&◌, ◌==◌, is_some, unwrap_or}
use Rattle.std.specs.Int.{abs_diff}
use Rattle.std.specs.Map.{lookup}
use Rattle.cf_base.specs.Events.{is_known_wipe}

-- the shape has passed that distance of its reach
abbrev pub has_passed : (k d distance reach : ℕ) → Bool
has_passed k d distance reach = nat_lt (distance * d) ((2 * k + 1) * reach)

-- each code with its condition
abbrev pub wipe_shapes : (x y w h k d : ℕ) → List (ℕ × Bool)
wipe_shapes x y w h k d =
    let left = has_passed k d (2 * x + 1) w in
    let top = has_passed k d (2 * y + 1) h in
    let right = has_passed k d (2 * w - (2 * x + 1)) w in
    let bottom = has_passed k d (2 * h - (2 * y + 1)) h in
    let across = abs_diff (2 * x + 1) w in
    let along = abs_diff (2 * y + 1) h in
    (1, left)
    ∷ (2, top)
    ∷ (3, left && top)
    ∷ (4, right && top)
    ∷ (5, right && bottom)
    ∷ (6, left && bottom)
    ∷ (21, has_passed k d (across * 2) w)
    ∷ (22, has_passed k d (along * 2) h)
    ∷ (41, has_passed k d ((2 * x + 1) * h + (2 * y + 1) * w) (2 * w * h))
    ∷ (101, has_passed k d (across * 2) w && has_passed k d (along * 2) h)
    ∷ (102, has_passed k d (across * h + along * w) (w * h))
    ∷ []

-- the known codes are those of the table
abbrev pub HaveShapes : (code : ℕ) → Type 0
HaveShapes code = (x y w h k d : ℕ) → is_some (lookup (λ c. code == c) (wipe_shapes x y w h k d)) ≡ is_known_wipe code

-- whether the pixel at column x and line y shows the incoming side
abbrev pub is_incoming : (code x y w h k d : ℕ) → Bool
is_incoming code x y w h k d = unwrap_or (lookup (λ c. code == c) (wipe_shapes x y w h k d)) false
