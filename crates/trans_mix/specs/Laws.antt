-- What the definitions come to.
--     LiesBetween, GoesToNew, IsSameBack, IsNearest, KeepsNegatives      of a dissolve
--     KeepsShowing, BeginsAndEnds, BeginsEmpty, EndsFull, ReachesAll, Turns, Flips      of a wipe; a pixel shows where it is incoming
use Rattle.std.specs.Prelude.{◌≡◌, ◌↔◌, ℕ, ◌+◌, ◌-◌, ◌*◌, ◌/◌, ◌%◌, ◌<◌, ◌≤◌, Bool, true, false, nat_lt, ◌&&◌, ◌==◌, IsTrue}
use Rattle.std.specs.Prelude.{List, [], ◌∷◌, unwrap_or, IfSome}
use Rattle.std.specs.Map.{lookup}
use Rattle.cf_base.specs.Events.{is_known_wipe}
use Rattle.trans_mix.specs.Mix.{mixed_code}
use Rattle.trans_mix.specs.Wipe.{is_incoming}

-- the centre of frame k of d lies no later on the way than that of frame m of e
abbrev pub IsNoLater : (k d m e : ℕ) → Type 0
IsNoLater k d m e = (2 * k + 1) * e ≤ (2 * m + 1) * d

-- Dissolves

-- each way between two codes, a dissolve lies between them
abbrev pub LiesBetween : Type 0
LiesBetween = (a b k d : ℕ) → k < d → a ≤ b
    → (a ≤ mixed_code a b k d) × (mixed_code a b k d ≤ b) × (a ≤ mixed_code b a k d) × (mixed_code b a k d ≤ b)

-- the later, the nearer to the new code, in a dissolve of any length: upward it rises, and downward it falls
abbrev pub GoesToNew : Type 0
GoesToNew = (a b k d m e : ℕ) → k < d → m < e → IsNoLater k d m e → a ≤ b
    → (mixed_code a b k d ≤ mixed_code a b m e) × (mixed_code b a m e ≤ mixed_code b a k d)

-- back from the new code to the old it has the same codes, in the other order
abbrev pub IsSameBack : Type 0
IsSameBack = (a b k d : ℕ) → k < d → mixed_code a b k d ≡ mixed_code b a (d - 1 - k) d

-- what lies exactly at the frame's centre, times 2d
abbrev pub exact_sum : (a b k d : ℕ) → ℕ
exact_sum a b k d = a * (2 * d - (2 * k + 1)) + b * (2 * k + 1)

-- the code is the nearest whole one, and the upper one of two
abbrev pub IsNearest : Type 0
IsNearest = (a b k d : ℕ) → k < d
    → (exact_sum a b k d < 2 * d * mixed_code a b k d + d) × (2 * d * mixed_code a b k d ≤ exact_sum a b k d + d)

-- the exact value lies halfway between two codes
abbrev pub IsHalfway : (a b k d : ℕ) → Type 0
IsHalfway a b k d = 2 * d * mixed_code a b k d ≡ exact_sum a b k d + d

-- the negatives of two codes give the negative of their code; at halfway one more, because each is then the upper code
abbrev pub KeepsNegatives : Type 0
KeepsNegatives = (a b k d : ℕ) → a ≤ 1023 → b ≤ 1023 → k < d
    → (IsHalfway a b k d → mixed_code a b k d + mixed_code (1023 - a) (1023 - b) k d ≡ 1024)
    × ((IsHalfway a b k d → ⊥) → mixed_code a b k d + mixed_code (1023 - a) (1023 - b) k d ≡ 1023)

-- Wipes

-- a pixel that shows does so at all later times, in a wipe of any length
abbrev pub KeepsShowing : Type 0
KeepsShowing = (code x y w h k d m e : ℕ) → IsNoLater k d m e
    → is_incoming code x y w h k d ≡ true → is_incoming code x y w h m e ≡ true

-- no pixel of the picture shows, or all do
abbrev pub ShowsNone : (code w h k d : ℕ) → Type 0
ShowsNone code w h k d = (x y : ℕ) → x < w → y < h → is_incoming code x y w h k d ≡ false

abbrev pub ShowsAll : (code w h k d : ℕ) → Type 0
ShowsAll code w h k d = (x y : ℕ) → x < w → y < h → is_incoming code x y w h k d ≡ true

-- each code with the pixel where it begins and the one where it ends, as column and line
abbrev pub wipe_ways : (w h : ℕ) → List (ℕ × ((ℕ × ℕ) × (ℕ × ℕ)))
wipe_ways w h =
    let top_left : ℕ × ℕ = (0, 0) in
    let top_right : ℕ × ℕ = (w - 1, 0) in
    let bottom_left : ℕ × ℕ = (0, h - 1) in
    let bottom_right : ℕ × ℕ = (w - 1, h - 1) in
    let middle : ℕ × ℕ = (w / 2, h / 2) in
    (1, (top_left, top_right))
    ∷ (2, (top_left, bottom_left))
    ∷ (3, (top_left, bottom_right))
    ∷ (4, (top_right, bottom_left))
    ∷ (5, (bottom_right, top_left))
    ∷ (6, (bottom_left, top_right))
    ∷ (21, (middle, top_left))
    ∷ (22, (middle, top_left))
    ∷ (41, (top_left, bottom_right))
    ∷ (101, (middle, top_left))
    ∷ (102, (middle, top_left))
    ∷ []

abbrev pub way_of : (code w h : ℕ) → (ℕ × ℕ) × (ℕ × ℕ)
way_of code w h = unwrap_or (lookup (λ c. code == c) (wipe_ways w h)) ((0, 0), (0, 0))

abbrev pub shows_at : (code : ℕ) → ℕ × ℕ → (w h k d : ℕ) → Bool
shows_at code place w h k d = is_incoming code place.0 place.1 w h k d

-- if the first one doesn't show, none does, and if the last one shows, all do
abbrev pub BeginsAndEnds : Type 0
BeginsAndEnds = (code w h k d : ℕ)
    → (shows_at code (way_of code w h).0 w h k d ≡ false → ShowsNone code w h k d)
    × (shows_at code (way_of code w h).1 w h k d ≡ true → ShowsAll code w h k d)

-- how far the centre nearest to the middle of n pixels lies from it, in halves of a pixel
abbrev pub off_middle : ℕ → ℕ
off_middle n = 1 - n % 2

-- Each code with when the first of d frames shows a pixel: the picture has more columns, or lines, than there are frames.
-- From the middle it has more than twice as many, or one of them lies just there. The diagonal and the diamond count both together.
abbrev pub early_wipes : (w h d : ℕ) → List (ℕ × Bool)
early_wipes w h d =
    let columns = nat_lt d w in
    let lines = nat_lt d h in
    let middle_columns = nat_lt (2 * d * off_middle w) w in
    let middle_lines = nat_lt (2 * d * off_middle h) h in
    (1, columns)
    ∷ (2, lines)
    ∷ (3, columns && lines)
    ∷ (4, columns && lines)
    ∷ (5, columns && lines)
    ∷ (6, columns && lines)
    ∷ (21, middle_columns)
    ∷ (22, middle_lines)
    ∷ (41, nat_lt (d * (w + h)) (2 * w * h))
    ∷ (101, middle_columns && middle_lines)
    ∷ (102, nat_lt (d * (off_middle w * h + off_middle h * w)) (w * h))
    ∷ []

-- Each code with when the last of d frames shows all: the picture has fewer columns, or lines, than there are frames.
-- From the middle it has fewer than twice as many. The diagonal and the diamond count both together.
abbrev pub full_wipes : (w h d : ℕ) → List (ℕ × Bool)
full_wipes w h d =
    let columns = nat_lt w d in
    let lines = nat_lt h d in
    let columns_of_half = nat_lt w (2 * d) in
    let lines_of_half = nat_lt h (2 * d) in
    (1, columns)
    ∷ (2, lines)
    ∷ (3, columns && lines)
    ∷ (4, columns && lines)
    ∷ (5, columns && lines)
    ∷ (6, columns && lines)
    ∷ (21, columns_of_half)
    ∷ (22, lines_of_half)
    ∷ (41, nat_lt (2 * w * h) (d * (w + h)))
    ∷ (101, columns_of_half && lines_of_half)
    ∷ (102, nat_lt (w * h) (d * (w + h)))
    ∷ []

abbrev pub is_marked : (code : ℕ) → List (ℕ × Bool) → Bool
is_marked code table = unwrap_or (lookup (λ c. code == c) table) false

-- the first frame shows a pixel in just those wipes
abbrev pub BeginsEmpty : Type 0
BeginsEmpty = (code w h d : ℕ) → 0 < w → 0 < h → ShowsNone code w h 0 d ↔ (is_marked code (early_wipes w h d) ≡ false)

-- the last frame, k of k + 1, shows all in just those wipes
abbrev pub EndsFull : Type 0
EndsFull = (code w h k : ℕ) → 0 < w → 0 < h → ShowsAll code w h k (k + 1) ↔ (is_marked code (full_wipes w h (k + 1)) ≡ true)

-- so each shape reaches all pixels: a wipe of more frames than columns and than lines shows them all in its last
abbrev pub ReachesAll : Type 0
ReachesAll = (code w h k : ℕ) → IsTrue (is_known_wipe code) → w ≤ k → h ≤ k → ShowsAll code w h k (k + 1)

-- each code with that of the same shape where columns and lines are exchanged
abbrev pub turned_wipes : List (ℕ × ℕ)
turned_wipes = (1, 2) ∷ (2, 1) ∷ (3, 3) ∷ (4, 6) ∷ (5, 5) ∷ (6, 4) ∷ (21, 22) ∷ (22, 21) ∷ (41, 41) ∷ (101, 101) ∷ (102, 102) ∷ []

abbrev pub Turns : Type 0
Turns = (code x y w h k d : ℕ) → IfSome (lookup (λ c. code == c) turned_wipes)
    (λ other. is_incoming code x y w h k d ≡ is_incoming other y x h w k d)

-- each code with that of the same shape where left and right are exchanged, if one has it
abbrev pub flipped_wipes : List (ℕ × ℕ)
flipped_wipes = (2, 2) ∷ (3, 4) ∷ (4, 3) ∷ (5, 6) ∷ (6, 5) ∷ (21, 21) ∷ (22, 22) ∷ (101, 101) ∷ (102, 102) ∷ []

abbrev pub Flips : Type 0
Flips = (code x y w h k d : ℕ) → x < w → IfSome (lookup (λ c. code == c) flipped_wipes)
    (λ other. is_incoming code x y w h k d ≡ is_incoming other (w - 1 - x) y w h k d)
