-- A look's code is that of the mean of its corners, and what holds of each corner holds of their mean.
use Rattle.std.proofs.Common.{◌≡◌, ℕ, zero, suc, ◌+◌, ◌-◌, ◌*◌, ◌<◌, ◌≤◌, min, Bool, true, false, cond, List, [], ◌∷◌, take, map, slice_index, refl, ap, sym, ◌∙◌, arith, add-zero}
use Rattle.std.proofs.lemmas.Bool.Decides.{nat_tests}
use Rattle.tetra_look.specs.Look.{entry_after, path, code_of_sum, cell_at, part_at, value_at, line_code, cube_code}
use Rattle.tetra_look.specs.Laws.{step_over, sum_below, IsMeanOfCorners}
use Rattle.tetra_look.proofs.OrderLemmas.{by_orders}
use Rattle.tetra_look.proofs.CellLemmas.{part_at_most}

over : (h t : ℕ) → h < t → step_over h t ≡ 1
over h t lt = grind (arith, nat_tests)

under : (h t : ℕ) → t ≤ h → step_over h t ≡ 0
under h t le = grind (arith, nat_tests)

none : (f : ℕ → ℕ) → sum_below 0 f ≡ 0
unfolding sum_below
none f = refl

one_more : (n : ℕ) (f : ℕ → ℕ) → sum_below (suc n) f ≡ sum_below n f + f n
unfolding sum_below
one_more n f = refl

-- over a stretch on which f is v
stretch : (f : ℕ → ℕ) (a n v : ℕ) → ((h : ℕ) → a ≤ h → h < a + n → f h ≡ v) → sum_below (a + n) f ≡ sum_below a f + v * n
stretch f a zero v all = rw (add-zero a) (omega arith)
stretch f a (suc n) v all =
    let next : a + suc n ≡ suc (a + n) = omega arith in
    let before = stretch f a n v (λ h from to. all h from (omega (arith, to))) in
    let here = all (a + n) (omega arith) (omega arith) in
    rw (next, one_more) (omega (arith, before, here))

upto : (f : ℕ → ℕ) (a b v : ℕ) → a ≤ b → ((h : ℕ) → a ≤ h → h < b → f h ≡ v) → sum_below b f ≡ sum_below a f + v * (b - a)
upto f a b v le all =
    let end : a + (b - a) ≡ b = omega arith in
    ap (λ n. sum_below n f) (sym end) ∙ stretch f a (b - a) v (λ h from to. all h from (omega (arith, to)))

first : (f : ℕ → ℕ) (b v : ℕ) → ((h : ℕ) → h < b → f h ≡ v) → sum_below b f ≡ v * b
first f b v all =
    let whole : b - 0 ≡ b = omega arith in
    let e : sum_below b f ≡ sum_below 0 f + v * b = rw whole at (upto f 0 b v (omega arith) (λ h from to. all h to)) in
    let z = none f in
    omega (arith, e, z)

two : (f : ℕ → ℕ) (t : ℕ) → t ≤ 65536 → (v0 v1 : ℕ) → ((h : ℕ) → t ≤ h → f h ≡ v0) → ((h : ℕ) → h < t → f h ≡ v1)
    → sum_below 65536 f ≡ v0 * (65536 - t) + v1 * t
two f t most v0 v1 h0 h1 =
    let s1 = first f t v1 h1 in
    let s0 = upto f t 65536 v0 most (λ h from to. h0 h from) in
    omega (arith, s1, s0)

four : (f : ℕ → ℕ) (x y z : ℕ) → x ≤ 65536 → y ≤ x → z ≤ y → (v0 v1 v2 v3 : ℕ)
    → ((h : ℕ) → x ≤ h → f h ≡ v0) → ((h : ℕ) → y ≤ h → h < x → f h ≡ v1) → ((h : ℕ) → z ≤ h → h < y → f h ≡ v2) → ((h : ℕ) → h < z → f h ≡ v3)
    → sum_below 65536 f ≡ v0 * (65536 - x) + v1 * (x - y) + v2 * (y - z) + v3 * z
four f x y z most yx zy v0 v1 v2 v3 h0 h1 h2 h3 =
    let s3 = first f z v3 h3 in
    let s2 = upto f z y v2 zy h2 in
    let s1 = upto f y x v1 yx h1 in
    let s0 = upto f x 65536 v0 most (λ h from to. h0 h from) in
    omega (arith, s3, s2, s1, s0)

-- along a line
line_mean : (value : ℕ → ℕ) (i t : ℕ) → t ≤ 65536
    → value i * (65536 - t) + value (i + 1) * t ≡ sum_below 65536 (λ h. value (i + step_over h t))
line_mean value i t most =
    sym (two (λ h. value (i + step_over h t)) t most (value i) (value (i + 1))
    (λ h le. ap value (ap (λ n. i + n) (under h t le) ∙ add-zero i))
    (λ h lt. ap (λ n. value (i + n)) (over h t lt)))

-- the sum of a way over four entries
abbrev cube_sum : (value : ℕ → ℕ) (size : ℕ) (cells ts ps : List ℕ) → ℕ
cube_sum value size cells ts ps =
    let v : ℕ → ℕ = λ k. value (entry_after size cells (take k ps)) in
    let t : ℕ → ℕ = λ k. slice_index (map (λ a. slice_index ts a) ps) k in
    v 0 * (65536 - t 0) + v 1 * (t 0 - t 1) + v 2 * (t 1 - t 2) + v 3 * t 2

-- the entry so many steps from the cells
abbrev entry_at : (size i j k x y z : ℕ) → ℕ
entry_at size i j k x y z = (i + x) + size * ((j + y) + size * (k + z))

-- in a cube, over the six orders of the parts
module _ (value : ℕ → ℕ) (size i j k r g b : ℕ) (most_r : r ≤ 65536) (most_g : g ≤ 65536) (most_b : b ≤ 65536) where
  abbrev F : ℕ → ℕ
  F h = value (entry_at size i j k (step_over h r) (step_over h g) (step_over h b))

  cube_mean : cube_sum value size (i ∷ j ∷ k ∷ []) (r ∷ g ∷ b ∷ []) (path (r ∷ g ∷ b ∷ [])) ≡ sum_below 65536 F
  cube_mean =
      by_orders (λ ps. cube_sum value size (i ∷ j ∷ k ∷ []) (r ∷ g ∷ b ∷ []) ps ≡ sum_below 65536 F) r g b
      (λ rg gb. sym (four F r g b most_r (omega arith) (omega arith) _ _ _ _
      (λ h le. at 0 0 0 h (under _ _ (omega arith)) (under _ _ (omega arith)) (under _ _ (omega arith)))
      (λ h le lt. at 1 0 0 h (over _ _ (omega arith)) (under _ _ (omega arith)) (under _ _ (omega arith)))
      (λ h le lt. at 1 1 0 h (over _ _ (omega arith)) (over _ _ (omega arith)) (under _ _ (omega arith)))
      (λ h lt. at 1 1 1 h (over _ _ (omega arith)) (over _ _ (omega arith)) (over _ _ (omega arith)))))
      (λ rb gb. sym (four F r b g most_r (omega arith) (omega arith) _ _ _ _
      (λ h le. at 0 0 0 h (under _ _ (omega arith)) (under _ _ (omega arith)) (under _ _ (omega arith)))
      (λ h le lt. at 1 0 0 h (over _ _ (omega arith)) (under _ _ (omega arith)) (under _ _ (omega arith)))
      (λ h le lt. at 1 0 1 h (over _ _ (omega arith)) (under _ _ (omega arith)) (over _ _ (omega arith)))
      (λ h lt. at 1 1 1 h (over _ _ (omega arith)) (over _ _ (omega arith)) (over _ _ (omega arith)))))
      (λ rg rb. sym (four F b r g most_b (omega arith) (omega arith) _ _ _ _
      (λ h le. at 0 0 0 h (under _ _ (omega arith)) (under _ _ (omega arith)) (under _ _ (omega arith)))
      (λ h le lt. at 0 0 1 h (under _ _ (omega arith)) (under _ _ (omega arith)) (over _ _ (omega arith)))
      (λ h le lt. at 1 0 1 h (over _ _ (omega arith)) (under _ _ (omega arith)) (over _ _ (omega arith)))
      (λ h lt. at 1 1 1 h (over _ _ (omega arith)) (over _ _ (omega arith)) (over _ _ (omega arith)))))
      (λ rg rb. sym (four F g r b most_g (omega arith) (omega arith) _ _ _ _
      (λ h le. at 0 0 0 h (under _ _ (omega arith)) (under _ _ (omega arith)) (under _ _ (omega arith)))
      (λ h le lt. at 0 1 0 h (under _ _ (omega arith)) (over _ _ (omega arith)) (under _ _ (omega arith)))
      (λ h le lt. at 1 1 0 h (over _ _ (omega arith)) (over _ _ (omega arith)) (under _ _ (omega arith)))
      (λ h lt. at 1 1 1 h (over _ _ (omega arith)) (over _ _ (omega arith)) (over _ _ (omega arith)))))
      (λ rb gb. sym (four F g b r most_g (omega arith) (omega arith) _ _ _ _
      (λ h le. at 0 0 0 h (under _ _ (omega arith)) (under _ _ (omega arith)) (under _ _ (omega arith)))
      (λ h le lt. at 0 1 0 h (under _ _ (omega arith)) (over _ _ (omega arith)) (under _ _ (omega arith)))
      (λ h le lt. at 0 1 1 h (under _ _ (omega arith)) (over _ _ (omega arith)) (over _ _ (omega arith)))
      (λ h lt. at 1 1 1 h (over _ _ (omega arith)) (over _ _ (omega arith)) (over _ _ (omega arith)))))
      (λ rg gb. sym (four F b g r most_b (omega arith) (omega arith) _ _ _ _
      (λ h le. at 0 0 0 h (under _ _ (omega arith)) (under _ _ (omega arith)) (under _ _ (omega arith)))
      (λ h le lt. at 0 0 1 h (under _ _ (omega arith)) (under _ _ (omega arith)) (over _ _ (omega arith)))
      (λ h le lt. at 0 1 1 h (under _ _ (omega arith)) (over _ _ (omega arith)) (over _ _ (omega arith)))
      (λ h lt. at 1 1 1 h (over _ _ (omega arith)) (over _ _ (omega arith)) (over _ _ (omega arith)))))
    where
      at : (x y z h : ℕ) → step_over h r ≡ x → step_over h g ≡ y → step_over h b ≡ z → F h ≡ value (entry_at size i j k x y z)
      at x y z h ex ey ez = rw (ex, ey, ez) refl

pub is_mean : IsMeanOfCorners
is_mean l colour c = by l.is_3d
  where
    by : (three : Bool) → cond three (cube_code l colour c) (line_code l colour c) ≡ code_of_sum (sum_below 65536 (λ h. value_at l
        (cond three
        (entry_at l.size (cell_at l colour 0) (cell_at l colour 1) (cell_at l colour 2)
        (step_over h (part_at l colour 0)) (step_over h (part_at l colour 1)) (step_over h (part_at l colour 2)))
        (cell_at l colour c + step_over h (part_at l colour c))) c))
    by true =
        ap code_of_sum
        (cube_mean (λ n. value_at l n c) l.size (cell_at l colour 0) (cell_at l colour 1) (cell_at l colour 2)
        (part_at l colour 0) (part_at l colour 1) (part_at l colour 2) (part_at_most l colour 0) (part_at_most l colour 1) (part_at_most l colour 2))
    by false = ap code_of_sum (line_mean (λ n. value_at l n c) (cell_at l colour c) (part_at l colour c) (part_at_most l colour c))

-- An inequality at each threshold, between sums of a value and of the step along a channel, holds of the sums.
module _ (v : ℕ → ℕ) (t p d k p' d' k' : ℕ) where
  sums : (n : ℕ) → ((h : ℕ) → h < n → p + d * step_over h t + k * v h ≤ p' + d' * step_over h t + k' * v h)
      → p * n + d * min n t + k * sum_below n v ≤ p' * n + d' * min n t + k' * sum_below n v
  sums zero all = let least : min 0 t ≡ 0 = omega arith in rw (none, least) (omega arith)
  sums (suc n) all =
      let before = sums n (λ h lt. all h (omega (arith, lt))) in
      let here = all n (omega arith) in
      let step : min (suc n) t ≡ min n t + step_over n t = grind (arith, nat_tests) in
      rw (step, one_more) (omega (arith, before, here))

  pub mean_holds : t ≤ 65536 → ((h : ℕ) → h < 65536 → p + d * step_over h t + k * v h ≤ p' + d' * step_over h t + k' * v h)
      → p * 65536 + d * t + k * sum_below 65536 v ≤ p' * 65536 + d' * t + k' * sum_below 65536 v
  mean_holds most all = let least : min 65536 t ≡ t = omega arith in rw least at (sums 65536 all)
