-- A table whose values are those of their places gives each colour back.
use Rattle.std.proofs.Common.{◌≡◌, ℕ, zero, suc, ◌+◌, ◌-◌, ◌*◌, ◌/◌, ◌<◌, ◌≤◌, Bool, true, false, cond, List, [], ◌∷◌, slice_index, slice_index_or, refl, subst, ◌∙◌, arith, zero-le, le_of_mul-le-mul_right, mul-le-mul_right, div-add-mod'}
use Rattle.std.proofs.lemmas.Nat.{mod_below}
use Rattle.std.proofs.lemmas.Bool.Decides.{nat_tests}
use Rattle.cf_base.specs.Fixed.{nearest}
use Rattle.cube_reader.specs.Table.{Table, units}
use Rattle.tetra_look.specs.Look.{Lattice, from_zero, code_of_sum, cell_at, part_at, value_at, lattice_of, look_code}
use Rattle.tetra_look.specs.Laws.{step_over, sum_below, corner, IsNear, IsIdentity, RoundsNear, KeepsColours}
use Rattle.tetra_look.proofs.LatticeLemmas.{value_read}
use Rattle.tetra_look.proofs.MeanLemmas.{is_mean, mean_holds}
use Rattle.tetra_look.proofs.CellLemmas.{IsPlaced, placed_at, part_at_most}

-- a lattice value is that of its place to within 30, m times
pub record IsClose (m place value : ℕ) : Type 0 where
  pub most : m * value ≤ 65472 * place + 30 * m
  pub least : 65472 * place ≤ 30 * m + m * value

close : (m place units value : ℕ) → value ≡ (units * 65472 + 500000000) / 1000000000
    → place * 1000000000 ≤ (units + 450000) * m → units * m ≤ place * 1000000000 + 450000 * m → IsClose m place value
close m place units value is from to =
    let low : units * 65472 + 500000000 ≤ 1000000000 * value + 999999999 = omega arith in
    let high : 1000000000 * value ≤ units * 65472 + 500000000 = omega arith in
    let lows = mul-le-mul_right m low in
    let highs = mul-le-mul_right m high in
    record { most = omega (arith, highs, to); least = omega (arith, lows, from) }

close_at : (t : Table) (n c place : ℕ) → IsNear t.size place (units (slice_index_or t.entries n []) c) → IsClose (t.size - 1) place (value_at (lattice_of t) n c)
close_at t n c place near = close (t.size - 1) place (from_zero (units (slice_index_or t.entries n []) c)) _ (value_read t n c) near.0 near.1

-- the whole number nearest to a / m is near it
near_up : (a m : ℕ) → 0 < m → a ≤ (nearest a m + 450000) * m
near_up a m some =
    let whole = div-add-mod' (2 * a + m) (2 * m) in
    let rest = mod_below (2 * a + m) (2 * m) (omega (arith, some)) in
    omega (arith, whole, rest)

near_down : (a m : ℕ) → 0 < m → nearest a m * m ≤ a + 450000 * m
near_down a m some = let whole = div-add-mod' (2 * a + m) (2 * m) in omega (arith, whole)

pub rounds_near : RoundsNear
rounds_near n place two = (near_up (place * 1000000000) (n - 1) (omega (arith, two)), near_down (place * 1000000000) (n - 1) (omega (arith, two)))

step_most : (h t : ℕ) → step_over h t ≤ 1
step_most h t = grind (arith, nat_tests)

-- a mean of close values is that of the code to within half a code
code_is : (n code place part : ℕ) (v : ℕ → ℕ) → IsPlaced n code place part → part ≤ 65536
    → ((h : ℕ) → IsClose (n - 1) (place + step_over h part) (v h)) → code_of_sum (sum_below 65536 v) ≡ code
code_is n code place part v p within near =
    let m : ℕ = n - 1 in
    let sum : ℕ = sum_below 65536 v in
    let some : 0 < m = (let e = p.within in omega (arith, e)) in
    let from = p.from in
    let below = p.below in
    let high = mean_holds v part 0 0 m (65472 * place + 30 * m) 65472 0 within (λ h lt. let e = (near h).most in omega (arith, e)) in
    let low = mean_holds v part (65472 * place) 65472 0 (30 * m) 0 m within (λ h lt. let e = (near h).least in omega (arith, e)) in
    let most : sum ≤ 4194304 * code + 1966080 = le_of_mul-le-mul_right {k = m} (omega (arith, high, from)) some in
    let least : 4194304 * code ≤ sum + 2031616 = le_of_mul-le-mul_right {k = m} (omega (arith, low, below, some)) some in
    omega (arith, most, least)

module _ (t : Table) (h : IsIdentity t) (colour : List ℕ) (small : (c : ℕ) → c < 3 → slice_index colour c ≤ 1023) where
  abbrev Made : Lattice
  Made = lattice_of t

  abbrev Cell : ℕ → ℕ
  Cell = cell_at Made colour

  abbrev Part : ℕ → ℕ
  Part = part_at Made colour

  abbrev At : (channel threshold : ℕ) → ℕ
  At c threshold = Cell c + step_over threshold (Part c)

  placed_on : (c : ℕ) → c < 3 → IsPlaced t.size (slice_index colour c) (Cell c) (Part c)
  placed_on c known = placed_at Made colour c h.least (small c known) (h.low c known) (h.high c known)

  inside : (c threshold : ℕ) → c < 3 → At c threshold < t.size
  inside c threshold known = let p = (placed_on c known).within in let s = step_most threshold (Part c) in omega (arith, p, s)

  in_cube : t.is_3d ≡ true → (c threshold : ℕ) → c < 3
      → IsClose (t.size - 1) (slice_index (At 0 threshold ∷ At 1 threshold ∷ At 2 threshold ∷ []) c)
      (value_at Made (At 0 threshold + t.size * (At 1 threshold + t.size * At 2 threshold)) c)
  in_cube three c threshold known =
      close_at t (At 0 threshold + t.size * (At 1 threshold + t.size * At 2 threshold)) c _
      (h.in_cube three (At 0 threshold) (At 1 threshold) (At 2 threshold) c (inside 0 threshold (omega arith)) (inside 1 threshold (omega arith)) (inside 2 threshold (omega arith)) known)

  on_line : t.is_3d ≡ false → (c threshold : ℕ) → c < 3 → IsClose (t.size - 1) (At c threshold) (value_at Made (At c threshold) c)
  on_line line c threshold known = close_at t (At c threshold) c (At c threshold) (h.on_line line (At c threshold) c (inside c threshold known) known)

  keeps : (c : ℕ) → c < 3 → ((threshold : ℕ) → IsClose (t.size - 1) (At c threshold) (value_at Made (corner Made colour c threshold) c)) → look_code Made colour c ≡ slice_index colour c
  keeps c known near =
      is_mean Made colour c
      ∙ code_is t.size (slice_index colour c) (Cell c) (Part c) (λ threshold. value_at Made (corner Made colour c threshold) c) (placed_on c known) (part_at_most Made colour c) near

  close_corner : (three : Bool) → t.is_3d ≡ three → (c threshold : ℕ) → c < 3 → slice_index (At 0 threshold ∷ At 1 threshold ∷ At 2 threshold ∷ []) c ≡ At c threshold
      → IsClose (t.size - 1) (At c threshold) (value_at Made (cond three (At 0 threshold + t.size * (At 1 threshold + t.size * At 2 threshold)) (At c threshold)) c)
  close_corner true three c threshold known same = subst (λ place. IsClose (t.size - 1) place (value_at Made (At 0 threshold + t.size * (At 1 threshold + t.size * At 2 threshold)) c)) same (in_cube three c threshold known)
  close_corner false line c threshold known same = on_line line c threshold known

equal : {x y z p q s : ℕ} → x ≡ p → y ≡ q → z ≡ s → x ∷ y ∷ z ∷ [] ≡ p ∷ q ∷ s ∷ []
equal e f i = rw (e, f, i) refl

pub keeps_colours : KeepsColours
keeps_colours t h r g b small_r small_g small_b =
    let colour : List ℕ = r ∷ g ∷ b ∷ [] in
    equal
    (keeps t h colour small 0 (omega arith) (λ threshold. close_corner t h colour small t.is_3d refl 0 threshold (omega arith) refl))
    (keeps t h colour small 1 (omega arith) (λ threshold. close_corner t h colour small t.is_3d refl 1 threshold (omega arith) refl))
    (keeps t h colour small 2 (omega arith) (λ threshold. close_corner t h colour small t.is_3d refl 2 threshold (omega arith) refl))
  where
    small : (c : ℕ) → c < 3 → slice_index (r ∷ g ∷ b ∷ []) c ≤ 1023
    small zero lt = small_r
    small (suc zero) lt = small_g
    small (suc (suc zero)) lt = small_b
    small (suc (suc (suc c))) lt = zero-le
