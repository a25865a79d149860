-- Where a code lies on a channel, and on one from 0 to 1.
use Rattle.std.proofs.Common.{◌≡◌, ℕ, List, slice_index, refl, ap, sym, subst, ◌∙◌, zero-le, zero, suc, ℤ, pos, negsuc, ◌-ℤ◌, ◌*ℤ◌, ◌+◌, ◌-◌, ◌*◌, ◌/◌, ◌%◌, ◌<◌, ◌≤◌, min, arith, inl, inr, mul-le-mul_right, div-add-mod', mod-lt}
use Rattle.std.proofs.lemmas.Bool.{cases_lt}
use Rattle.std.specs.Prelude.{◌≤ℤ◌, ◌<ℤ◌}
use Rattle.std.proofs.lemmas.Int.{ints}
use Rattle.std.proofs.lemmas.Nat.{div_below, div-mul-add}
use Rattle.cube_reader.specs.Table.{units}
use Rattle.tetra_look.specs.Look.{Lattice, from_zero, cell_at, part_at, way, cell, part, reach}
use Rattle.tetra_look.specs.Laws.{FindsPlace, StaysOnChannel}

-- a way of n - 1 reaches at most goes one reach at most past its cell
behind_cell : (w r n : ℕ) → 0 < r → w ≤ (n - 1) * r → w ≤ min (w / r) (n - 2) * r + r
behind_cell w r n some most =
    elim (cases_lt (n - 2) (w / r)) [
      | inl more ↦
          let least : min (w / r) (n - 2) ≡ n - 2 = omega arith in
          let all : (n - 1) * r ≤ (n - 2 + 1) * r = mul-le-mul_right r (omega arith) in
          rw least (omega (arith, all))
      | inr less ↦
          let least : min (w / r) (n - 2) ≡ w / r = omega arith in
          let whole = div-add-mod' w r in
          let rest = mod-lt w some in
          rw least (omega (arith, whole, rest))
    ]

part_within : (w r n : ℕ) → w ≤ (n - 1) * r → 65536 * (w - min (w / r) (n - 2) * r) / r ≤ 65536
part_within w zero n most = omega arith
part_within w (suc r) n most =
    let past = behind_cell w (suc r) n (omega arith) most in
    let less = div_below (65536 * (w - min (w / suc r) (n - 2) * suc r)) (suc r) 65537 (omega arith) (omega (arith, past)) in
    omega (arith, less)

pub part_at_most : (l : Lattice) (colour : List ℕ) (c : ℕ) → part_at l colour c ≤ 65536
part_at_most l colour c = part_within (way (units l.low c) (units l.high c) l.size (slice_index colour c)) (reach (units l.low c) (units l.high c)) l.size (omega arith)

-- a place and the part behind it are the way in 65536ths
sum_is : (w r c : ℕ) → c ≤ w / r → 65536 * c + 65536 * (w - c * r) / r ≡ 65536 * w / r
sum_is w zero c le = omega arith
sum_is w (suc r) c le =
    let x : ℕ = 65536 * (w - c * suc r) in
    let inner : c * suc r ≤ w / suc r * suc r = mul-le-mul_right (suc r) le in
    let all = div-add-mod' w (suc r) in
    let whole = div-add-mod' x (suc r) in
    let same : (65536 * c + x / suc r) * suc r + x % suc r ≡ 65536 * w = omega (arith, inner, all, whole) in
    sym (div-mul-add (65536 * c + x / suc r) (suc r) (x % suc r) (mod-lt x (omega arith))) ∙ ap (λ n. n / suc r) same

pub finds_place : FindsPlace
finds_place low high n code two = (
  sum_is (way low high n code) (reach low high) (cell low high n code) (omega arith),
  omega arith,
  part_within (way low high n code) (reach low high) n (omega arith),
)

none_over : (z : ℤ) → z ≤ℤ pos 0 → from_zero z ≡ 0
none_over (pos n) le = omega (arith, ints)
none_over (negsuc n) le = refl

no_less : (y z : ℤ) → y ≤ℤ z → from_zero y ≤ from_zero z
no_less (pos m) (pos n) le = omega (arith, ints)
no_less (pos m) (negsuc n) le = absurd (omega (arith, ints))
no_less (negsuc m) z le = zero-le

some_over : (z : ℤ) → pos 0 <ℤ z → 0 < from_zero z
some_over (pos n) lt = omega (arith, ints)
some_over (negsuc n) lt = absurd (omega (arith, ints))

zero_over : (x r : ℕ) → x ≡ 0 → x / r ≡ 0
zero_over x zero is = omega arith
zero_over x (suc r) is = let less = div_below x (suc r) 1 (omega arith) (omega (arith, is)) in omega (arith, less)

times_over : (x a r : ℕ) → 0 < r → x ≡ a * r → x / r ≡ a
times_over x a r some is = let same : x ≡ a * r + 0 = omega (arith, is) in ap (λ n. n / r) same ∙ div-mul-add a r 0 some

-- a way of no length, and the whole way
at_first : (w r n : ℕ) → w ≡ 0 → (min (w / r) (n - 2) ≡ 0) × (65536 * (w - min (w / r) (n - 2) * r) / r ≡ 0)
at_first w r n is = let none = zero_over w r is in (omega (arith, none), zero_over _ r (omega (arith, is)))

at_last : (w r n : ℕ) → 2 ≤ n → 0 < r → w ≡ (n - 1) * r
    → (min (w / r) (n - 2) + 2 ≡ n) × (65536 * (w - min (w / r) (n - 2) * r) / r ≡ 65536)
at_last w r n two some is =
    let whole = times_over w (n - 1) r some is in
    let least : min (w / r) (n - 2) ≡ n - 2 = omega (arith, whole) in
    let more : n - 1 ≡ n - 2 + 1 = omega arith in
    let all : (n - 1) * r ≡ (n - 2 + 1) * r = ap (λ k. k * r) more in
    (omega (arith, least), rw least (times_over _ 65536 r some (omega (arith, is, all))))

pub stays_on_channel : StaysOnChannel
stays_on_channel low high n code two order =
    let above : ℤ = pos (code * 1000000000) -ℤ pos 1023 *ℤ low in
    let length : ℤ = pos 1023 *ℤ (high -ℤ low) in (
      (λ under.
          let come : from_zero above ≡ 0 = none_over above (omega (arith, ints, under)) in
          at_first (way low high n code) (reach low high) n (rw come (omega arith))),
      (λ over.
          let all : reach low high ≤ from_zero above = no_less length above (omega (arith, ints, over)) in
          let some : 0 < reach low high = some_over length (omega (arith, ints, order)) in
          let times = mul-le-mul_right (n - 1) all in
          at_last (way low high n code) (reach low high) n two some (omega (arith, times))),
    )

-- the place and the part of a code among n places from 0 to 1
pub record IsPlaced (n code place part : ℕ) : Type 0 where
  pub within : place + 2 ≤ n
  pub from : (65536 * place + part) * 1023 ≤ 65536 * (code * (n - 1))
  pub below : 65536 * (code * (n - 1)) < (65536 * place + part + 1) * 1023

placed : (n code : ℕ) → 2 ≤ n → code ≤ 1023 → IsPlaced n code (cell (pos 0) (pos 1000000000) n code) (part (pos 0) (pos 1000000000) n code)
placed n code two small =
    let most = mul-le-mul_right (n - 1) small in
    let whole : way (pos 0) (pos 1000000000) n code ≡ 1000000000 * (code * (n - 1)) = omega (arith, most) in
    let found = finds_place (pos 0) (pos 1000000000) n code two in
    by_sum _ _ _ whole found.0 found.1
  where
    by_sum : (w place part : ℕ) → w ≡ 1000000000 * (code * (n - 1)) → 65536 * place + part ≡ 65536 * w / 1023000000000 → place + 2 ≤ n → IsPlaced n code place part
    by_sum w place part whole sum inner = record { within = inner; from = omega (arith, whole, sum); below = omega (arith, whole, sum) }

pub placed_at : (l : Lattice) (colour : List ℕ) (c : ℕ) → 2 ≤ l.size → slice_index colour c ≤ 1023 → units l.low c ≡ pos 0 → units l.high c ≡ pos 1000000000
    → IsPlaced l.size (slice_index colour c) (cell_at l colour c) (part_at l colour c)
placed_at l colour c two small low high =
    let n : ℕ = l.size in
    let code : ℕ = slice_index colour c in
    subst (λ z. IsPlaced n code (cell z (units l.high c) n code) (part z (units l.high c) n code)) (sym low)
    (subst (λ z. IsPlaced n code (cell (pos 0) z n code) (part (pos 0) z n code)) (sym high) (placed n code two small))
