-- Codes between those of their corners.
use Rattle.std.proofs.Common.{◌≡◌, ℕ, zero, suc, ◌+◌, ◌*◌, ◌<◌, ◌≤◌, List, [], length, get_or, zero-le, arith, inl, inr}
use Rattle.std.proofs.lemmas.Bool.{cases_lt}
use Rattle.std.proofs.lemmas.List.{get_or_past}
use Rattle.cube_reader.specs.Table.{Table, IsTable}
use Rattle.tetra_look.specs.Look.{Lattice, lattice_of, code_of_sum, value_at, look_code}
use Rattle.tetra_look.specs.inside.Look.{IsLattice}
use Rattle.tetra_look.specs.Laws.{sum_below, IsBetween, corner, StaysBetweenCorners, StaysCode}
use Rattle.tetra_look.proofs.MeanLemmas.{is_mean, mean_holds}
use Rattle.tetra_look.proofs.LatticeLemmas.{IsLattice-of}

from_code : (least v : ℕ) → least ≤ code_of_sum (65536 * v) → 64 * least ≤ 32 + v
from_code least v h = omega arith

to_code : (most v : ℕ) → code_of_sum (65536 * v) ≤ most → v ≤ 64 * most + 31
to_code most v h = omega arith

between : (least most sum : ℕ) → 64 * least * 65536 ≤ 32 * 65536 + sum → sum ≤ (64 * most + 31) * 65536 → IsBetween least most (code_of_sum sum)
between least most sum low high = (omega arith, omega arith)

pub stays_between : StaysBetweenCorners
stays_between l colour c least most all =
    let v : ℕ → ℕ = λ h. value_at l (corner l colour c h) c in
    let low = mean_holds v 0 (64 * least) 0 0 32 0 1 (omega arith) (λ h lt. let e = from_code least (v h) ((all h lt).0) in omega (arith, e)) in
    let high = mean_holds v 0 0 0 1 (64 * most + 31) 0 0 (omega arith) (λ h lt. let e = to_code most (v h) ((all h lt).1) in omega (arith, e)) in
    rw (is_mean l colour c) (between least most (sum_below 65536 v) (omega (arith, low)) (omega (arith, high)))

small : (l : Lattice) → IsLattice l → (n c : ℕ) → c < 3 → value_at l n c ≤ 65472
small l h n c known =
    elim (cases_lt n (length l.entries)) [
      | inl here ↦ h.values n c here known
      | inr past ↦ (let none : get_or l.entries n [] ≡ [] = get_or_past l.entries n [] past in rw none (omega arith))
    ]

code_small : (t : Table) → IsTable t → (colour : List ℕ) (c : ℕ) → c < 3 → look_code (lattice_of t) colour c ≤ 1023
code_small t h colour c known =
    (stays_between (lattice_of t) colour c 0 1023
    (λ threshold lt. let v = small (lattice_of t) (IsLattice-of t h) (corner (lattice_of t) colour c threshold) c known in (zero-le, to_1023 _ v))).1
  where
    to_1023 : (v : ℕ) → v ≤ 65472 → code_of_sum (65536 * v) ≤ 1023
    to_1023 v h = omega arith

pub stays_code : StaysCode
stays_code t h colour zero = code_small t h colour 0 (omega arith)
stays_code t h colour (suc zero) = code_small t h colour 1 (omega arith)
stays_code t h colour (suc (suc zero)) = code_small t h colour 2 (omega arith)
stays_code t h colour (suc (suc (suc c))) = zero-le
