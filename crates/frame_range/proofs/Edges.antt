-- Where parts begin and end.
use Rattle.std.proofs.Common.{◌≡◌, inl, inr, ℕ, zero, suc, ◌+◌, ◌-◌, ◌*◌, ◌/◌, ◌<◌, ◌≤◌, sym, ◌∙◌, ap, subst, arith}
use Rattle.std.specs.Prelude.{◌⊎◌}
use Rattle.std.proofs.lemmas.Nat.{div-add-mod', mul-le, div_below, div-mul-add, le-div}
use Rattle.frame_range.specs.Parts.{part_edge, part_range, IsIn}

-- more parts end no earlier
pub edge_grows : (a b parts count : ℕ) → 0 < parts → a ≤ b → part_edge a parts count ≤ part_edge b parts count
edge_grows a b parts count some low =
    let back = div-add-mod' (a * count) parts in
    let more = mul-le a count b count low (omega arith) in
    le-div (a * count / parts) (b * count) parts some (omega (arith, back, more))

pub edge_first : (parts count : ℕ) → 0 < parts → part_edge 0 parts count ≡ 0
edge_first parts count some =
    let none : 0 * count ≡ 0 = omega arith in
    let below = div_below (0 * count) parts 1 some (omega (arith, none, some)) in
    omega (arith, below)

pub edge_last : (parts count : ℕ) → 0 < parts → part_edge parts parts count ≡ count
edge_last parts count some =
    let turned : parts * count ≡ count * parts + 0 = grind arith in
    ap (λ n. n / parts) turned ∙ div-mul-add count parts 0 some

below_or_not : (a i : ℕ) → (a < i) ⊎ (i ≤ a)
below_or_not a i = grind arith

three_ways : (j k : ℕ) → ((j ≡ k) ⊎ (j < k)) ⊎ (k < j)
three_ways j k = grind arith

earlier_is_apart : (parts count j k i : ℕ) → 1 ≤ parts → j < k → IsIn (part_range j parts count) i → IsIn (part_range k parts count) i → ⊥
earlier_is_apart parts count j k i some early at_j at_k =
    let between = edge_grows j (k - 1) parts count some (omega (arith, early)) in
    let until = at_j.1 in
    let since = at_k.0 in
    absurd (omega (arith, between, until, since))

pub parts_are_apart : (parts count j k i : ℕ) → 1 ≤ parts → 1 ≤ j → 1 ≤ k → IsIn (part_range j parts count) i → IsIn (part_range k parts count) i → j ≡ k
parts_are_apart parts count j k i some first_j first_k at_j at_k = elim (three_ways j k) [
  | inl early ↦ elim early [
    | inl same ↦ same
    | inr before ↦ absurd (earlier_is_apart parts count j k i some before at_j at_k)
  ]
  | inr after ↦ absurd (earlier_is_apart parts count k j i some after at_k at_j)
]

-- a frame below an edge is one of a part's that ends by it
part_before : (parts count i edge : ℕ) → 1 ≤ parts → i < part_edge edge parts count → (k : ℕ) × (1 ≤ k) × (k ≤ edge) × IsIn (part_range k parts count) i
part_before parts count i zero some below = let none = edge_first parts count some in absurd (omega (arith, none, below))
part_before parts count i (suc edge) some below = elim (below_or_not i (part_edge edge parts count)) [
  | inl early ↦ let at = part_before parts count i edge some early in (at.0, at.1, omega (arith, at.2), at.3)
  | inr since ↦
      let same : suc edge - 1 ≡ edge = omega arith in
      (suc edge, omega arith, omega arith, (subst (λ n. part_edge n parts count ≤ i) (sym same) since, below))
]

pub parts_cover : (parts count i : ℕ) → 1 ≤ parts → i < count → (k : ℕ) × (1 ≤ k) × (k ≤ parts) × IsIn (part_range k parts count) i
parts_cover parts count i some within = let last = edge_last parts count some in part_before parts count i parts some (omega (arith, last, within))

pub part_within : (parts count k i : ℕ) → 1 ≤ parts → k ≤ parts → IsIn (part_range k parts count) i → i < count
part_within parts count k i some few at =
    let most = edge_grows k parts parts count some few in
    let last = edge_last parts count some in
    let until = at.1 in
    omega (arith, most, last, until)

pub only_part : (count : ℕ) → part_range 1 1 count ≡ record { low = 0; high = count }
only_part count = ap (λ n. record { low = n; high = part_edge 1 1 count }) (edge_first 1 count (omega arith)) ∙ ap (λ n. record { low = 0; high = n }) (edge_last 1 count (omega arith))
