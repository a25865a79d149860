-- The square tone is a tone.
use Rattle.std.proofs.Common.{◌≡◌, ℕ, ◌+◌, ◌*◌, ◌/◌, ◌<◌, ◌≤◌, List, length, get_or, sym, ◌∙◌, arith, lit<}
use Rattle.std.proofs.Math.Nat.{mul-le-mul, div-mul-le_self}
use Rattle.std.proofs.lemmas.Nat.{le-div}
use Rattle.std.proofs.lemmas.Grind.{same_number_lists}
use Rattle.std.proofs.lemmas.List.FromFn.{get_or-map-range_with_len, length-map-range_with_len}
use Rattle.reel_qc.specs.Tones.{IsToneTable, squared, square_values}

div_rises : (m n : ℕ) → m ≤ n → m / 1023 ≤ n / 1023
div_rises m n le = le-div (m / 1023) n 1023 (lit< tt) (let down = div-mul-le_self m 1023 in omega (arith, down, le))

squared_rises : (a b : ℕ) → a ≤ b → squared a ≤ squared b
squared_rises a b le =
    let product : a * a ≤ b * b = mul-le-mul le le in
    div_rises (a * a + 511) (b * b + 511) (omega (arith, product))

pub square_is : IsToneTable square_values
square_is = record {
  size = length-map-range_with_len squared 0 1024;
  codes = λ k lt.
      let at = get_or-map-range_with_len squared 0 1024 k k 0 lt (omega arith) in
      let small = squared_rises k 1023 (omega arith) in
      rw at small;
  rises = λ k lt.
      let here = get_or-map-range_with_len squared 0 1024 k k 0 (omega arith) (omega arith) in
      let next = get_or-map-range_with_len squared 0 1024 (k + 1) (k + 1) 0 lt (omega arith) in
      rw (here, next) (squared_rises k (k + 1) (omega arith));
}

-- a list of that length with these values is the table
pub squares_are : (values : List ℕ) → length values ≡ 1024 → ((k : ℕ) → k < 1024 → get_or values k 0 ≡ squared k) → values ≡ square_values
squares_are values size at = same_number_lists values square_values (size ∙ sym (length-map-range_with_len squared 0 1024)) (λ k lt.
    let below : k < 1024 = omega (arith, lt, size) in
    at k below ∙ sym (get_or-map-range_with_len squared 0 1024 k k 0 below (omega arith)))
