-- Where bands and parts of whole lines begin and end.
use Rattle.std.proofs.Common.{◌≡◌, ℕ, ◌+◌, ◌-◌, ◌*◌, ◌/◌, ◌%◌, ◌<◌, ◌≤◌, min, ap, sym, ◌∙◌, arith, inl, inr}
use Rattle.std.proofs.Math.Nat.{mul-le-mul_right, div-mul-le_self, div-le_of_le-mul, div-le_self, mul-div_cancel}
use Rattle.std.proofs.lemmas.Nat.{le-div, div-add-mod'}
use Rattle.std.proofs.lemmas.Bool.{cases_lt}

-- a band ends behind its beginning, and within the picture
pub band_order : (n h b : ℕ) → 0 < b → n * h / b ≤ (n + 1) * h / b
band_order n h b some =
    let least : n * h / b * b ≤ n * h = div-mul-le_self (n * h) b in
    le-div (n * h / b) ((n + 1) * h) b some (omega (arith, least))

pub band_within : (n h b : ℕ) → n ≤ b → n * h / b ≤ h
band_within n h b within = div-le_of_le-mul b {m = n * h} {n = h} (mul-le-mul_right h within)

-- the first begins at the first line, and the last ends at the last
pub first_band : (h b : ℕ) → 0 * h / b ≡ 0
first_band h b =
    let least : 0 * h / b ≤ 0 * h = div-le_self (0 * h) b in
    omega (arith, least)

pub last_band : (h b : ℕ) → 0 < b → b * h / b ≡ h
last_band h b some =
    let turned : b * h ≡ h * b = omega arith in
    ap (λ m. m / b) turned ∙ mul-div_cancel h some

-- lines of s bytes
pub by_lines : (first end s : ℕ) → first ≤ end → end * s - first * s ≡ (end - first) * s
by_lines first end s order =
    let all : end * s ≡ (first + (end - first)) * s = ap (λ n. n * s) (omega arith) in
    omega (arith, all)

pub band_fits : (end w h n : ℕ) → end ≤ h → n ≡ 4 * (w * h) → end * (4 * w) ≤ n
band_fits end w h n within is =
    let lines : end * (4 * w) ≤ h * (4 * w) = mul-le-mul_right (4 * w) within in
    omega (arith, lines)

pub record IsLines (start len s h : ℕ) : Type 0 where
  pub from_lines : start ≡ start / s * s
  pub of_lines : len ≡ len / s * s
  pub within : start / s + len / s ≤ h

are_lines : (first count s h start len : ℕ) → 0 < s → start ≡ first * s → len ≡ count * s → start + len ≤ h * s → IsLines start len s h
are_lines first count s h start len some start_is len_is within =
    let from : start / s ≡ first = ap (λ n. n / s) start_is ∙ mul-div_cancel first some in
    let of : len / s ≡ count = ap (λ n. n / s) len_is ∙ mul-div_cancel count some in
    let fits : first + count ≤ h =
    elim (cases_lt h (first + count)) [
      | inl over ↦ (let more : (h + 1) * s ≤ (first + count) * s = mul-le-mul_right s (omega arith) in absurd (omega arith))
      | inr below ↦ below
    ] in
    record {
      from_lines = start_is ∙ ap (λ n. n * s) (sym from);
      of_lines = len_is ∙ ap (λ n. n * s) (sym of);
      within = omega (arith, from, of, fits);
    }

-- a part of so many lines, or of what is left of them, has whole lines
pub part_lines : (start len lines s h : ℕ) → 0 < s → start % (lines * s) ≡ 0 → len ≡ min (lines * s) (h * s - start) → start + len ≤ h * s → IsLines start len s h
part_lines start len lines s h some multiple is within =
    let q : ℕ = start / (lines * s) in
    let parts : q * (lines * s) + start % (lines * s) ≡ start = div-add-mod' start (lines * s) in
    let start_is : start ≡ q * lines * s = omega (arith, parts, multiple) in
    elim (cases_lt (lines * s) (h * s - start)) [
      | inl full ↦ are_lines (q * lines) lines s h start len some start_is (omega arith) within
      | inr rest ↦
          let below : q * lines ≤ h =
          elim (cases_lt h (q * lines)) [
            | inl over ↦ (let more : (h + 1) * s ≤ q * lines * s = mul-le-mul_right s (omega arith) in absurd (omega arith))
            | inr le ↦ le
          ] in
          let left = by_lines (q * lines) h s below in
          are_lines (q * lines) (h - q * lines) s h start len some start_is (omega (arith, left)) within
    ]
