-- A line that is chosen by its columns, and lines one behind the other.
use Rattle.std.proofs.Common.{◌≡◌, ℕ, ◌+◌, ◌*◌, ◌/◌, ◌%◌, ◌<◌, ◌≤◌, Bool, List, length, get_or, ◌∙◌, arith, inl, inr}
use Rattle.std.proofs.Math.Nat.{mul-le-mul_right}
use Rattle.std.proofs.lemmas.Bool.{cases_lt}
use borrow.Rule.Slice.PartMut.{put_mid, mid_of}
use Rattle.dpx_pack.proofs.Parts.{part_of, part_before, part_here}
use Rattle.trans_mix.specs.Columns.{AreColumns}
use Rattle.band_kernels.specs.Words.{chosen_word}

pub chosen_at : (shows : ℕ → Bool) (w from to : ℕ) (old new out : List ℕ) → AreColumns shows w from to
    → ((x : ℕ) → from ≤ x → x < to → get_or out x 0 ≡ get_or new x 0)
    → ((x : ℕ) → x < from → get_or out x 0 ≡ get_or old x 0)
    → ((x : ℕ) → to ≤ x → get_or out x 0 ≡ get_or old x 0)
    → (x : ℕ) → x < w → get_or out x 0 ≡ chosen_word (shows x) (get_or old x 0) (get_or new x 0)
chosen_at shows w from to old new out are inside before behind x within =
    elim (cases_lt x from) [
      | inl low ↦ rw (are.before x low) (before x low)
      | inr from_on ↦
          elim (cases_lt x to) [
            | inl below ↦ rw (are.inside x from_on below) (inside x from_on below)
            | inr high ↦ rw (are.behind x high within) (behind x high)
          ]
    ]

-- a line of the whole lines fits
pub line_fits : (n w len : ℕ) → n < len / w → 0 < w → n * w + w ≤ len
line_fits n w len below some =
    let rows : (n + 1) * w ≤ len / w * w = mul-le-mul_right w (omega arith) in
    omega (arith, rows)

-- and each place lies in one of them
pub line_of_place : (x n w len : ℕ) → 0 < w → len % w ≡ 0 → n * w + x < len → n < len / w
line_of_place x n w len some whole within =
    elim (cases_lt n (len / w)) [
      | inl below ↦ below
      | inr high ↦ (let rows : len / w * w ≤ n * w = mul-le-mul_right w high in absurd (omega (arith, rows)))
    ]

-- one line more
pub lines_more : (shows : (x n : ℕ) → Bool) (w n k : ℕ) (old new out line : List ℕ) → k ≡ w → n * w + w ≤ length out → length line ≡ w
    → ((x m : ℕ) → x < w → m < n → get_or out (m * w + x) 0 ≡ chosen_word (shows x m) (get_or old (m * w + x) 0) (get_or new (m * w + x) 0))
    → ((x : ℕ) → x < w → get_or line x 0 ≡ chosen_word (shows x n) (get_or (mid_of (n * w) k old) x 0) (get_or (mid_of (n * w) k new) x 0))
    → (x m : ℕ) → x < w → m < n + 1
    → get_or (put_mid (n * w) k out line) (m * w + x) 0 ≡ chosen_word (shows x m) (get_or old (m * w + x) 0) (get_or new (m * w + x) 0)
lines_more shows w n k old new out line is_w room long before here x m x_in m_in =
    let within : n * w ≤ length out = omega arith in
    elim (cases_lt m n) [
      | inl above ↦
          let rows : (m + 1) * w ≤ n * w = mul-le-mul_right w (omega arith) in
          part_before (n * w) k out line within (m * w + x) (omega (arith, rows)) ∙ before x m x_in above
      | inr below ↦
          let same : m ≡ n = omega arith in
          let in_k : x < k = omega arith in
          rw (same, ← part_of (n * w) k old x in_k, ← part_of (n * w) k new x in_k)
          (part_here (n * w) k out line within x (omega (arith, long)) ∙ here x x_in)
    ]
