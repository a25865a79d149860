-- The three codes lie in bits of their own.
use Rattle.std.proofs.Common.{◌≡◌, ℕ, ◌+◌, ◌*◌, ◌%◌, ◌≤◌, bit_or, arith}
use Rattle.std.proofs.Math.Nat.{mod-eq_of_lt}
use Rattle.std.proofs.lemmas.Nat.{or_shifted}
use Rattle.cf_base.specs.declared.pixel.Rgb.{Rgb}
use Rattle.dpx_pack.specs.Pixels.{IsPixelOf, pixel_word}
use Rattle.dpx_pack.proofs.word.word_of.Goals as goal

word_bits : (r g b x y z : ℕ) → x ≡ r → y ≡ g → z ≡ b → r ≤ 1023 → g ≤ 1023 → b ≤ 1023
    → bit_or (bit_or (x * 4194304 % 4294967296) (y * 4096 % 4294967296)) (z * 4 % 4294967296) ≡ pixel_word r g b
word_bits r g b x y z ex ey ez hr hg hb =
    let er : r * 4194304 % 4294967296 ≡ r * 4194304 = mod-eq_of_lt (omega arith) in
    let eg : g * 4096 % 4294967296 ≡ g * 4096 = mod-eq_of_lt (omega arith) in
    let eb : b * 4 % 4294967296 ≡ b * 4 = mod-eq_of_lt (omega arith) in
    let first : bit_or (r * 4194304) (g * 4096) ≡ r * 4194304 + g * 4096 = or_shifted r 22 (g * 4096) (omega arith) in
    let regroup : r * 4194304 + g * 4096 ≡ (r * 1024 + g) * 4096 = omega arith in
    let second : bit_or ((r * 1024 + g) * 4096) (b * 4) ≡ (r * 1024 + g) * 4096 + b * 4 = or_shifted (r * 1024 + g) 12 (b * 4) (omega arith) in
    rw (ex, ey, ez, er, eg, eb, first, regroup, second) (omega arith)

pub returns-clause-word : goal.returns-clause-word
returns-clause-word c = word_bits _ _ _ _ _ _ c.from.ensures c.from-2.ensures c.from-3.ensures c.args.p.r_in_range c.args.p.g_in_range c.args.p.b_in_range

codes_back : (p : Rgb) (w : ℕ) → w ≡ pixel_word p.r p.g p.b → p.g ≤ 1023 → p.b ≤ 1023 → IsPixelOf w p
codes_back p w is green blue = record { red = omega arith; green = omega arith; blue = omega arith }

pub returns-clause-comes_back : goal.returns-clause-comes_back
returns-clause-comes_back c = codes_back c.args.p _ (returns-clause-word c) c.args.p.g_in_range c.args.p.b_in_range
