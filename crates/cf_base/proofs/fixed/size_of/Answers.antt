use Rattle.std.proofs.Common.{◌≡◌, ℕ, ◌+◌, ◌-◌, ◌*◌, ◌^◌, ◌<◌, ◌≤◌, true, ◌++◌, List, length, get_or, take, min, refl, sym, ◌∙◌, ap, arith, length-append}
use Rattle.std.proofs.lemmas.Grind.{common_steps}
use Rattle.std.specs.Char.{is_ascii_digit}
use Rattle.std.specs.List.{list_all}
use Rattle.std.specs.Str.Parse.{digits_value}
use Rattle.cf_base.specs.declared.fixed.TheConstants.{GREATEST}
use Rattle.cf_base.proofs.Sizes.{size-whole, size-none, size-down, size-up, all-both, raised}
use Rattle.cf_base.proofs.fixed.size_of.Goals as goal

pub returns-then-shift-lift : goal.returns-then-shift-lift
returns-then-shift-lift c =
    c.with_zeros.ensures
    ∙ ap (λ (n : ℕ). min GREATEST (n * 10 ^ (9 + c.args.up - (length c.args.decimals.now + c.args.down)))) c.digits_of_two.ensures
    ∙ size-whole GREATEST (digits_value 10 (c.args.whole.now ++ c.args.decimals.now)) (9 + c.args.up) (length c.args.decimals.now + c.args.down) (omega arith)

pub returns-then-cut-total : goal.returns-then-cut-total
returns-then-cut-total c =
    let all : list_all is_ascii_digit (c.args.whole.now ++ c.args.decimals.now) ≡ true = all-both c.args.whole.now c.args.decimals.now c.requires.whole c.requires.decimals in
    let sum : length (c.args.whole.now ++ c.args.decimals.now) ≡ length c.args.whole.now + length c.args.decimals.now = length-append c.args.whole.now c.args.decimals.now in
    rw (size-none (c.args.whole.now ++ c.args.decimals.now) (9 + c.args.up) (length c.args.decimals.now + c.args.down) all (omega arith) (omega arith)) refl

pub returns-else-digit_at-ge53 : goal.returns-else-digit_at-ge53
returns-else-digit_at-ge53 c =
    let ds : List ℕ = c.args.whole.now ++ c.args.decimals.now in
    let all : list_all is_ascii_digit (c.args.whole.now ++ c.args.decimals.now) ≡ true = all-both c.args.whole.now c.args.decimals.now c.requires.whole c.requires.decimals in
    let sum : length (c.args.whole.now ++ c.args.decimals.now) ≡ length c.args.whole.now + length c.args.decimals.now = length-append c.args.whole.now c.args.decimals.now in
    let cut : ℕ = length c.args.decimals.now + c.args.down - (9 + c.args.up) in
    let small : get_or (c.args.whole.now ++ c.args.decimals.now) (length c.args.whole.now + length c.args.decimals.now - cut) 0 < 53 = grind (arith, common_steps) in
    c.first_digits-kept.ensures
    ∙ ap (min GREATEST) (sym (size-down ds (length c.args.whole.now + length c.args.decimals.now - cut) cut all (omega arith) (omega (arith, sum)) (9 + c.args.up) (length c.args.decimals.now + c.args.down) (omega arith) refl small))

pub returns-then-digit_at-ge53 : goal.returns-then-digit_at-ge53
returns-then-digit_at-ge53 c =
    let ds : List ℕ = c.args.whole.now ++ c.args.decimals.now in
    let all : list_all is_ascii_digit (c.args.whole.now ++ c.args.decimals.now) ≡ true = all-both c.args.whole.now c.args.decimals.now c.requires.whole c.requires.decimals in
    let sum : length (c.args.whole.now ++ c.args.decimals.now) ≡ length c.args.whole.now + length c.args.decimals.now = length-append c.args.whole.now c.args.decimals.now in
    let cut : ℕ = length c.args.decimals.now + c.args.down - (9 + c.args.up) in
    let keep : ℕ = length c.args.whole.now + length c.args.decimals.now - cut in
    let large : 53 ≤ get_or (c.args.whole.now ++ c.args.decimals.now) (length c.args.whole.now + length c.args.decimals.now - cut) 0 = grind (arith, common_steps) in
    raised GREATEST (digits_value 10 (take keep ds)) c.first_digits-kept.result c.min.result c.first_digits-kept.ensures (grind (arith, common_steps))
    ∙ ap (min GREATEST) (sym (size-up ds keep cut all (omega arith) (omega (arith, sum)) (9 + c.args.up) (length c.args.decimals.now + c.args.down) (omega arith) refl large))
