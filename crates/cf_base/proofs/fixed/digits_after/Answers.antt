use Rattle.std.proofs.Common.{◌≡◌, ◌+◌, ◌-◌, ◌*◌, ◌<◌, length, get_or, take, min, rules, arith}
use Rattle.std.proofs.lemmas.Grind.{common_steps}
use Rattle.std.specs.Char.{digit_value}
use Rattle.std.specs.Str.Parse.{digits_value_after}
use Rattle.cf_base.specs.declared.fixed.TheConstants.{GREATEST}
use Rattle.cf_base.proofs.Capped.{value_of_digit, digit_at, after_more, capped_more}
use Rattle.cf_base.proofs.fixed.digits_after.Goals as goal

pub loop-c-preserved : goal.loop-c-preserved
loop-c-preserved c =
    let inside : c.loop-c.c-index < length c.args.ds.now = search rules in
    let digit : digit_value (get_or c.args.ds.now c.loop-c.c-index 0) ≡ get_or c.args.ds.now c.loop-c.c-index 0 - 48 = value_of_digit _ (digit_at c.args.ds.now c.loop-c.c-index inside c.requires.digits) in
    let step : c.min-value.result ≡ min GREATEST (c.loop-c.value * 10 + (get_or c.args.ds.now c.loop-c.c-index 0 - 48)) = grind (arith, common_steps) in
    rw (after_more c.args.start c.args.ds.now c.loop-c.c-index inside, digit) (capped_more GREATEST (digits_value_after 10 c.args.start (take c.loop-c.c-index c.args.ds.now)) _ c.loop-c.value c.min-value.result c.loop-c.invariant step)
