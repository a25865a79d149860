use Rattle.std.proofs.Common.{arith, ◌<◌, ◌≤◌, ◌≡◌, ◌^◌, get_or, length}
use Rattle.std.proofs.Math.Seq.{take-length}
use Rattle.cf_base.proofs.DecimalLaws.{small_value, one_digit_more, digit_here, digit_is, value_below}
use Rattle.cf_base.proofs.digits.digits_value.Goals as goal

small : (c : goal.In-loop-byte) → c.loop-byte.value < 10 ^ 8
small c =
    let few : c.loop-byte.byte-index ≤ 8 = omega arith in
    rw c.loop-byte.invariant (small_value c.args.bytes.now c.requires.digits c.loop-byte.byte-index few)

pub overflow_mul-value : goal.overflow_mul-value
overflow_mul-value c = omega (arith, small c)

pub overflow_add-value : goal.overflow_add-value
overflow_add-value c =
    let few : c.loop-byte.byte-index ≤ 8 = omega arith in
    let v = small_value c.args.bytes.now c.requires.digits c.loop-byte.byte-index few in
    omega (arith, v)

pub loop-byte-preserved : goal.loop-byte-preserved
loop-byte-preserved c = one_digit_more c.args.bytes.now c.requires.digits c.loop-byte.byte-index c.loop-byte.value c.from.result c.loop-byte-test.true c.loop-byte.invariant
    (let which = digit_is (get_or c.args.bytes.now c.loop-byte.byte-index 0) (digit_here c.args.bytes.now c.requires.digits c.loop-byte.byte-index c.loop-byte-test.true) in omega (arith, which.0))

pub returns-clause-bound : goal.returns-clause-bound
returns-clause-bound c =
    let whole : c.loop-byte.byte-index ≡ length c.args.bytes.now = omega arith in
    let h = value_below c.args.bytes.now c.requires.digits in
    rw (c.loop-byte.invariant, whole, take-length) h
