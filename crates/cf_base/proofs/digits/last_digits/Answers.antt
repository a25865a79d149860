use Rattle.std.proofs.Common.{◌≡◌, ◌+◌, ◌-◌, ◌<◌, length, sym, ◌∙◌, arith}
use Rattle.std.proofs.lemmas.List.{drop-set, length-set}
use Rattle.cf_base.proofs.DigitLaws.{digits_more, left_more}
use Rattle.cf_base.proofs.digits.last_digits.Goals as goal

pub loop-place-preserved : goal.loop-place-preserved
loop-place-preserved g c =
    let l = c.loop-place in
    let count = g.row.N - l.place in
    let positive : 0 < l.place = c.loop-place-test.true in
    let more : g.row.N - (l.place - 1) ≡ count + 1 = omega (arith, l.auto.place) in
    let here : l.place - 1 + 1 ≡ l.place = omega arith in
    let within : l.place - 1 < length l.text = omega (arith, l.auto.place, l.invariant.size) in
    record {
      size = length-set l.text (l.place - 1) _ ∙ l.invariant.size;
      left = rw more (left_more c.args.number l.rest count l.invariant.left);
      written = drop-set l.text (l.place - 1) _ within
          ∙ rw (here, l.invariant.written, more) (sym (digits_more c.args.number l.rest count l.invariant.left));
    }
