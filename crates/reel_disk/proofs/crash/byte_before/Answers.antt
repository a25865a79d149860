use Rattle.std.proofs.Common.{◌≡◌, ◌-◌, suc, inr, sym, ◌∙◌, subst, arith}
use Rattle.reel_disk.proofs.Walks.{IsWalked, walk_step, walk_end}
use Rattle.reel_disk.proofs.crash.byte_before.Goals as goal

pub returns-then-not-byte_loose : goal.returns-then-not-byte_loose
returns-then-not-byte_loose c files is =
    walk_end files c.args.loose.now c.args.steps.now c.args.id c.args.k c.loop-i.i c.loop-i.places.now c.loop-i.value c.loop-i.invariant.upto (c.loop-i.invariant.walked files is)
    (inr (sym c.byte_loose.ensures ∙ c.if-not-byte_loose.true))

pub loop-i-preserved : goal.loop-i-preserved
loop-i-preserved c = record {
  upto = omega (arith, c.loop-i.invariant.upto);
  walked = λ files is.
      let before : suc (c.loop-i.i - 1) ≡ c.loop-i.i = omega (arith, c.loop-i-test.true) in
      let walked = subst (λ n. IsWalked files c.args.loose.now c.args.steps.now c.args.id c.args.k n c.loop-i.places.now c.loop-i.value) (sym before) (c.loop-i.invariant.walked files is) in
      subst (λ l. IsWalked files c.args.loose.now c.args.steps.now c.args.id c.args.k (c.loop-i.i - 1) l c.byte_then-value.result) (sym c.loose_then-places.ensures)
      (walk_step files c.args.loose.now c.args.steps.now c.args.id c.args.k (c.loop-i.i - 1) c.loop-i.places.now c.loop-i.value c.byte_then-value.result c.index-steps-i.result (omega (arith, c.loop-i-test.true, c.loop-i.invariant.upto)) c.index-steps-i.is walked
      (sym c.byte_loose.ensures ∙ c.if-not-byte_loose.false) c.byte_then-value.ensures);
}
