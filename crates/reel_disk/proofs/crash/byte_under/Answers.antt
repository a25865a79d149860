use Rattle.std.proofs.Common.{inl, inr, ◌∙◌, sym, arith}
use Rattle.reel_disk.proofs.LaidOver.{under_absent, under_outside, under_inside}
use Rattle.reel_disk.proofs.crash.byte_under.Goals.{then-k-start-via-then-k-start, then-k-start-via-else-k-start+then-k-start-2}
use Rattle.reel_disk.proofs.crash.byte_under.Goals as goal

pub returns-in-None : goal.returns-in-None
returns-in-None c content is = under_absent content c.args.start c.args.before.now c.args.k (sym c.in-None.is ∙ is)

pub returns-then-k-start : goal.returns-then-k-start
returns-then-k-start c content is = elim c.then-k-start.branch [
  | then-k-start-via-then-k-start w ↦ under_outside c.args.byte content c.args.start c.args.before.now c.args.k (inl w.if-k-start.true) is
  | then-k-start-via-else-k-start+then-k-start-2 w ↦ under_outside c.args.byte content c.args.start c.args.before.now c.args.k (inr (omega (arith, w.if-k-start.false, w.if-k-start-2.true))) is
]

pub returns-else-k-start-2 : goal.returns-else-k-start-2
returns-else-k-start-2 c content is = under_inside c.in-Some.field-0 content c.args.start c.args.before.now c.args.k (sym c.in-Some.is ∙ is) (omega (arith, c.if-k-start.false)) (omega (arith, c.if-k-start.false, c.if-k-start-2.false))
