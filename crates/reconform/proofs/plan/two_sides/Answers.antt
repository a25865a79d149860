-- A transition of two sides, without its duration.
use Rattle.std.proofs.Common.{refl}
use Rattle.reconform.proofs.plan.two_sides.Goals as goal
use Rattle.reconform.proofs.plan.two_sides.Goals.{in-Dissolve, in-Wipe}

pub returns : goal.returns
returns c = elim c.match-transition.branch [
  | in-Dissolve w ↦ rw (c.side_of.ensures, c.side_of-2.ensures, w.in-Dissolve.is, w.wipe-is) refl
  | in-Wipe w ↦ rw (c.side_of.ensures, c.side_of-2.ensures, w.in-Wipe.is, w.wipe-is) refl
]
