use Rattle.std.proofs.Common.{ℕ, ◌≤◌, arith}
use Rattle.reconform.specs.inside.Parts.{half_of}
use Rattle.reconform.proofs.Holding.{held_within}
use Rattle.reconform.proofs.Ranges.{served_as}
use Rattle.reconform.proofs.takeover.Takeover.adopt_first.Goals as goal

pub adopt_frames-requires-clause-order : goal.adopt_frames-requires-clause-order
adopt_frames-requires-clause-order g c =
    let at = c.requires.order in
    let made = at.adopted in
    let read = at.made in
    let end = at.read in
    (omega arith, omega (arith, made, read, end))

pub adopt_frames-requires-clause-held : goal.adopt_frames-requires-clause-held
adopt_frames-requires-clause-held g c told =
    let made = c.requires.order.adopted in
    held_within g.N.Work.job g.O.Work.job c.args.self.now.view.now _ c.args.at.adopted c.args.at.adopted (half_of c.args.at).adopted c.args.at.made c.args.reel.now.ledger.gates _ (omega arith) (omega (arith, made)) (c.requires.held told)

pub returns-in-Ok-clause-done : goal.returns-in-Ok-clause-done
returns-in-Ok-clause-done g c =
    served_as g.N.Work.job g.O.Work.job g.N.Work.files g.D.Disk.tells g.D.Disk.state g.E.Disk.tells g.E.Disk.state c.args.self.now.view.now c.args.at.adopted (half_of c.args.at).adopted tt _ c.args._old.now c.args._old.now c.args.reel.now c.adopt_frames.new.reel c.in-Ok.ensures.done
