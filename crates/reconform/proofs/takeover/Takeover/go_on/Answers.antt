use Rattle.std.proofs.Common.{rules, subst}
use Rattle.std.specs.Prelude.{IfOk}
use Rattle.reconform.specs.declared.whole.Reached.{Reached}
use Rattle.reconform.specs.inside.Parts.{HasServedTo, half_of}
use Rattle.reconform.proofs.Ranges.{served_along}
use Rattle.reconform.proofs.takeover.Takeover.go_on.Goals as goal

pub returns-in-Ok-clause-done : goal.returns-in-Ok-clause-done
returns-in-Ok-clause-done g c =
    served_along g.N.Work.job g.O.Work.job g.N.Work.files g.D.Disk.tells g.D.Disk.state g.E.Disk.tells g.E.Disk.state c.args.self.now.view.now c.args.at.adopted (half_of c.args.at).adopted c.args.at.made c.in-Ok.to c.adopt_rest.result c.args.old.now c.args.old.now c.adopt_rest.new.old c.args.reel.now c.adopt_half.new.reel c.adopt_rest.new.reel c.in-Ok.ensures.done
    (subst (λ (at : Reached). HasServedTo g.N.Work.job g.O.Work.job g.N.Work.files g.D.Disk.tells g.D.Disk.state g.E.Disk.tells g.E.Disk.state c.args.self.now.view.now at.adopted at.made c.adopt_rest.result c.args.old.now c.adopt_rest.new.old c.adopt_half.new.reel c.adopt_rest.new.reel) c.in-Ok.ensures.to.0 c.adopt_rest.ensures.done)
