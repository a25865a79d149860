use Rattle.std.proofs.Common.{ℕ, subst, sym, ◌∙◌}
use Rattle.reconform.specs.inside.Parts.{HasServedTo}
use Rattle.reconform.proofs.Asking.{from_along}
use Rattle.reconform.proofs.Dressing.{same_view}
use Rattle.reconform.proofs.Ranges.{served_along}
use Rattle.reconform.proofs.Serving.{if_ok}
use Rattle.reconform.proofs.Stepping.{under_way_along}
use Rattle.reconform.proofs.takeover.Takeover.go_on_twice.Goals as goal

pub go_on-requires-in-Ok-clause-under_way : goal.go_on-requires-in-Ok-clause-under_way
go_on-requires-in-Ok-clause-under_way g c = under_way_along (same_view c.in-Ok.ensures.done.reads) c.in-Ok.ensures.to.1

pub returns-in-Ok-clause-asks : goal.returns-in-Ok-clause-asks
returns-in-Ok-clause-asks g c =
    let mid = c.in-Ok.ensures.to.0 in
    from_along g.N.Work.job g.O.Work.job c.args.self.now.view.now _ c.args.at.read c.in-Ok.to.read c.go_on-in-Ok.result _ _ _ mid.read.later mid.read.within
    (if_ok c.go_on-in-Ok.result _ _ (λ to is. is.0.read.later) c.go_on-in-Ok.ensures.to) c.in-Ok.ensures.asks c.go_on-in-Ok.ensures.asks

pub returns-in-Ok-clause-done : goal.returns-in-Ok-clause-done
returns-in-Ok-clause-done g c =
    let to = c.in-Ok.to in
    let mid = c.in-Ok.ensures.to.0 in
    served_along g.N.Work.job g.O.Work.job g.N.Work.files g.D.Disk.tells g.D.Disk.state g.E.Disk.tells g.E.Disk.state c.args.self.now.view.now c.args.at.adopted c.args.at.made c.args.at.read to c.go_on-in-Ok.result c.args.old.now c.go_on.new.old c.go_on-in-Ok.new.old c.args.reel.now c.go_on.new.reel c.go_on-in-Ok.new.reel c.in-Ok.ensures.done
    (subst (λ (n : ℕ × ℕ). HasServedTo g.N.Work.job g.O.Work.job g.N.Work.files g.D.Disk.tells g.D.Disk.state g.E.Disk.tells g.E.Disk.state c.args.self.now.view.now n.0 n.1 c.go_on-in-Ok.result c.go_on.new.old c.go_on-in-Ok.new.old c.go_on.new.reel c.go_on-in-Ok.new.reel) (λ t. (mid.adopted t, mid.made t)) c.go_on-in-Ok.ensures.done)
