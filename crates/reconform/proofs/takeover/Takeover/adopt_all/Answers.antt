use Rattle.reconform.proofs.Going.{both_itself}
use Rattle.reconform.proofs.Ranges.{all_served}
use Rattle.reconform.proofs.Serving.{adopted_none}
use Rattle.reconform.proofs.takeover.Takeover.adopt_all.Goals as goal

pub returns-in-Ok-clause-adopted : goal.returns-in-Ok-clause-adopted
returns-in-Ok-clause-adopted g c = all_served g.N.Work.job g.O.Work.job g.N.Work.files g.D.Disk.tells g.D.Disk.state g.E.Disk.tells g.E.Disk.state c.args.self.now.view.now c.args.old.now c.adopt_each.new.old c.args.reel.now c.adopt_each.new.reel c.in-Ok.ensures.asks c.in-Ok.ensures.done

-- no room
pub returns-then-is_empty-clause-adopted : goal.returns-then-is_empty-clause-adopted
returns-then-is_empty-clause-adopted g c = adopted_none g.N.Work.job g.O.Work.job g.N.Work.files g.D.Disk.tells g.D.Disk.state g.E.Disk.tells g.E.Disk.state c.args.self.now.view.now c.args.old.now c.args.reel.now

pub returns-then-is_empty-clause-disks : goal.returns-then-is_empty-clause-disks
returns-then-is_empty-clause-disks g c = both_itself (λ is. cc)
