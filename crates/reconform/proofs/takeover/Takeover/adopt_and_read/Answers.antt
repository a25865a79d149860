use Rattle.std.proofs.Common.{◌∙◌}
use Rattle.reconform.proofs.Asking.{from_made}
use Rattle.reconform.proofs.Ranges.{served_then_read}
use Rattle.reconform.proofs.takeover.Takeover.adopt_and_read.Goals as goal

pub returns-in-Ok-clause-done : goal.returns-in-Ok-clause-done
returns-in-Ok-clause-done g c =
    served_then_read g.N.Work.job g.O.Work.job g.N.Work.files g.D.Disk.tells g.D.Disk.state g.E.Disk.tells g.E.Disk.state c.args.self.now.view.now c.args.at.adopted c.args.at.made tt c.read_ahead.result
    c.args.old.now c.args.old.now c.read_ahead.new.old c.args.reel.now c.adopt_frames.new.reel c.in-Ok.ensures.done c.read_ahead.ensures.reads (from_made g.N.Work.job g.O.Work.job c.args.self.now.view.now (λ n. n) _ c.read_ahead.result _ _ c.read_ahead.ensures.asks) c.read_ahead.ensures.disk
