-- The demonstration makes no call on the scan or the disk.
use Rattle.command_answers.proofs.Demos.{demo_replied}
use Rattle.command_answers.proofs.Replies.{replied_adopt, replied_look, replied_over, replied_run, replied_verify}
use Rattle.command_answers.proofs.Wholes.{adopt_replied, plan_replied, pull_replied, reel_replied}
use Rattle.std.proofs.Common.{refl, subst, sym}
use Rattle.project_run.specs.Quality.{IsQcReply}
use Rattle.project_run.specs.Run.{IsRunReply}
use Rattle.project_run.specs.Sheet.{IsSheetReply}
use Rattle.project_run.specs.Status.{IsStatusReply}
use Rattle.project_run.specs.Sums.{IsSumsReply}
use Rattle.project_run.specs.Verify.{IsVerifyReply}
use Rattle.command_words.specs.declared.command.Command.TheVariants as commands
use Rattle.command_answers.specs.Commands.Verify.{IsThroughOrDamaged}
use Rattle.command_answers.specs.Meaning.{IsThrough}
use Rattle.command_answers.specs.Reply.{CallsDisk, CallsOld}
use Rattle.command_answers.proofs.one_thread.carried_out.Goals as goal

pub returns-in-Demo-clause-reply : goal.returns-in-Demo-clause-reply
returns-in-Demo-clause-reply g c = demo_replied _ c.args.command.now c.in-Demo.count _ _ c.demo.result c.in-Demo.is c.demo.ensures

-- these commands make calls on the folder
pub returns-in-Run-clause-no_call : goal.returns-in-Run-clause-no_call
returns-in-Run-clause-no_call g c none = absurd (none (subst CallsDisk (sym c.in-Run.is) tt))

pub returns-in-Status-clause-no_call : goal.returns-in-Status-clause-no_call
returns-in-Status-clause-no_call g c none = absurd (none (subst CallsDisk (sym c.in-Status.is) tt))

pub returns-in-Verify-clause-no_call : goal.returns-in-Verify-clause-no_call
returns-in-Verify-clause-no_call g c none = absurd (none (subst CallsDisk (sym c.in-Verify.is) tt))

pub returns-in-Sums-clause-no_call : goal.returns-in-Sums-clause-no_call
returns-in-Sums-clause-no_call g c none = absurd (none (subst CallsDisk (sym c.in-Sums.is) tt))

pub returns-in-Qc-clause-no_call : goal.returns-in-Qc-clause-no_call
returns-in-Qc-clause-no_call g c none = absurd (none (subst CallsDisk (sym c.in-Qc.is) tt))

pub returns-in-Sheet-clause-no_call : goal.returns-in-Sheet-clause-no_call
returns-in-Sheet-clause-no_call g c none = absurd (none (subst CallsDisk (sym c.in-Sheet.is) tt))

pub returns-in-Adopt-clause-no_call : goal.returns-in-Adopt-clause-no_call
returns-in-Adopt-clause-no_call g c none = absurd (none (subst CallsDisk (sym c.in-Adopt.is) tt))

pub returns-in-Adopt-clause-no_old_call : goal.returns-in-Adopt-clause-no_old_call
returns-in-Adopt-clause-no_old_call g c none = absurd (none (subst CallsOld (sym c.in-Adopt.is) tt))

-- these make calls on the folder of the reel alone
pub returns-in-Run-clause-reply : goal.returns-in-Run-clause-reply
returns-in-Run-clause-reply g c =
    reel_replied _ (commands.Run _ _ _ _) _ _ (λ house. IsRunReply _ _ _) IsThrough refl (replied_run c.in-Run.project c.in-Run.extent c.in-Run.workers c.in-Run.share) (g.S.Scans.state c.args.scan.now) (g.S.Scans.state c.run.new.scan)
    g.D.Disk.tells g.D.Disk.state c.args.disk.now c.run.new.disk c.args.old.now
    c.args.command.now c.run.result c.in-Run.is c.run.ensures.folder c.run.ensures.kind c.run.ensures.scan c.run.ensures.disk

pub returns-in-Status-clause-reply : goal.returns-in-Status-clause-reply
returns-in-Status-clause-reply g c =
    reel_replied _ (commands.Status _) _ _ (λ house. IsStatusReply _) IsThrough refl (replied_look (commands.Status c.in-Status.project) tt) (g.S.Scans.state c.args.scan.now) (g.S.Scans.state c.status.new.scan)
    g.D.Disk.tells g.D.Disk.state c.args.disk.now c.status.new.disk c.args.old.now
    c.args.command.now c.status.result c.in-Status.is c.status.ensures.folder c.status.ensures.kind c.status.ensures.scan c.status.ensures.disk

pub returns-in-Verify-clause-reply : goal.returns-in-Verify-clause-reply
returns-in-Verify-clause-reply g c =
    reel_replied _ (commands.Verify _) _ _ (λ house. IsVerifyReply _) IsThroughOrDamaged refl (replied_verify c.in-Verify.project) (g.S.Scans.state c.args.scan.now) (g.S.Scans.state c.verify.new.scan)
    g.D.Disk.tells g.D.Disk.state c.args.disk.now c.verify.new.disk c.args.old.now
    c.args.command.now c.verify.result c.in-Verify.is c.verify.ensures.folder c.verify.ensures.kind c.verify.ensures.scan c.verify.ensures.disk

pub returns-in-Sums-clause-reply : goal.returns-in-Sums-clause-reply
returns-in-Sums-clause-reply g c =
    reel_replied _ (commands.Sums _) _ _ (λ house. IsSumsReply _) IsThrough refl (replied_look (commands.Sums c.in-Sums.project) tt) (g.S.Scans.state c.args.scan.now) (g.S.Scans.state c.sums.new.scan)
    g.D.Disk.tells g.D.Disk.state c.args.disk.now c.sums.new.disk c.args.old.now
    c.args.command.now c.sums.result c.in-Sums.is c.sums.ensures.folder c.sums.ensures.kind c.sums.ensures.scan c.sums.ensures.disk

pub returns-in-Qc-clause-reply : goal.returns-in-Qc-clause-reply
returns-in-Qc-clause-reply g c =
    reel_replied _ (commands.Qc _) _ _ (λ house. IsQcReply house.kinds _) IsThrough refl (replied_look (commands.Qc c.in-Qc.project) tt) (g.S.Scans.state c.args.scan.now) (g.S.Scans.state c.qc.new.scan)
    g.D.Disk.tells g.D.Disk.state c.args.disk.now c.qc.new.disk c.args.old.now
    c.args.command.now c.qc.result c.in-Qc.is c.qc.ensures.folder c.qc.ensures.kind c.qc.ensures.scan c.qc.ensures.disk

pub returns-in-Sheet-clause-reply : goal.returns-in-Sheet-clause-reply
returns-in-Sheet-clause-reply g c =
    reel_replied _ (commands.Sheet _) _ _ (λ house. IsSheetReply house.tone _) IsThrough refl (replied_look (commands.Sheet c.in-Sheet.project) tt) (g.S.Scans.state c.args.scan.now) (g.S.Scans.state c.sheet.new.scan)
    g.D.Disk.tells g.D.Disk.state c.args.disk.now c.sheet.new.disk c.args.old.now
    c.args.command.now c.sheet.result c.in-Sheet.is c.sheet.ensures.folder c.sheet.ensures.kind c.sheet.ensures.scan c.sheet.ensures.disk

-- these make none on a folder
pub returns-in-Plan-clause-reply : goal.returns-in-Plan-clause-reply
returns-in-Plan-clause-reply g c = plan_replied _ c.args.command.now _ _ _ _ c.plan.result c.in-Plan.is c.plan.ensures.reply

pub returns-in-Pull-clause-reply : goal.returns-in-Pull-clause-reply
returns-in-Pull-clause-reply g c =
    pull_replied _ c.args.command.now _ _ _ _ _ c.pull.result c.in-Pull.is c.pull.ensures.reply

-- the old folder and the new one keep their places
pub returns-in-Adopt-clause-reply : goal.returns-in-Adopt-clause-reply
returns-in-Adopt-clause-reply g c =
    adopt_replied _ c.args.command.now _ _ (g.S.Scans.state c.args.scan.now) (g.S.Scans.state c.adopt.new.scan) g.D.Disk.tells (g.D.Disk.state c.args.old.now) (g.D.Disk.state c.adopt.new.old) (g.D.Disk.state c.args.disk.now) (g.D.Disk.state c.adopt.new.disk)
    c.adopt.result c.in-Adopt.is
    (replied_over (commands.Adopt _ _) (g.S.Scans.state c.args.scan.now) (g.S.Scans.state c.adopt.new.scan) (replied_adopt c.in-Adopt.project c.in-Adopt.old_project) (λ reached output. tt) (λ reached. tt) c.adopt.result c.adopt.ensures.kind c.adopt.ensures.scan.lent c.adopt.ensures.scan.heads)
    c.adopt.ensures.folders c.adopt.ensures.disks

pub returns-in-Adopt-clause-untouched : goal.returns-in-Adopt-clause-untouched
returns-in-Adopt-clause-untouched g c = c.adopt.ensures.untouched

pub returns-in-Adopt-clause-old_untouched : goal.returns-in-Adopt-clause-old_untouched
returns-in-Adopt-clause-old_untouched g c = c.adopt.ensures.old_untouched

pub returns-in-Adopt-clause-disk_same : goal.returns-in-Adopt-clause-disk_same
returns-in-Adopt-clause-disk_same g c = c.adopt.ensures.disks.lent

pub returns-in-Adopt-clause-old_same : goal.returns-in-Adopt-clause-old_same
returns-in-Adopt-clause-old_same g c = c.adopt.ensures.disks.old_lent
