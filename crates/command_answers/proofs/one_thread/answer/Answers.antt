-- What was read of the words gives the answer, and the answer gives the headline and completeness.
use Rattle.std.proofs.Common.{map}
use Rattle.command_answers.specs.States.{folders_of, house_of}
use Rattle.command_answers.proofs.Answering.{answered_unread}
use Rattle.command_answers.proofs.Completes.{answered_complete, answered_unfailed}
use Rattle.command_answers.proofs.Headlines.{answered_adoption, answered_promise}
use Rattle.command_answers.proofs.one_thread.answer.Goals as goal

pub returns-clause-answered : goal.returns-clause-answered
returns-clause-answered g c = c.answer_found.ensures.answered _ c.in-Ok.ensures.command

pub returns-clause-headline : goal.returns-clause-headline
returns-clause-headline g c =
    answered_promise c.job_laws.ensures.job _ _ _ _ _ _ _ _ (c.answer_found.ensures.answered _ c.in-Ok.ensures.command)

pub returns-clause-adopted : goal.returns-clause-adopted
returns-clause-adopted g c =
    answered_adoption c.job_laws.ensures.job _ _ _ _ _ _ _ _ (c.answer_found.ensures.answered _ c.in-Ok.ensures.command)

pub returns-clause-complete : goal.returns-clause-complete
returns-clause-complete g c =
    answered_complete c.job_laws.ensures.job _ _ _ _ _ _ _ _ (c.answer_found.ensures.answered _ c.in-Ok.ensures.command)

pub returns-in_default-clause-answered : goal.returns-in_default-clause-answered
returns-in_default-clause-answered g c =
    answered_unread {house = house_of (map (λ p. p.kind) c.args.probes.now) c.args.tone.now.table} _ (g.S.Scans.state c.args.scan.now) (folders_of g.D.Disk.tells (g.D.Disk.state c.args.disk.now) (g.D.Disk.state c.args.old.now)) _ _ _ c.put_line.ensures.put

pub returns-in_default-clause-headline : goal.returns-in_default-clause-headline
returns-in_default-clause-headline g c =
    answered_promise {house = house_of (map (λ p. p.kind) c.args.probes.now) c.args.tone.now.table} c.job_laws.ensures.job _ _ _ _ _ _ _ _
    (answered_unread _ (g.S.Scans.state c.args.scan.now) (folders_of g.D.Disk.tells (g.D.Disk.state c.args.disk.now) (g.D.Disk.state c.args.old.now)) _ _ _ c.put_line.ensures.put)

pub returns-in_default-clause-adopted : goal.returns-in_default-clause-adopted
returns-in_default-clause-adopted g c =
    answered_adoption {house = house_of (map (λ p. p.kind) c.args.probes.now) c.args.tone.now.table} c.job_laws.ensures.job _ _ _ _ _ _ _ _
    (answered_unread _ (g.S.Scans.state c.args.scan.now) (folders_of g.D.Disk.tells (g.D.Disk.state c.args.disk.now) (g.D.Disk.state c.args.old.now)) _ _ _ c.put_line.ensures.put)

pub returns-in_default-clause-complete : goal.returns-in_default-clause-complete
returns-in_default-clause-complete g c =
    answered_complete {house = house_of (map (λ p. p.kind) c.args.probes.now) c.args.tone.now.table} c.job_laws.ensures.job _ _ _ _ _ _ _ _
    (answered_unread _ (g.S.Scans.state c.args.scan.now) (folders_of g.D.Disk.tells (g.D.Disk.state c.args.disk.now) (g.D.Disk.state c.args.old.now)) _ _ _ c.put_line.ensures.put)

pub returns-clause-unfailed : goal.returns-clause-unfailed
returns-clause-unfailed g c =
    answered_unfailed _ _ _ _ _ _ _ _ (c.answer_found.ensures.answered _ c.in-Ok.ensures.command)

pub returns-in_default-clause-unfailed : goal.returns-in_default-clause-unfailed
returns-in_default-clause-unfailed g c =
    answered_unfailed {house = house_of (map (λ p. p.kind) c.args.probes.now) c.args.tone.now.table} _ _ _ _ _ _ _ _
    (answered_unread _ (g.S.Scans.state c.args.scan.now) (folders_of g.D.Disk.tells (g.D.Disk.state c.args.disk.now) (g.D.Disk.state c.args.old.now)) _ _ _ c.put_line.ensures.put)

pub returns-clause-no_call : goal.returns-clause-no_call
returns-clause-no_call g c = (c.answer_found.ensures.uncalled _ c.in-Ok.ensures.command).reel

pub returns-clause-no_old_call : goal.returns-clause-no_old_call
returns-clause-no_old_call g c = (c.answer_found.ensures.uncalled _ c.in-Ok.ensures.command).old

pub returns-clause-unread : goal.returns-clause-unread
returns-clause-unread g c = c.answer_found.ensures.unread _ c.in-Ok.ensures.command

pub returns-clause-untouched : goal.returns-clause-untouched
returns-clause-untouched g c = c.answer_found.ensures.folders.reel

pub returns-clause-old_untouched : goal.returns-clause-old_untouched
returns-clause-old_untouched g c = c.answer_found.ensures.folders.old

pub returns-clause-disk_same : goal.returns-clause-disk_same
returns-clause-disk_same g c = c.answer_found.ensures.folders.reel_lent

pub returns-clause-old_same : goal.returns-clause-old_same
returns-clause-old_same g c = c.answer_found.ensures.folders.old_lent
