use Rattle.std.proofs.Common.{◌≡◌, rules, ◌∙◌, ◌≤◌, ℕ, List, [], Vec, ap, arith, inl, inr, min, refl, sym, subst, vec_len}
use Rattle.std.specs.declared.alloc.Global.{Global}
use Rattle.reel_disk.specs.Call.{Call, OnlyWrites}
use Rattle.reel_disk.proofs.Writing.{writing_wider}
use Rattle.render_board.specs.History.{first_why, is_disk, stops_of}
use Rattle.run_crew.specs.Crews.{AreWorked, TookSteps, WasUnmade, log_of}
use Rattle.reel_writer.specs.Reel.{IsRunFile}
use Rattle.reel_writer.specs.View.{ReelView}
use Rattle.run_alone.specs.Run.{RunMayWrite, WasUnopened}
use Rattle.run_alone.specs.Safe.{IsSafeRun}
use Rattle.run_alone.proofs.Opening.{opening_keeps}
use Rattle.run_alone.proofs.Ranging.{may_open}
use Rattle.reel_disk.specs.State.{folder_state}
use Rattle.frame_fetch.specs.declared.run_end.RunEnd.{RunEnd}
use Rattle.frame_fetch.specs.declared.run_end.RunEnd.TheVariants as ends
use Rattle.run_alone.proofs.Closing.{was_refused}
use Rattle.run_crew.proofs.Crewing.{by_steps, crew_disk, crew_keeps, crewed, disk_by_steps, stepless, was_unmade, with_steps}
use Rattle.run_crew.proofs.Gathering.{end_disk, unworked}
use Rattle.station.proofs.Opening.{beginning}
use Rattle.run_crew.proofs.crew.run_crew.Goals as goal

pub run_opened-requires-clause-beginning : goal.run_opened-requires-clause-beginning
run_opened-requires-clause-beginning g c κs within =
    beginning g.N.Work.job g.N.Work.files g.N.Start.start g.D.Disk.tells g.D.Disk.state c.args.disk c.in-Ok.reel (log_of c.in-Ok.reel.ledger.gates c.args.task.now.range.low c.args.task.now.range.high c.min-workers.result []) c.args.task.now.range.low c.args.task.now.range.high c.min-workers.result
    c.requires.disk.start c.requires.disk.moment c.requires.disk.faults (λ told. (c.in-Ok.ensures.safe told).run) (λ told. (c.in-Ok.ensures.safe told).spares) (λ told. (c.in-Ok.ensures.safe told).writes) c.in-Ok.ensures.answer c.in-Ok.ensures.known c.in-Ok.ensures.opening
    (c.in-Ok.ensures.disk.counts.steady (λ e. cc)) refl

pub run_opened-requires-clause-workers : goal.run_opened-requires-clause-workers
run_opened-requires-clause-workers g c κs within =
    let least = c.min-workers.ensures in
    let len = c.len.ensures in
    let some = c.requires.scans.0 in
    let asked = c.requires.workers.0 in
    let few = c.requires.scans.1 in
    (omega (arith, least, len, some, asked), omega (arith, least, len), few)

pub run_opened-requires-clause-blanks : goal.run_opened-requires-clause-blanks
run_opened-requires-clause-blanks g c κs within = record { source = search rules; disk = search rules; memory = search rules; changed = search rules; misses = search rules; claims = search rules }

pub run_opened-requires-clause-own : goal.run_opened-requires-clause-own
run_opened-requires-clause-own g c κs within =
    subst (λ (calls : List Call). OnlyWrites (IsRunFile g.N.Work.job c.args.task.now.range.low c.args.task.now.range.high) calls (g.D.Disk.state c.in-Ok.reel.disk).calls) (sym c.requires.disk.made) (writing_wider (λ q own. inl own) c.in-Ok.ensures.own)

-- the folder was not opened
pub returns-in-Err-clause-scans : goal.returns-in-Err-clause-scans
returns-in-Err-clause-scans g c =
    unworked g.S.Scans.state _ _ _ _ _ (ap (λ (v : Vec _ Global). v.items) c.unmade.ensures.scans) c.unmade.ensures.loads.0
    (λ is. c.end_of_opening.ensures.refused.1 (sym c.unmade.ensures.end ∙ is))

pub returns-in-Err-clause-ran : goal.returns-in-Err-clause-ran
returns-in-Err-clause-ran g c =
    let made = c.unmade.ensures in
    let was = was_refused g.N.Work.job g.D.Disk.tells (g.D.Disk.state c.args.disk).history (g.D.Disk.state c.in-Err.disk).history c.in-Err.fault _ _ _ (made.end ∙ c.end_of_opening.ensures.end) c.in-Err.ensures.known c.in-Err.ensures.answer (λ told. (c.in-Err.ensures.safe told).adds_none) made.kept made.loads made.log in
    let crew = c.unmade.result in
    stepless g.N.Work.job c.args.task.now.range.low c.args.task.now.range.high g.N.Work.files (min c.args.workers (vec_len c.args.scans)) c.args.task.now.share g.D.Disk.tells (g.D.Disk.state c.args.disk).history (g.D.Disk.state crew.disk).history crew made.history
    (inl (subst (λ d. WasUnopened g.N.Work.job g.D.Disk.tells (g.D.Disk.state c.args.disk).history (g.D.Disk.state d).history crew.end crew.report crew.log) (sym made.disk) was))

pub returns-in-Err-clause-keeps : goal.returns-in-Err-clause-keeps
returns-in-Err-clause-keeps g c =
    let made = c.unmade.ensures in
    let low = c.args.task.now.range.low in
    let high = c.args.task.now.range.high in
    let before = g.D.Disk.state c.args.disk in
    let after = g.D.Disk.state c.in-Err.disk in
    let refused = c.in-Err.ensures in
    let how = made.end ∙ c.end_of_opening.ensures.end in
    subst (λ d. IsSafeRun g.N.Work.job c.args.task.now.range g.N.Work.files c.unmade.result.end (folder_state g.D.Disk.tells before) (folder_state g.D.Disk.tells (g.D.Disk.state d))) (sym made.disk)
    (opening_keeps g.N.Work.job c.args.task.now.range g.N.Work.files g.D.Disk.tells before after _ (λ done. c.end_of_opening.ensures.refused.0 (sym made.end ∙ done)) refused.safe refused.sound_has
    (subst (λ (end : RunEnd). OnlyWrites (RunMayWrite g.N.Work.job low high end) before.calls after.calls) (sym how)
    (writing_wider (λ q. may_open g.N.Work.job low high q c.in-Err.fault) refused.own)))

-- it was, and no memory was left to begin with
pub returns-in-Err-run_opened-clause-keeps : goal.returns-in-Err-run_opened-clause-keeps
returns-in-Err-run_opened-clause-keeps g c =
    let made = c.unmade-in-Err-run_opened.ensures in
    let begun = c.in-Ok.ensures in
    let before = g.D.Disk.state c.args.disk in
    let after = g.D.Disk.state c.in-Ok.reel.disk in
    let back = made.disk ∙ c.close.ensures ∙ ap (λ (r : ReelView _). r.disk) c.in-Err-run_opened.ensures.unmade.1 in
    subst (λ d. IsSafeRun g.N.Work.job c.args.task.now.range g.N.Work.files c.unmade-in-Err-run_opened.result.end (folder_state g.D.Disk.tells before) (folder_state g.D.Disk.tells (g.D.Disk.state d))) (sym back)
    (opening_keeps g.N.Work.job c.args.task.now.range g.N.Work.files g.D.Disk.tells before after _ (λ done. let same = sym made.end ∙ done in cc) begun.safe begun.sound_has
    (subst (λ (end : RunEnd). OnlyWrites (RunMayWrite g.N.Work.job c.args.task.now.range.low c.args.task.now.range.high end) before.calls after.calls) (sym made.end)
    (writing_wider (λ q own. inl own) begun.own)))

pub returns-in-Err-run_opened-clause-ran : goal.returns-in-Err-run_opened-clause-ran
returns-in-Err-run_opened-clause-ran g c =
    let made = c.unmade-in-Err-run_opened.ensures in
    let was = was_unmade g.N.Work.job g.D.Disk.tells (g.D.Disk.state c.args.disk).history (g.D.Disk.state c.in-Ok.reel.disk).history c.in-Ok.reel.ledger _ _ _ c.in-Ok.ensures.answer c.in-Ok.ensures.known made.end made.kept made.loads made.log in
    let crew = c.unmade-in-Err-run_opened.result in
    stepless g.N.Work.job c.args.task.now.range.low c.args.task.now.range.high g.N.Work.files (min c.args.workers (vec_len c.args.scans)) c.args.task.now.share g.D.Disk.tells (g.D.Disk.state c.args.disk).history (g.D.Disk.state crew.disk).history crew made.history
    (inr (subst (λ d. WasUnmade g.N.Work.job g.D.Disk.tells (g.D.Disk.state c.args.disk).history (g.D.Disk.state d).history crew.end crew.report crew.log) (sym (made.disk ∙ c.close.ensures ∙ ap (λ (r : ReelView _). r.disk) c.in-Err-run_opened.ensures.unmade.1)) was))

pub returns-in-Err-run_opened-clause-scans : goal.returns-in-Err-run_opened-clause-scans
returns-in-Err-run_opened-clause-scans g c =
    unworked g.S.Scans.state _ _ _ _ _ (ap (λ (v : Vec _ Global). v.items) (c.unmade-in-Err-run_opened.ensures.scans ∙ c.in-Err-run_opened.ensures.unmade.0)) c.unmade-in-Err-run_opened.ensures.loads.0
    (λ is. let same = sym c.unmade-in-Err-run_opened.ensures.end ∙ is in cc)

-- the run
pub returns-in-Ok-run_opened-clause-keeps : goal.returns-in-Ok-run_opened-clause-keeps
returns-in-Ok-run_opened-clause-keeps g c =
    let crew = c.in-Ok-run_opened.crew in
    let ran = c.in-Ok-run_opened.ensures.ran in
    let own = subst (λ (calls : List Call). OnlyWrites (IsRunFile g.N.Work.job c.args.task.now.range.low c.args.task.now.range.high) calls (g.D.Disk.state crew.disk).calls) c.requires.disk.made ran.own in
    with_steps crew.history _ _ ran.some ran.made (λ steps made.
    crew_keeps g.N.Work.job c.args.task.now.range g.N.Work.files c.min-workers.result g.N.Start.start g.D.Disk.tells g.D.Disk.state c.args.disk crew.disk steps crew.end crew.report
    c.requires.disk.start c.requires.disk.moment made c.in-Ok.ensures.sound_has ran.acked own)

pub returns-in-Ok-run_opened-clause-ran : goal.returns-in-Ok-run_opened-clause-ran
returns-in-Ok-run_opened-clause-ran g c =
    let least = c.min-workers.ensures in
    let len = c.len.ensures in
    let threads : c.min-workers.result ≡ min c.args.workers (vec_len c.args.scans) = omega (arith, least, len) in
    let crew = c.in-Ok-run_opened.crew in
    by_steps crew.history _ _ _ c.in-Ok-run_opened.ensures.ran.some c.in-Ok-run_opened.ensures.ran.made (λ steps made.
    subst (λ (n : ℕ). TookSteps g.N.Work.job c.args.task.now.range.low c.args.task.now.range.high g.N.Work.files n c.args.task.now.share g.D.Disk.tells (g.D.Disk.state c.args.disk).history (g.D.Disk.state crew.disk).history steps crew.end crew.report crew.log) threads
    (crewed g.N.Work.job c.args.task.now.range.low c.args.task.now.range.high g.N.Work.files c.min-workers.result g.N.Start.start g.D.Disk.tells g.D.Disk.state c.args.disk crew.disk steps crew.end crew.report
    c.requires.disk.start c.requires.disk.moment made (λ told. (c.in-Ok.ensures.answer told).fit) c.args.task.now.share crew.log c.in-Ok-run_opened.ensures.ran.shared))

pub returns-in-Ok-run_opened-clause-scans : goal.returns-in-Ok-run_opened-clause-scans
returns-in-Ok-run_opened-clause-scans g c =
    let least = c.min-workers.ensures in
    let len = c.len.ensures in
    let threads : c.min-workers.result ≡ min c.args.workers (vec_len c.args.scans) = omega (arith, least, len) in
    let crew = c.in-Ok-run_opened.crew in
    subst (λ n. AreWorked g.S.Scans.state n crew.report.loads (crew.end ≡ ends.SourceFault) c.args.scans.items crew.scans.items) threads c.in-Ok-run_opened.ensures.scans

pub returns-in-Ok-run_opened-clause-failed : goal.returns-in-Ok-run_opened-clause-failed
returns-in-Ok-run_opened-clause-failed g c failed =
    by_steps c.in-Ok-run_opened.crew.history (c.in-Ok-run_opened.crew.end ≡ ends.DiskFault) _ (λ steps. 1 ≤ stops_of is_disk steps) c.in-Ok-run_opened.ensures.ran.some c.in-Ok-run_opened.ensures.ran.made (λ steps made.
    end_disk steps (first_why steps) refl (sym made.ends ∙ failed))

pub returns-in-Ok-run_opened-clause-disk : goal.returns-in-Ok-run_opened-clause-disk
returns-in-Ok-run_opened-clause-disk g c =
    let crew = c.in-Ok-run_opened.crew in
    disk_by_steps crew.history crew.end _ c.in-Ok-run_opened.ensures.ran.some c.in-Ok-run_opened.ensures.ran.made (λ steps made.
    crew_disk g.N.Work.job c.args.task.now.range.low c.args.task.now.range.high g.N.Work.files c.min-workers.result g.N.Start.start g.D.Disk.tells g.D.Disk.state c.args.disk crew.disk steps crew.end crew.report
    c.requires.disk.start c.requires.disk.moment made c.requires.disk.faults (c.in-Ok-run_opened.ensures.ran.lent ∙ c.requires.disk.lent))
