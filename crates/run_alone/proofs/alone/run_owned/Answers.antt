use Rattle.std.proofs.Common.{◌≡◌, true, inl, inr, refl, ◌∙◌, ap, sym, subst}
use Rattle.std.specs.Prelude.{Err}
use Rattle.reel_disk.specs.Disk.{view_of}
use Rattle.reel_disk.proofs.Leaving.{disk_as, disk_then}
use Rattle.cf_base.specs.declared.file.FileId.{FileId}
use Rattle.reel_disk.specs.Call.{OnlyWrites}
use Rattle.reel_disk.proofs.Writing.{writing_then, writing_wider}
use Rattle.reel_disk.proofs.Sparing.{spares_along, spares_wider}
use Rattle.resume_ledger.specs.Ledger.{IsLedgerFile, IsWrittenLedgerFile}
use Rattle.resume_ledger.specs.declared.attach.OpenFault.TheVariants as open_fault
use Rattle.resume_ledger.proofs.Reading.{spares_writes, writes_along}
use Rattle.run_alone.specs.Run.{IsOwnFileOf, MayWriteOf, RunMayWrite}
use Rattle.run_alone.specs.inside.Run.{IsRangeFile}
use Rattle.run_alone.proofs.Opening.{opening_keeps}
use Rattle.run_alone.proofs.Ranging.{may_open, may_run, own_of, written_of}
use Rattle.reel_writer.proofs.ReelLaws.{reel_run_along}
use Rattle.reel_writer.proofs.Writing.{opened_has, writes_wider}
use Rattle.frame_fetch.specs.declared.run_end.RunEnd.{RunEnd}
use Rattle.run_alone.specs.Ends.{refused_by}
use Rattle.run_alone.proofs.Closing.{refused_disk, rest_of, was_refused, whole_reel}
use Rattle.run_alone.proofs.alone.run_owned.Goals as goal

pub returns-in-Ok-clause-ran : goal.returns-in-Ok-clause-ran
returns-in-Ok-clause-ran g c =
    let ran = c.run_opened-end.ensures.ran in
    inl (record {
      gates = c.in-Ok.reel.ledger.gates;
      size = c.in-Ok.ensures.known.size;
      opening = λ told k. (c.in-Ok.ensures.answer told).gates k;
      fit = λ told. (c.in-Ok.ensures.answer told).fit;
      is_end = ran.is_end;
      kept = c.run_opened-end.ensures.kept ∙ c.in-Ok.ensures.opening.1;
      rest = λ done. rest_of g.N.Work.job c.args.task.now.range.low c.args.task.now.range.high c.in-Ok.reel.ledger.gates _ _ c.run_opened-end.result.2 ran.finished done;
      finished = ran.finished;
      shared = ran.shared;
      exit = ran.exit;
    })

-- what the opening keeps, and then what the run over the open reel does
pub returns-in-Ok-clause-keeps : goal.returns-in-Ok-clause-keeps
returns-in-Ok-clause-keeps g c =
    let low = c.args.task.now.range.low in
    let high = c.args.task.now.range.high in
    let gates = c.in-Ok.reel.ledger.gates in
    let before = (g.D.Disk.state c.args.disk).history in
    let own = IsOwnFileOf g.N.Work.job low high (view_of before) in
    let may = MayWriteOf g.N.Work.job low high (view_of before) in
    let mine = λ (q : FileId). may_run g.N.Work.job low high q g.N.Work.files c.run_opened-end.result.0 c.run_opened-end.ensures.ran.is_end in
    let begun = c.in-Ok.ensures in
    let ran = c.run_opened-end.ensures.ran in
    let all = λ (told : g.D.Disk.tells ≡ true).
    let opened = opened_has g.N.Work.job (g.D.Disk.state c.in-Ok.reel.disk).history c.in-Ok.reel.ledger (begun.answer told).agrees in
    reel_run_along g.N.Work.job g.N.Work.files _ _ _ (begun.safe told).run (ran.run told) ((ran.run told).keeps opened) in
    record {
      run = all;
      acked = ran.acked;
      whole = λ done told. whole_reel g.N.Work.job low high g.N.Work.files before (g.D.Disk.state c.run_opened-end.result.4).history (all told) (ran.acked done told);
      sound_has = begun.sound_has;
      spares = λ told.
          spares_along _ _ _ own (begun.safe told).run.extends (ran.run told).extends
          (spares_wider _ _ IsLedgerFile own (λ q is. inl is) (begun.safe told).spares)
          (spares_wider _ _ (IsRangeFile g.N.Work.job low high gates) own (own_of g.N.Work.job low high gates (view_of before) (begun.answer told).gates) (ran.spares told));
      writes = λ told.
          writes_along may _ _ _ (begun.safe told).run.extends (ran.run told).extends
          (writes_wider _ _ IsWrittenLedgerFile may (λ q is. inl is) (begun.safe told).writes)
          (spares_writes may _ _ (spares_wider _ _ (IsRangeFile g.N.Work.job low high gates) may
          (written_of g.N.Work.job low high gates (view_of before) (begun.answer told).gates) (ran.spares told)));
      own = writing_then (writing_wider (λ q is. mine q (inl is)) begun.own) (writing_wider mine ran.own);
    }

pub returns-in-Err-clause-ran : goal.returns-in-Err-clause-ran
returns-in-Err-clause-ran g c =
    inr (was_refused g.N.Work.job g.D.Disk.tells (g.D.Disk.state c.args.disk).history (g.D.Disk.state c.in-Err.disk).history c.in-Err.fault _ _ _ c.end_of_opening.ensures.end c.in-Err.ensures.known c.in-Err.ensures.answer (λ told. (c.in-Err.ensures.safe told).adds_none) (refl, refl) (refl, refl) c.requires.unasked)

-- a folder that isn't opened is what its opening left
pub returns-in-Err-clause-keeps : goal.returns-in-Err-clause-keeps
returns-in-Err-clause-keeps g c =
    let low = c.args.task.now.range.low in
    let high = c.args.task.now.range.high in
    let before = g.D.Disk.state c.args.disk in
    let after = g.D.Disk.state c.in-Err.disk in
    let refused = c.in-Err.ensures in
    opening_keeps g.N.Work.job c.args.task.now.range g.N.Work.files g.D.Disk.tells before after _ c.end_of_opening.ensures.refused.0 refused.safe refused.sound_has
    (subst (λ (end : RunEnd). OnlyWrites (RunMayWrite g.N.Work.job low high end) before.calls after.calls) (sym c.end_of_opening.ensures.end)
    (writing_wider (λ q. may_open g.N.Work.job low high q c.in-Err.fault) refused.own))

-- a fault of the disk is told
pub returns-in-Ok-clause-disk : goal.returns-in-Ok-clause-disk
returns-in-Ok-clause-disk g c = disk_then (λ same. cc) c.in-Ok.ensures.disk c.run_opened-end.ensures.disk

pub returns-in-Err-clause-disk : goal.returns-in-Err-clause-disk
returns-in-Err-clause-disk g c =
    disk_as (λ same. ap Err (refused_disk _ (sym c.end_of_opening.ensures.end ∙ same))) (λ same. let is : c.in-Err.fault ≡ open_fault.DiskFault = cc in c.end_of_opening.ensures.end ∙ ap refused_by is) c.in-Err.ensures.disk

-- what is said of the end is the open run's
pub returns-in-Ok-clause-changed : goal.returns-in-Ok-clause-changed
returns-in-Ok-clause-changed g c = c.run_opened-end.ensures.changed

pub returns-in-Ok-clause-scan : goal.returns-in-Ok-clause-scan
returns-in-Ok-clause-scan g c = c.run_opened-end.ensures.scan
