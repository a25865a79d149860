use Rattle.std.proofs.Common.{◌≡◌, inl, refl, sym, ap, ◌∙◌, subst}
use Rattle.std.specs.Prelude.{Ok, Err}
use Rattle.cf_base.specs.declared.file.FileId.{FileId}
use Rattle.reel_disk.specs.Call.{OnlyWrites}
use Rattle.reel_disk.specs.Disk.{view_of}
use Rattle.reel_disk.proofs.Leaving.{disk_as}
use Rattle.reel_disk.proofs.Sparing.{spares_along, spares_wider}
use Rattle.reel_disk.proofs.Writing.{writing_then, writing_wider}
use Rattle.resume_ledger.specs.Ledger.{IsLedgerFile, IsWrittenLedgerFile}
use Rattle.resume_ledger.specs.declared.attach.OpenFault.TheVariants as cause
use Rattle.resume_ledger.proofs.Reading.{spares_writes, writes_along, reads_none}
use Rattle.reel_writer.specs.Changes.{IsOwnFile, MayWrite}
use Rattle.reel_writer.specs.inside.Changes.{IsUnfinishedFile}
use Rattle.reel_writer.proofs.ReelLaws.{reel_run_along}
use Rattle.reel_writer.proofs.Writing.{own_file, own_written, writes_wider}
use Rattle.reconform.specs.declared.adopting.AdoptFault.{AdoptFault}
use Rattle.reconform.specs.Adopt.{AdoptionMayWrite, IsOfOld, IsWhyUnadopted}
use Rattle.reconform.specs.inside.Adopt.{by_new}
use Rattle.reconform.proofs.Answering.{err_is, may_adopt, may_refuse, never_old, never_opened, new_disk, new_refused, opened_answer}
use Rattle.reconform.proofs.Going.{both_behind, new_asked}
use Rattle.reconform.proofs.Taking.{taken_opened, taken_opening}
use Rattle.reconform.proofs.adopting.adopt_owned.Goals as goal

pub returns-in-Ok-clause-answer : goal.returns-in-Ok-clause-answer
returns-in-Ok-clause-answer g c =
    opened_answer g.N.Work.job g.O.Work.job g.D.Disk.tells g.E.Disk.tells c.requires.tells c.args.view.now (g.D.Disk.state c.args.old.now).history (g.D.Disk.state c.adopt_opened.new.old).history
    (g.E.Disk.state c.args.disk).history (g.E.Disk.state c.adopt_opened.result.1).history c.in-Ok.reel c.requires.looked.viewed
    (λ told. record { fit = (c.in-Ok.ensures.answer told).fit; kept_are = (c.in-Ok.ensures.answer told).gates }) c.in-Ok.ensures.opening.1 c.adopt_opened.result.0 c.adopt_opened.ensures.answer

pub returns-in-Ok-clause-not_old : goal.returns-in-Ok-clause-not_old
returns-in-Ok-clause-not_old g c = never_opened g.N.Work.job g.O.Work.job g.D.Disk.tells g.E.Disk.tells _ _ _ _ c.adopt_opened.result.0 c.adopt_opened.ensures.answer

-- what it did to the new folder
pub returns-in-Ok-clause-safe : goal.returns-in-Ok-clause-safe
returns-in-Ok-clause-safe g c =
    let begun = c.in-Ok.ensures in
    let part = c.adopt_opened.ensures.part in
    let gates = c.in-Ok.reel.ledger.gates in
    let held = view_of (g.E.Disk.state c.args.disk).history in
    let own = IsOwnFile g.N.Work.job held in
    let may = MayWrite g.N.Work.job held in
    let mine = λ (q : FileId). may_adopt g.N.Work.job g.O.Work.job g.D.Disk.tells g.E.Disk.tells _ _ _ _ q c.adopt_opened.result.0 c.adopt_opened.ensures.answer in
    record {
      run = λ told. reel_run_along g.N.Work.job g.N.Work.files _ _ _ (begun.safe told).run (part.run told) (part.none_lost told);
      sound_has = begun.sound_has;
      spares = λ told. spares_along _ _ _ own (begun.safe told).run.extends (part.run told).extends (spares_wider _ _ IsLedgerFile own (λ q is. inl is) (begun.safe told).spares)
          (spares_wider _ _ (IsUnfinishedFile g.N.Work.job gates) own (own_file g.N.Work.job gates held (begun.answer told).gates) (part.spares told));
      writes = λ told. writes_along may _ _ _ (begun.safe told).run.extends (part.run told).extends (writes_wider _ _ IsWrittenLedgerFile may (λ q is. inl is) (begun.safe told).writes)
          (spares_writes may _ _ (spares_wider _ _ (IsUnfinishedFile g.N.Work.job gates) may (own_written g.N.Work.job gates held (begun.answer told).gates) (part.spares told)));
      own = writing_then (writing_wider (λ q is. mine q (inl is)) begun.own) (writing_wider mine part.own);
    }

pub returns-in-Err-clause-answer : goal.returns-in-Err-clause-answer
returns-in-Err-clause-answer g c =
    let h = (g.D.Disk.state c.args.old.now).history in
    subst (λ (e : AdoptFault). IsWhyUnadopted g.N.Work.job g.O.Work.job g.E.Disk.tells h h (g.E.Disk.state c.args.disk).history (g.E.Disk.state c.in-Err.disk).history e) (sym c.of_new.ensures)
    (new_refused g.N.Work.job g.O.Work.job g.E.Disk.tells h h (g.E.Disk.state c.args.disk).history (g.E.Disk.state c.in-Err.disk).history (λ told. (c.requires.looked.viewed (c.requires.tells ∙ told)).fit) c.in-Err.fault c.in-Err.ensures.known c.in-Err.ensures.answer)

pub returns-in-Err-clause-not_old : goal.returns-in-Err-clause-not_old
returns-in-Err-clause-not_old g c = subst (λ (e : AdoptFault). IsOfOld e → ⊥) (sym c.of_new.ensures) (never_old c.in-Err.fault)

pub returns-in-Ok-clause-disks : goal.returns-in-Ok-clause-disks
returns-in-Ok-clause-disks g c =
    both_behind (λ is. is) (λ is. is) refl (c.in-Ok.ensures.disk.counts.steady (λ same. cc)) refl c.in-Ok.ensures.disk.lent
    c.adopt_opened.ensures.disks

pub returns-in-Err-clause-reads : goal.returns-in-Err-clause-reads
returns-in-Err-clause-reads g c = reads_none

pub returns-in-Err-clause-disks : goal.returns-in-Err-clause-disks
returns-in-Err-clause-disks g c =
    new_asked (disk_as (λ is. ap Err (new_disk c.in-Err.fault (sym c.of_new.ensures ∙ err_is _ _ is)))
    (λ same. let is : c.in-Err.fault ≡ cause.DiskFault = cc in ap Err (c.of_new.ensures ∙ ap by_new is)) c.in-Err.ensures.disk)

pub returns-in-Err-clause-safe : goal.returns-in-Err-clause-safe
returns-in-Err-clause-safe g c =
    let begun = c.in-Err.ensures in
    let held = view_of (g.E.Disk.state c.args.disk).history in
    record {
      run = λ told. (begun.safe told).run;
      sound_has = begun.sound_has;
      spares = λ told. spares_wider _ _ IsLedgerFile (IsOwnFile g.N.Work.job held) (λ q is. inl is) (begun.safe told).spares;
      writes = λ told. writes_wider _ _ IsWrittenLedgerFile (MayWrite g.N.Work.job held) (λ q is. inl is) (begun.safe told).writes;
      own = subst (λ (e : AdoptFault). OnlyWrites (AdoptionMayWrite g.N.Work.job (Err e)) (g.E.Disk.state c.args.disk).calls (g.E.Disk.state c.in-Err.disk).calls) (sym c.of_new.ensures)
          (writing_wider (λ q. may_refuse g.N.Work.job q c.in-Err.fault) begun.own);
    }

-- the opening writes no file but the ledger's
pub returns-in-Ok-clause-taken : goal.returns-in-Ok-clause-taken
returns-in-Ok-clause-taken g c = taken_opened (Ok c.in-Ok.reel.ledger) c.in-Ok.ensures.own c.adopt_opened.ensures.taken

pub returns-in-Err-clause-taken : goal.returns-in-Err-clause-taken
returns-in-Err-clause-taken g c = taken_opening (Err c.in-Err.fault) c.in-Err.ensures.own
