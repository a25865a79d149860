use Rattle.std.proofs.Common.{rules, ◌≡◌, ◌≤◌, inl, inr, ℕ, List, length, refl, sym, ap, ◌∙◌, subst}
use Rattle.std.specs.Prelude.{Ok, Err}
use Rattle.conform_job.specs.Job.{JobData}
use Rattle.record_timeline.specs.Accepted.{RecordReel, frame_count}
use Rattle.reel_disk.specs.Disk.{view_of}
use Rattle.reel_disk.proofs.Leaving.{disk_as}
use Rattle.reel_disk.proofs.Sparing.{spares_itself}
use Rattle.reel_disk.proofs.Writing.{writing_none}
use Rattle.resume_ledger.specs.Attach.{IsRefused, IsRefusalFor}
use Rattle.resume_ledger.specs.declared.attach.OpenFault.TheVariants as cause
use Rattle.resume_ledger.specs.Calls.{Looks}
use Rattle.resume_ledger.specs.Look.{IsViewOf}
use Rattle.resume_ledger.proofs.Reading.{spares_writes, reads_along}
use Rattle.frame_render.proofs.Sizes.{length-frame_file}
use Rattle.reel_writer.specs.Changes.{IsOwnFile, MayWrite}
use Rattle.reel_writer.specs.Reel.{frames_of}
use Rattle.reel_writer.proofs.ReelLaws.{reel_run_itself, sound_has}
use Rattle.reconform.specs.declared.adopting.AdoptFault.{AdoptFault}
use Rattle.reconform.specs.Adopt.{IsWhyUnadopted}
use Rattle.reconform.specs.inside.Adopt.{by_old}
use Rattle.reconform.proofs.Answering.{answered_along, err_is, never_touched, old_disk, old_refused}
use Rattle.reconform.proofs.Going.{both_behind, looked_along, old_asked}
use Rattle.reconform.proofs.adopting.adopt_into.Goals as goal

-- the old folder was refused
pub returns-in-Err-clause-answer : goal.returns-in-Err-clause-answer
returns-in-Err-clause-answer g c =
    let h = (g.D.Disk.state c.args.old.now).history in
    let after = (g.D.Disk.state c.look.new.disk).history in
    let disk = (g.E.Disk.state c.args.disk).history in
    let digest = c.digest.ensures ∙ ap (λ (job : JobData). job.parts.digest) c.requires.old_job in
    let count = c.count.ensures.count ∙ ap (λ (t : RecordReel). frame_count t.events) c.timeline.ensures ∙ ap frames_of c.requires.old_job in
    subst (λ (e : AdoptFault). IsWhyUnadopted g.N.Work.job g.O.Work.job g.E.Disk.tells h after disk disk e) (sym c.of_old.ensures)
    (old_refused g.N.Work.job g.O.Work.job g.E.Disk.tells h after disk disk c.in-Err.fault (subst (λ (d : List ℕ). IsRefusalFor d c.in-Err.fault) digest c.in-Err.ensures.known)
    (λ told. subst (λ n. IsRefused g.O.Work.job.parts.digest n h after c.in-Err.fault) count (subst (λ (d : List ℕ). IsRefused d c.count.result h after c.in-Err.fault) digest (c.in-Err.ensures.answer (c.requires.tells ∙ told)))))

pub returns-in-Err-clause-disks : goal.returns-in-Err-clause-disks
returns-in-Err-clause-disks g c =
    old_asked (disk_as (λ is. ap Err (old_disk c.in-Err.fault (sym c.of_old.ensures ∙ err_is _ _ is)))
    (λ same. let is : c.in-Err.fault ≡ cause.DiskFault = cc in ap Err (c.of_old.ensures ∙ ap by_old is)) c.in-Err.ensures.disk)

-- it was looked at
pub adopt_owned-requires-clause-looked : goal.adopt_owned-requires-clause-looked
adopt_owned-requires-clause-looked g c =
    let h = (g.D.Disk.state c.args.old.now).history in
    let digest = c.digest.ensures ∙ ap (λ (job : JobData). job.parts.digest) c.requires.old_job in
    let count = c.count.ensures.count ∙ ap (λ (t : RecordReel). frame_count t.events) c.timeline.ensures ∙ ap frames_of c.requires.old_job in
    looked_along g.N.Work.job g.O.Work.job g.D.Disk.tells h (g.D.Disk.state c.look.new.disk).history c.in-Ok.ensures.reads.still g.N.Work.files c.in-Ok.view
    (record {
      can_serve = c.requires.can_serve;
      viewed = λ told. subst (λ n. IsViewOf g.O.Work.job.parts.digest n (view_of h) c.in-Ok.view) count (subst (λ (d : List ℕ). IsViewOf d c.count.result (view_of h) c.in-Ok.view) digest (c.in-Ok.ensures.answer told));
      flags = c.in-Ok.ensures.known ∙ count;
    })

pub returns-in-Ok-clause-answer : goal.returns-in-Ok-clause-answer
returns-in-Ok-clause-answer g c =
    answered_along g.N.Work.job g.O.Work.job g.E.Disk.tells (g.D.Disk.state c.args.old.now).history (g.D.Disk.state c.look.new.disk).history (g.D.Disk.state c.adopt_owned.new.old).history (λ told. c.in-Ok.ensures.reads.still (c.requires.tells ∙ told))
    (g.E.Disk.state c.args.disk).history (g.E.Disk.state c.adopt_owned.result.1).history c.adopt_owned.result.0 c.adopt_owned.ensures.not_old c.adopt_owned.ensures.answer

pub returns-in-Ok-clause-untouched : goal.returns-in-Ok-clause-untouched
returns-in-Ok-clause-untouched g c = never_touched c.adopt_owned.result.0 _ c.adopt_owned.ensures.not_old

pub returns-in-Ok-clause-reads : goal.returns-in-Ok-clause-reads
returns-in-Ok-clause-reads g c = reads_along c.in-Ok.ensures.reads c.adopt_owned.ensures.reads

pub returns-in-Ok-clause-disks : goal.returns-in-Ok-clause-disks
returns-in-Ok-clause-disks g c =
    both_behind (λ is. is) (λ is. is) (c.in-Ok.ensures.disk.counts.steady (λ same. cc)) refl c.in-Ok.ensures.disk.lent refl
    c.adopt_owned.ensures.disks

pub returns-in-Err-clause-safe : goal.returns-in-Err-clause-safe
returns-in-Err-clause-safe g c =
    let here : length c.args.new_job.now.parts.project.title ≤ 199 = search rules in
    let held = (g.E.Disk.state c.args.disk).history in
    let may = MayWrite g.N.Work.job (view_of held) in
    record {
      run = λ told. reel_run_itself g.N.Work.job g.N.Work.files held;
      sound_has = sound_has g.N.Work.job (length-frame_file g.N.Work.job (subst (λ (job : JobData). length job.parts.project.title ≤ 199) c.requires.new_job here));
      spares = λ told. spares_itself held (IsOwnFile g.N.Work.job (view_of held));
      writes = λ told. spares_writes may _ _ (spares_itself held may);
      own = writing_none;
    }

-- over every disk the look gave no view, and nothing was asked of the new folder
pub returns-in-Err-clause-taken : goal.returns-in-Err-clause-taken
returns-in-Err-clause-taken g c =
    let digest = c.digest.ensures ∙ ap (λ (job : JobData). job.parts.digest) c.requires.old_job in
    let count = c.count.ensures.count ∙ ap (λ (t : RecordReel). frame_count t.events) c.timeline.ensures ∙ ap frames_of c.requires.old_job in
    inl (
      c.in-Err.fault,
      subst (λ n. Looks g.O.Work.job.parts.digest n (Err c.in-Err.fault) (g.D.Disk.state c.args.old.now).calls (g.D.Disk.state c.look.new.disk).calls) count
          (subst (λ (d : List ℕ). Looks d c.count.result (Err c.in-Err.fault) (g.D.Disk.state c.args.old.now).calls (g.D.Disk.state c.look.new.disk).calls) digest c.in-Err.ensures.calls),
      refl,
    )

-- or it gave one, by which frames were taken over
pub returns-in-Ok-clause-taken : goal.returns-in-Ok-clause-taken
returns-in-Ok-clause-taken g c =
    let digest = c.digest.ensures ∙ ap (λ (job : JobData). job.parts.digest) c.requires.old_job in
    let count = c.count.ensures.count ∙ ap (λ (t : RecordReel). frame_count t.events) c.timeline.ensures ∙ ap frames_of c.requires.old_job in
    inr (
      c.in-Ok.view,
      (g.D.Disk.state c.look.new.disk).calls,
      subst (λ n. Looks g.O.Work.job.parts.digest n (Ok c.in-Ok.view) (g.D.Disk.state c.args.old.now).calls (g.D.Disk.state c.look.new.disk).calls) count
          (subst (λ (d : List ℕ). Looks d c.count.result (Ok c.in-Ok.view) (g.D.Disk.state c.args.old.now).calls (g.D.Disk.state c.look.new.disk).calls) digest c.in-Ok.ensures.calls),
      c.adopt_owned.ensures.taken,
    )
