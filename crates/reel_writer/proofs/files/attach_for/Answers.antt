use Rattle.std.proofs.Common.{◌≡◌, ◌<◌, ◌∙◌, ℕ, List, length, ap, inl, subst}
use Rattle.cf_base.specs.declared.file.FileId.{FileId}
use Rattle.conform_job.specs.Job.{file_of}
use Rattle.resume_ledger.specs.Safe.{IsSafeOpening}
use Rattle.resume_ledger.specs.Sound.{file_at, AddsNone}
use Rattle.resume_ledger.specs.Attach.{HasAttached}
use Rattle.resume_ledger.specs.OpeningCalls.{Attaches}
use Rattle.reel_disk.proofs.Writing.{writing_none}
use Rattle.resume_ledger.proofs.Reading.{reading_itself, reading_part}
use Rattle.reel_writer.specs.Reel.{frames_of}
use Rattle.reel_writer.proofs.ReelLaws.{job_run, job_attached, job_frames}
use Rattle.reel_writer.proofs.files.attach_for.Goals as goal

-- nothing was done
pub returns-in_default-clause-safe : goal.returns-in_default-clause-safe
returns-in_default-clause-safe g c told = reading_part _ _ _ _ _ _ (reading_itself (g.D.Disk.state c.args.disk.now).history)

pub returns-in_default-clause-own : goal.returns-in_default-clause-own
returns-in_default-clause-own g c = writing_none

-- the folder was opened for these files
pub attach-requires-clause-frames : goal.attach-requires-clause-frames
attach-requires-clause-frames g c =
    let long : length c.deref.result.now ≡ frames_of c.args.job.now = ap length c.deref.ensures.value ∙ c.in-Ok.ensures.size in
    let each : (i : ℕ) → i < frames_of c.args.job.now → file_at c.deref.result.now i ≡ file_of c.args.job.now i = λ i lt. ap (λ (l : List FileId). file_at l i) c.deref.ensures.value ∙ c.in-Ok.ensures.each i lt in
    job_frames c.args.job.now c.deref.result.now c.args.size long each (g.D.Disk.state c.args.disk.now).history (g.D.Disk.state c.args.disk.now).history

pub returns-clause-answer : goal.returns-clause-answer
returns-clause-answer g c told =
    let long : length c.deref.result.now ≡ frames_of c.args.job.now = ap length c.deref.ensures.value ∙ c.in-Ok.ensures.size in
    let each : (i : ℕ) → i < frames_of c.args.job.now → file_at c.deref.result.now i ≡ file_of c.args.job.now i = λ i lt. ap (λ (l : List FileId). file_at l i) c.deref.ensures.value ∙ c.in-Ok.ensures.each i lt in
    job_attached c.args.job.now c.deref.result.now c.args.size long each (g.D.Disk.state c.args.disk.now).history (g.D.Disk.state c.attach.new.disk).history c.attach.result
    (subst (λ (d : List ℕ). HasAttached d (length c.deref.result.now) (file_at c.deref.result.now) c.args.size (g.D.Disk.state c.args.disk.now).history (g.D.Disk.state c.attach.new.disk).history c.attach.result) c.digest.ensures (c.attach.ensures.answer told))

pub returns-clause-safe : goal.returns-clause-safe
returns-clause-safe g c told =
    let long : length c.deref.result.now ≡ frames_of c.args.job.now = ap length c.deref.ensures.value ∙ c.in-Ok.ensures.size in
    let each : (i : ℕ) → i < frames_of c.args.job.now → file_at c.deref.result.now i ≡ file_of c.args.job.now i = λ i lt. ap (λ (l : List FileId). file_at l i) c.deref.ensures.value ∙ c.in-Ok.ensures.each i lt in
    let before = (g.D.Disk.state c.args.disk.now).history in
    let after = (g.D.Disk.state c.attach.new.disk).history in
    let safe = subst (λ (d : List ℕ). IsSafeOpening d (length c.deref.result.now) (file_at c.deref.result.now) c.args.size before after) c.digest.ensures (c.attach.ensures.safe told) in
    record {
      run = job_run c.args.job.now c.deref.result.now c.args.size long each before after safe.run;
      adds_none = subst (λ n. AddsNone c.args.job.now.parts.digest n before after) long safe.adds_none;
      spares = safe.spares;
      writes = safe.writes;
    }

pub returns-clause-calls : goal.returns-clause-calls
returns-clause-calls g c =
    let long : length c.deref.result.now ≡ frames_of c.args.job.now = ap length c.deref.ensures.value ∙ c.in-Ok.ensures.size in
    let each : (i : ℕ) → i < frames_of c.args.job.now → file_at c.deref.result.now i ≡ file_of c.args.job.now i = λ i lt. ap (λ (l : List FileId). file_at l i) c.deref.ensures.value ∙ c.in-Ok.ensures.each i lt in
    inl (c.deref.result.now, (long, each), subst (λ (d : List ℕ). Attaches d c.deref.result.now c.args.size c.attach.result (g.D.Disk.state c.args.disk.now).calls (g.D.Disk.state c.attach.new.disk).calls) c.digest.ensures c.attach.ensures.calls)

pub returns-clause-own : goal.returns-clause-own
returns-clause-own g c = c.attach.ensures.own
