use Rattle.std.proofs.Common.{◌≡◌, ◌≤◌, ◌∙◌, ℕ, length, ap, subst, arith}
use Rattle.std.specs.Prelude.{Ok, Err, vec_capacity}
use Rattle.reel_disk.specs.Disk.{moment_of}
use Rattle.resume_ledger.specs.Ledger.{Agrees}
use Rattle.conform_job.specs.Job.{JobData, file_of}
use Rattle.conform_job.specs.Refusals as sources
use Rattle.frame_render.specs.Frame.{frame_file, frame_size}
use Rattle.resume_ledger.specs.Safe.{IsSafeOpening}
use Rattle.reel_disk.proofs.Writing.{writing_none}
use Rattle.resume_ledger.proofs.Reading.{reading_itself, reading_part}
use Rattle.reel_writer.specs.Calls.{Opens}
use Rattle.reel_writer.specs.Reel.{frames_of}
use Rattle.reel_writer.proofs.ReelLaws.{opens_for, safe_beginning, sound_has}
use Rattle.reel_writer.proofs.reel.Reel.begin.Goals as goal

-- no memory
pub returns-in_default-clause-safe : goal.returns-in_default-clause-safe
returns-in_default-clause-safe g c told =
    safe_beginning g.N.Work.job g.N.Work.files _ _ (reading_part g.N.Work.job.parts.digest (frames_of g.N.Work.job) (file_of g.N.Work.job) (frame_size g.N.Work.job) _ _ (reading_itself (g.D.Disk.state c.args.disk).history))

pub returns-in_default-clause-sound_has : goal.returns-in_default-clause-sound_has
returns-in_default-clause-sound_has g c = sound_has g.N.Work.job (subst (λ (j : JobData). (s : sources.Files) (i : ℕ) → length (frame_file j s i) ≡ frame_size j) c.requires.job c.frame_len-size.ensures.each)

pub returns-in-Ok-attach_for-clause-sound_has : goal.returns-in-Ok-attach_for-clause-sound_has
returns-in-Ok-attach_for-clause-sound_has g c = sound_has g.N.Work.job (subst (λ (j : JobData). (s : sources.Files) (i : ℕ) → length (frame_file j s i) ≡ frame_size j) c.requires.job c.frame_len-size.ensures.each)

pub returns-in-Err-clause-sound_has : goal.returns-in-Err-clause-sound_has
returns-in-Err-clause-sound_has g c = sound_has g.N.Work.job (subst (λ (j : JobData). (s : sources.Files) (i : ℕ) → length (frame_file j s i) ≡ frame_size j) c.requires.job c.frame_len-size.ensures.each)

pub returns-in_default-clause-own : goal.returns-in_default-clause-own
returns-in_default-clause-own g c = writing_none

-- the folder was opened
pub returns-in-Ok-attach_for-clause-safe : goal.returns-in-Ok-attach_for-clause-safe
returns-in-Ok-attach_for-clause-safe g c told =
    safe_beginning g.N.Work.job g.N.Work.files (g.D.Disk.state c.args.disk).history (g.D.Disk.state c.attach_for.new.disk).history
    (subst (λ (j : JobData). IsSafeOpening j.parts.digest (frames_of j) (file_of j) (frame_size j) (g.D.Disk.state c.args.disk).history (g.D.Disk.state c.attach_for.new.disk).history) c.requires.job
    (subst (λ n. IsSafeOpening c.args.job.now.parts.digest (frames_of c.args.job.now) (file_of c.args.job.now) n (g.D.Disk.state c.args.disk).history (g.D.Disk.state c.attach_for.new.disk).history) c.frame_len-size.ensures.size (c.attach_for.ensures.safe told)))

pub returns-in-Ok-attach_for-clause-calls : goal.returns-in-Ok-attach_for-clause-calls
returns-in-Ok-attach_for-clause-calls g c =
    subst (λ b. Opens g.N.Work.job (frame_size g.N.Work.job) (Ok (record { digest = c.in-Ok-attach_for.ledger.digest; gates = c.in-Ok-attach_for.ledger.gates; closed = b }))
    (g.D.Disk.state c.args.disk).calls (g.D.Disk.state c.attach_for.new.disk).calls) c.in-Ok-attach_for.ensures.known.is_open
    (opens_for c.args.job.now g.N.Work.job _ (Ok c.in-Ok-attach_for.ledger) _ _ c.requires.job c.frame_len-size.ensures.size c.in-Ok-attach_for.ensures.calls)

pub returns-in-Ok-attach_for-clause-own : goal.returns-in-Ok-attach_for-clause-own
returns-in-Ok-attach_for-clause-own g c = c.in-Ok-attach_for.ensures.own

-- or not
pub returns-in-Err-clause-own : goal.returns-in-Err-clause-own
returns-in-Err-clause-own g c = c.in-Err.ensures.own

pub returns-in-Err-clause-safe : goal.returns-in-Err-clause-safe
returns-in-Err-clause-safe g c told =
    safe_beginning g.N.Work.job g.N.Work.files (g.D.Disk.state c.args.disk).history (g.D.Disk.state c.attach_for.new.disk).history
    (subst (λ (j : JobData). IsSafeOpening j.parts.digest (frames_of j) (file_of j) (frame_size j) (g.D.Disk.state c.args.disk).history (g.D.Disk.state c.attach_for.new.disk).history) c.requires.job
    (subst (λ n. IsSafeOpening c.args.job.now.parts.digest (frames_of c.args.job.now) (file_of c.args.job.now) n (g.D.Disk.state c.args.disk).history (g.D.Disk.state c.attach_for.new.disk).history) c.frame_len-size.ensures.size (c.attach_for.ensures.safe told)))

pub returns-in-Err-clause-calls : goal.returns-in-Err-clause-calls
returns-in-Err-clause-calls g c =
    opens_for c.args.job.now g.N.Work.job _ (Err c.in-Err.fault) _ _ c.requires.job c.frame_len-size.ensures.size c.in-Err.ensures.calls

pub invariant_of-result : goal.invariant_of-result
invariant_of-result g c =
    let known = c.in-Ok-attach_for.ensures.known in
    let size : length c.in-Ok-attach_for.ledger.gates ≡ frames_of g.N.Work.job = known.size ∙ ap frames_of c.requires.job in
    let empty : length c.in-Ok.acks.items ≡ 0 = ap length c.in-Ok.ensures.items in
    let room : length c.in-Ok-attach_for.ledger.gates ≤ vec_capacity c.in-Ok.acks = omega (arith, known.size, c.count.ensures.count, c.in-Ok.ensures.capacity) in (
      record {
        digest = known.digest_is ∙ ap (λ (j : JobData). j.parts.digest) c.requires.job;
        size = size;
        acked = λ j lt. absurd (omega (arith, lt, empty));
        once = λ j k lt below. absurd (omega (arith, below, empty));
        kept = omega (arith, empty, c.acked-kept.ensures.count);
        agrees = λ _ told. subst (λ b. Agrees (moment_of (g.D.Disk.state c.attach_for.new.disk).history) (record { digest = c.in-Ok-attach_for.ledger.digest; gates = c.in-Ok-attach_for.ledger.gates; closed = b })) known.is_open (c.in-Ok-attach_for.ensures.answer told).agrees;
      },
      room,
      λ _. known.is_open,
    )
