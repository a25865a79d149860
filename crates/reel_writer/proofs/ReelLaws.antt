-- How what a run of calls on a reel keeps is carried on, and what follows from it.
use Rattle.std.proofs.Common.{◌≡◌, ◌≢◌, ℕ, ◌+◌, ◌<◌, List, length, refl, sym, ◌∙◌, ap, subst, arith}
use Rattle.std.specs.Prelude.{Option, Some, None, IfSome, Result, Ok, Err}
use Rattle.cf_base.specs.declared.file.FileId.{FileId}
use Rattle.cf_base.specs.declared.file.FileId.TheVariants.{Frame}
use Rattle.scan_source.specs.World.{World, file_at}
use Rattle.record_timeline.specs.Accepted.{first_frame}
use Rattle.conform_job.specs.Cuts.{record_reel}
use Rattle.conform_job.specs.Job.{JobData, file_of}
use Rattle.conform_job.specs.Refusals as sources
use Rattle.frame_render.specs.Frame.{frame_file, frame_size}
use Rattle.reel_disk.specs.Call.{Call}
use Rattle.reel_disk.specs.Disk.{Files, Moment, History, moment_of, view_of}
use Rattle.reel_disk.specs.Runs.{LeavesOnly, Surely}
use Rattle.reel_disk.proofs.Moments.{extends_itself, extends_along, leaves_start, leaves_along, keeps_start, keeps_along}
use Rattle.resume_ledger.specs.Ledger.{LedgerState, Acks}
use Rattle.resume_ledger.specs.Safe.{IsSafeOpening}
use Rattle.resume_ledger.specs.Sound.{file_at as listed_at, IsReel, IsFrameFile, HasSize, IsOpeningRun}
use Rattle.resume_ledger.specs.Attach.{HasAttached}
use Rattle.resume_ledger.specs.declared.attach.OpenFault.{OpenFault}
use Rattle.resume_ledger.proofs.LawProofs.{sound_has_files}
use Rattle.reel_writer.specs.Calls.{Opens}
use Rattle.reel_writer.specs.Reel.{frames_of, reel_of, HasAcked, HasFrameFiles, KeepsReel, IsSafeBeginning, IsSoundReel, IsReelRun}
use Rattle.reel_writer.specs.inside.Reel.{HasFrame, IsFinishing}

module _ (job : JobData) where
  pub is_reel : (world : World) → IsReel (frames_of job) (reel_of job (file_at world))
  is_reel world i lt = (record_reel job.parts i, first_frame job.parts.timeline.events + i, refl)

  pub is_frame_file : (i : ℕ) → IsFrameFile (file_of job i)
  is_frame_file i = (record_reel job.parts i, first_frame job.parts.timeline.events + i, refl)

  -- no two frames have one file
  pub files_apart : (k i : ℕ) → k ≢ i → file_of job k ≢ file_of job i
  files_apart k i other same = other (omega (arith, number same))
    where
      number_of : FileId → ℕ
      number_of (Frame reel frame) = frame
      number_of id = 0

      number : file_of job k ≡ file_of job i → first_frame job.parts.timeline.events + k ≡ first_frame job.parts.timeline.events + i
      number same = ap number_of same

  pub has_frame : (world : World) (i : ℕ) (file : FileId) (bytes : List ℕ) → file ≡ file_of job i → bytes ≡ frame_file job (file_at world) i → HasFrame (frames_of job) (reel_of job (file_at world)) i file bytes
  has_frame world i file bytes named holds = record {
    named = sym named;
    holds = sym holds;
    apart = λ k lt other same. files_apart k i other (same ∙ named);
  }

  -- sound files have those of a frame's length
  pub sound_has : ((sources : sources.Files) (i : ℕ) → length (frame_file job sources i) ≡ frame_size job) → (world : World) (files : Files) → IsSoundReel job world files → HasFrameFiles job files
  sound_has long world files sound =
      sound_has_files job.parts.digest (frames_of job) (file_of job) (frame_size job) (reel_of job (file_at world)) files (λ i lt. refl) (λ i lt. long (file_at world) i) sound

  module _ (told : Option World) where
    pub reel_run_itself : (h : History) → IsReelRun job told h h
    reel_run_itself h = record { extends = extends_itself h; keeps = λ _ k. keeps_start (HasAcked job k) h; sound = by told }
      where
        by : (told : Option World) → IfSome told (λ world. Surely (moment_of h) (IsSoundReel job world) → LeavesOnly h h (IsSoundReel job world))
        by None = tt
        by (Some world) = leaves_start (IsSoundReel job world) h

    -- a run, and then one that loses no acknowledgement, whatever the folder is
    pub reel_run_along : (old mid new : History) → IsReelRun job told old mid → IsReelRun job told mid new → KeepsReel job mid new → IsReelRun job told old new
    reel_run_along old mid new first second kept = record {
      extends = extends_along old mid new first.extends second.extends;
      keeps = λ whole k. keeps_along (HasAcked job k) old mid new first.extends second.extends (first.keeps whole k) (kept k);
      sound = by told first.sound second.sound;
    }
      where
        by : (told : Option World) → IfSome told (λ world. Surely (moment_of old) (IsSoundReel job world) → LeavesOnly old mid (IsSoundReel job world))
            → IfSome told (λ world. Surely (moment_of mid) (IsSoundReel job world) → LeavesOnly mid new (IsSoundReel job world)) → IfSome told (λ world. Surely (moment_of old) (IsSoundReel job world) → LeavesOnly old new (IsSoundReel job world))
        by None a b = tt
        by (Some world) a b = λ all. let before = a all in leaves_along (IsSoundReel job world) old mid new second.extends before (b (before mid.now first.extends.later (omega arith)))

    -- an opening of the job's folder
    pub opened_run : (old new : History) → IsOpeningRun job.parts.digest (frames_of job) (file_of job) (frame_size job) old new → IsReelRun job told old new
    opened_run old new run = record { extends = run.extends; keeps = run.keeps; sound = by told }
      where
        by : (told : Option World) → IfSome told (λ world. Surely (moment_of old) (IsSoundReel job world) → LeavesOnly old new (IsSoundReel job world))
        by None = tt
        by (Some world) = run.sound (reel_of job (file_at world)) (λ i lt. refl)

    pub safe_beginning : (old new : History) → IsSafeOpening job.parts.digest (frames_of job) (file_of job) (frame_size job) old new → IsSafeBeginning job told old new
    safe_beginning old new safe = record { run = opened_run old new safe.run; adds_none = safe.adds_none; spares = safe.spares; writes = safe.writes }

    -- a finish of frame i
    pub finished_run : (old new : History) (i : ℕ) (bytes : List ℕ) → IfSome told (λ world. bytes ≡ frame_file job (file_at world) i) → IsFinishing job.parts.digest (frames_of job) i (file_of job i) bytes old new → IsReelRun job told old new
    finished_run old new i bytes defined finishing = record { extends = finishing.past; keeps = λ _. finishing.keeps; sound = by told defined }
      where
        by : (told : Option World) → IfSome told (λ world. bytes ≡ frame_file job (file_at world) i) → IfSome told (λ world. Surely (moment_of old) (IsSoundReel job world) → LeavesOnly old new (IsSoundReel job world))
        by None d = tt
        by (Some world) holds = finishing.sound (reel_of job (file_at world)) (is_reel world) (has_frame world i (file_of job i) bytes refl holds)

-- an opening by other names of the same files
module _ (digest : List ℕ) (count : ℕ) (name other : ℕ → FileId) (size : ℕ) (same : (i : ℕ) → i < count → name i ≡ other i) where
  has_as : (view : Files) (i : ℕ) → i < count → HasSize size (view (name i)) → HasSize size (view (other i))
  has_as view i lt = subst (λ q. HasSize size (view q)) (same i lt)

  has_back : (view : Files) (i : ℕ) → i < count → HasSize size (view (other i)) → HasSize size (view (name i))
  has_back view i lt = subst (λ q. HasSize size (view q)) (sym (same i lt))

  run_as : (old new : History) → IsOpeningRun digest count name size old new → IsOpeningRun digest count other size old new
  run_as old new run = record {
    extends = run.extends;
    sound = λ reel named. run.sound reel (λ i lt. named i lt ∙ sym (same i lt));
    keeps = λ whole. run.keeps (λ one i acks. has_back (view_of old) i acks.within (whole one i acks));
  }

  attached_as : (old new : History) (result : Result LedgerState OpenFault) → HasAttached digest count name size old new result → HasAttached digest count other size old new result
  attached_as old new (Ok ledger) opened = record {
    fit = opened.fit;
    is = opened.is;
    gates = λ i. (
      λ set. let kept = (opened.gates i).0 set in (kept.0, λ one. has_as (view_of old) i kept.0.within (kept.1 one)),
      λ kept. (opened.gates i).1 (kept.0, λ one. has_back (view_of old) i kept.0.within (kept.1 one)),
    );
    agrees = opened.agrees;
    made = opened.made;
    taken = λ one i set bytes there.
        let kept = (opened.gates i).0 set in
        opened.taken one i set bytes (ap (view_of old) (same i kept.0.within) ∙ there);
    found = opened.found;
  }
  attached_as old new (Err fault) refused = refused

-- an opening of the job's folder by its files
module _ (job : JobData) (files : List FileId) (size : ℕ) (long : length files ≡ frames_of job) (each : (i : ℕ) → i < frames_of job → listed_at files i ≡ file_of job i) (old new : History) where
  pub job_run : IsOpeningRun job.parts.digest (length files) (listed_at files) size old new → IsOpeningRun job.parts.digest (frames_of job) (file_of job) size old new
  job_run run = run_as job.parts.digest (frames_of job) (listed_at files) (file_of job) size each old new (subst (λ n. IsOpeningRun job.parts.digest n (listed_at files) size old new) long run)

  pub job_attached : (result : Result LedgerState OpenFault) → HasAttached job.parts.digest (length files) (listed_at files) size old new result → HasAttached job.parts.digest (frames_of job) (file_of job) size old new result
  job_attached result attached = attached_as job.parts.digest (frames_of job) (listed_at files) (file_of job) size each old new result (subst (λ n. HasAttached job.parts.digest n (listed_at files) size old new result) long attached)

  pub job_frames : (i : ℕ) → i < length files → IsFrameFile (listed_at files i)
  job_frames i lt = subst IsFrameFile (sym (each i (omega (arith, lt, long)))) (is_frame_file job i)

-- a finish as the ledger names the job, the file and the bytes
pub finishing_of : (job : JobData) (digest : List ℕ) (count i index : ℕ) (file : FileId) (bytes : List ℕ) (old new : History) → digest ≡ job.parts.digest → count ≡ frames_of job → i ≡ index → file ≡ file_of job index
    → IsFinishing digest count i file bytes old new → IsFinishing job.parts.digest (frames_of job) index (file_of job index) bytes old new
finishing_of job digest count i index file bytes old new same_digest same_count same_index named finishing =
    subst (λ (d : List ℕ). IsFinishing d (frames_of job) index (file_of job index) bytes old new) same_digest
    (subst (λ n. IsFinishing digest n index (file_of job index) bytes old new) same_count
    (subst (λ n. IsFinishing digest count n (file_of job index) bytes old new) same_index
    (subst (λ (f : FileId). IsFinishing digest count i f bytes old new) named finishing)))

-- and its acknowledgement
pub acked_of : (job : JobData) (digest : List ℕ) (count i index : ℕ) (moment : Moment) → digest ≡ job.parts.digest → count ≡ frames_of job → i ≡ index → Surely moment (Acks digest count i) → Surely moment (HasAcked job index)
acked_of job digest count i index moment same_digest same_count same_index acks =
    subst (λ (d : List ℕ). Surely moment (Acks d (frames_of job) index)) same_digest (subst (λ n. Surely moment (Acks digest n index)) same_count (subst (λ n. Surely moment (Acks digest count n)) same_index acks))

-- the calls of an opening, for the same job by another name
pub opens_for : (job named : JobData) (size : ℕ) (result : Result LedgerState OpenFault) (old new : List Call) → job ≡ named → size ≡ frame_size job
    → Opens job size result old new → Opens named (frame_size named) result old new
opens_for job named size result old new is size_is calls =
    subst (λ (j : JobData). Opens j (frame_size j) result old new) is (subst (λ n. Opens job n result old new) size_is calls)
