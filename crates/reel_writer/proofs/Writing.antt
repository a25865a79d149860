-- Which files the calls on a reel's folder write, and what a folder has that was opened.
use Rattle.std.proofs.Common.{◌≡◌, inl, inr, ℕ, ◌<◌, Bool, true, false, List, get_or, refl, ◌∙◌, ap}
use Rattle.std.specs.Prelude.{◌↔◌}
use Rattle.cf_base.specs.declared.file.FileId.{FileId}
use Rattle.conform_job.specs.Job.{JobData, file_of}
use Rattle.reel_disk.specs.Disk.{Files, History, moment_of, view_of, file_of as place_of}
use Rattle.reel_disk.proofs.Moments.{keeps_start}
use Rattle.resume_ledger.specs.Ledger.{Agrees, LedgerState}
use Rattle.resume_ledger.specs.Sound.{WritesOnly}
use Rattle.reel_writer.specs.Changes.{HasKept, IsOwnFile, IsUnkeptFile, MayWrite}
use Rattle.reel_writer.specs.inside.Changes.{IsUnfinishedFile}
use Rattle.reel_writer.specs.Reel.{frames_of, HasAcked, HasFrameFiles, IsWrittenFile, KeepsReel}

-- no call loses no acknowledgement
pub kept_itself : (job : JobData) (h : History) → KeepsReel job h h
kept_itself job h k = keeps_start (HasAcked job k) h

-- what writes fewer files, writes no others
pub writes_wider : (old new : History) (Few Many : FileId → Type 0) → ((q : FileId) → Few q → Many q) → WritesOnly old new Few → WritesOnly old new Many
writes_wider old new Few Many more writes = record {
  files = λ m from to q other. writes.files m from to q (λ few. other (more q few));
  loose = λ m from to p other. writes.loose m from to p (λ few. other (more (place_of p) few));
}

-- a folder that was opened is one of version 2
pub opened_has : (job : JobData) (h : History) (ledger : LedgerState) → Agrees (moment_of h) ledger → HasFrameFiles job (view_of h)
opened_has job h ledger agrees one i acks = absurd (one.0 agrees.sealed)

-- what a finish of a frame writes is the run's
pub run_file : (job : JobData) (gates : List Bool) (i index : ℕ) → index ≡ i → i < frames_of job → get_or gates i false ≡ false → (q : FileId) → IsWrittenFile (file_of job index) q → IsUnfinishedFile job gates q
run_file job gates i index same within closed q (inl is) = inr (i, within, closed, is ∙ ap (file_of job) same)
run_file job gates i index same within closed q (inr body) = inl body

-- the file of a frame whose gate is still closed is one of a frame whose gate was
pub run_file_before : (job : JobData) (old new : List Bool) → ((k : ℕ) → get_or old k false ≡ true → get_or new k false ≡ true) → (q : FileId) → IsUnfinishedFile job new q → IsUnfinishedFile job old q
run_file_before job old new grows q (inl body) = inl body
run_file_before job old new grows q (inr frame) = inr (frame.0, frame.1, was (get_or old frame.0 false) refl, frame.3)
  where
    was : (b : Bool) → get_or old frame.0 false ≡ b → get_or old frame.0 false ≡ false
    was false is = is
    was true is =
        let now : get_or new frame.0 false ≡ true = grows frame.0 is in
        let shut : get_or new frame.0 false ≡ false = frame.2 in cc

module _ (job : JobData) (gates : List Bool) (before : Files) (opening : (k : ℕ) → (get_or gates k false ≡ true) ↔ HasKept job k before) (q : FileId) where
  unkept : (i : ℕ) × (i < frames_of job) × (get_or gates i false ≡ false) × (q ≡ file_of job i) → IsUnkeptFile job before q
  unkept frame =
      (frame.0, frame.1, λ kept. let opened : get_or gates frame.0 false ≡ true = (opening frame.0).1 kept in let shut : get_or gates frame.0 false ≡ false = frame.2 in cc, frame.3)

  -- what a run writes once the folder is open is its own
  pub own_file : IsUnfinishedFile job gates q → IsOwnFile job before q
  own_file (inl body) = inl (inr (inr (inr body)))
  own_file (inr frame) = inr (unkept frame)

  pub own_written : IsUnfinishedFile job gates q → MayWrite job before q
  own_written (inl body) = inl (inr body)
  own_written (inr frame) = inr (unkept frame)
