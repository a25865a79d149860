-- Which calls on the disk a begin and a finish make. It holds over every disk, and all of it is this project's own rule.
-- * calls of a begin: those of an opening for the files of the job's frames
-- * calls of a finish: the frame's file, its record and its gate, each written and then synced, and none before the one before is done
--     Opens      of a begin
--     Finishes      of a finish
use Rattle.std.specs.Prelude.{◌⊎◌, ◌≡◌, ℕ, ◌+◌, ◌*◌, ◌<◌, List, [], ◌∷◌, length, Result, Ok, Err}
use Rattle.cf_base.specs.declared.file.FileId.{FileId}
use Rattle.cf_base.specs.declared.file.FileId.TheVariants.{Body2}
use Rattle.conform_job.specs.Job.{JobData, file_of}
use Rattle.reel_disk.specs.declared.disk.Did.TheVariants.{Done}
use Rattle.reel_disk.specs.Call.{Call, Patched, Synced, Wrote}
use Rattle.resume_ledger.specs.declared.attach.OpenFault.{OpenFault}
use Rattle.resume_ledger.specs.declared.attach.OpenFault.TheVariants.{NoMemory}
use Rattle.resume_ledger.specs.Calls.{Puts, PutsGate, PutsRecord}
use Rattle.resume_ledger.specs.Ledger.{LedgerState}
use Rattle.resume_ledger.specs.OpeningCalls.{Attaches}
use Rattle.resume_ledger.specs.Sound.{file_at}
use Rattle.reel_writer.specs.Reel.{frames_of}
use Rattle.sha2.specs.Sha256.{sha256}

-- the record of a frame, and then its gate
abbrev pub Acknowledging : {A B : Type 0} → ℕ → List ℕ → Result A B → (old new : List Call) → Type 0
Acknowledging i hash (Ok done) old new =
    new ≡ Synced Body2 Done ∷ Patched Body2 (64 + 33 * i) (65 ∷ []) Done ∷ Synced Body2 Done ∷ Patched Body2 (65 + 33 * i) hash Done ∷ old
Acknowledging {A = A} {B = B} i hash (Err fault) old new =
    PutsRecord {A = A} {B = B} i hash (Err fault) old new
    ⊎ PutsGate {A = A} {B = B} i (Err fault) (Synced Body2 Done ∷ Patched Body2 (65 + 33 * i) hash Done ∷ old) new

-- before them the file of the frame
abbrev pub Finishes : {A B : Type 0} → ℕ → FileId → List ℕ → Result A B → (old new : List Call) → Type 0
Finishes {A = A} {B = B} i file bytes (Ok done) old new =
    Acknowledging {A = A} {B = B} i (sha256 bytes) (Ok done) (Synced file Done ∷ Wrote file bytes Done ∷ old) new
Finishes {A = A} {B = B} i file bytes (Err fault) old new =
    Puts {A = A} {B = B} (Wrote file bytes) file (Err fault) old new
    ⊎ Acknowledging {A = A} {B = B} i (sha256 bytes) (Err fault) (Synced file Done ∷ Wrote file bytes Done ∷ old) new

-- the files of a job's frames, in their order
abbrev pub AreFilesOf : JobData → List FileId → Type 0
AreFilesOf job files = (length files ≡ frames_of job) × ((i : ℕ) → i < frames_of job → file_at files i ≡ file_of job i)

-- a folder is opened for them, or no memory is left for their names
abbrev pub Opens : JobData → ℕ → Result LedgerState OpenFault → (old new : List Call) → Type 0
Opens job size result old new =
    ((files : List FileId) × AreFilesOf job files × Attaches job.parts.digest files size result old new)
    ⊎ ((result ≡ Err NoMemory) × (new ≡ old))
