-- A reel that is being written, as contracts see it.
-- * reel that is written: its disk, its ledger, and the frames finished in this run
--     ReelView      its disk, its ledger, the frames finished in this run, and how many were acknowledged before
--     after_finish, after_fault      what a finish makes of it
--     IsReelOf      what holds of every reel of a job
use Rattle.std.specs.Prelude.{◌≡◌, ◌≢◌, ℕ, ◌+◌, ◌<◌, Bool, true, false, List, [], ◌∷◌, ◌++◌, length, set, count_by, slice_index, slice_index_or, Result, Ok, Err, refl}
use Rattle.std.specs.Coded.{Coded, code_by, coded×, coded_ℕ, coded_bool, coded_list}
use Rattle.reel_disk.specs.State.{DiskState}
use Rattle.reel_disk.specs.Disk.{moment_of}
use Rattle.resume_ledger.specs.Ledger.{LedgerState, Agrees}
use Rattle.resume_ledger.specs.declared.attach.OpenFault.{OpenFault}
use Rattle.conform_job.specs.Job.{JobData}
use Rattle.reel_writer.specs.Reel.{frames_of}

pub record ReelView (D : Type 0) : Type 0 where
  pub disk : D
  pub ledger : LedgerState
  pub acks : List ℕ
  pub kept : ℕ

module _ {D : Type 0} where
  -- it is stored as the tuple of its parts
  abbrev pub reel_code : Coded D → Coded (ReelView D)
  reel_code disk =
      code_by (D × ((List ℕ × (List Bool × Bool)) × (List ℕ × ℕ)))
      (coded× disk
      (coded× (coded× (coded_list coded_ℕ) (coded× (coded_list coded_bool) coded_bool))
      (coded× (coded_list coded_ℕ) coded_ℕ)))
      (λ r. (r.disk, ((r.ledger.digest, (r.ledger.gates, r.ledger.closed)), (r.acks, r.kept))))
      (λ p. record {
        disk = p.0;
        ledger = record { digest = p.1.0.0; gates = p.1.0.1.0; closed = p.1.0.1.1 };
        acks = p.1.1.0;
        kept = p.1.1.1;
      })
      (λ _. refl)

  -- with frame i acknowledged, and its number after the others
  abbrev pub after_finish : ReelView D → ℕ → D → ReelView D
  after_finish reel i disk = record {
    disk = disk;
    ledger = record reel.ledger { gates = set reel.ledger.gates i true };
    acks = reel.acks ++ i ∷ [];
    kept = reel.kept;
  }

  -- closed, with nothing else changed
  abbrev pub after_fault : ReelView D → D → ReelView D
  after_fault reel disk = record {
    disk = disk;
    ledger = record reel.ledger { closed = true };
    acks = reel.acks;
    kept = reel.kept;
  }

  -- at the opening of a folder whose ledger is this one
  abbrev pub IsOpening : ReelView D → Type 0
  IsOpening reel = (reel.acks ≡ []) × (reel.kept ≡ count_by (λ gate. gate) reel.ledger.gates)

  -- The ledger is the job's. The frames finished in this run are acknowledged, each once, and with
  -- those from before they are all that are. While the reel is open, the ledger agrees with a disk
  -- that tells.
  pub record IsReelOf (job : JobData) (tells : Bool) (state : D → DiskState) (reel : ReelView D) : Type 0 where
    pub digest : reel.ledger.digest ≡ job.parts.digest
    pub size : length reel.ledger.gates ≡ frames_of job
    pub acked : (j : ℕ) → j < length reel.acks
        → slice_index_or reel.ledger.gates (slice_index reel.acks j) false ≡ true
    pub once : (j k : ℕ) → j < k → k < length reel.acks
        → slice_index reel.acks j ≢ slice_index reel.acks k
    pub kept : reel.kept + length reel.acks ≡ count_by (λ gate. gate) reel.ledger.gates
    pub agrees : reel.ledger.closed ≡ false → tells ≡ true
        → Agrees (moment_of (state reel.disk).history) reel.ledger

  -- what a begin gave: the ledger or the refusal, and the disk as it is then
  abbrev pub ledger_in : Result (ReelView D) (OpenFault × D) → Result LedgerState OpenFault
  ledger_in (Ok reel) = Ok reel.ledger
  ledger_in (Err refused) = Err refused.0

  abbrev pub disk_in : Result (ReelView D) (OpenFault × D) → D
  disk_in (Ok reel) = reel.disk
  disk_in (Err refused) = refused.1
