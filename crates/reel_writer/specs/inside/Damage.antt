-- Damage: a frame whose file has another SHA-256 than the ledger keeps of it: words of private clauses.
use Rattle.std.specs.Prelude.{◌≡◌, ◌≢◌, ℕ, List, cond, is_some, Some, IfSome, Result, Ok, Err}
use Rattle.conform_job.specs.Job.{JobData, file_of}
use Rattle.reel_disk.specs.Call.{Call}
use Rattle.reel_disk.specs.Disk.{Files}
use Rattle.resume_ledger.specs.Look.{ViewState, hash_at}
use Rattle.reel_writer.specs.declared.damage.CheckFault.{CheckFault}
use Rattle.reel_writer.specs.declared.damage.CheckFault.TheVariants.{Damaged, DiskFault, NoMemory}
use Rattle.reel_writer.specs.Damage.{IsDamaged, IsRecordedFile}
use Rattle.reel_writer.specs.Reads.{MakesOnly, WasHashed}

abbrev pub HasCheckedOne : JobData → ViewState → Files → ℕ → Result ℕ CheckFault → Type 0
HasCheckedOne job view files i (Ok records) = (kept found : List ℕ)
    → IsDamaged job view files i kept found → ⊥
HasCheckedOne job view files i (Err (Damaged frame kept found)) =
    (frame ≡ i) × IsDamaged job view files i kept found
HasCheckedOne job view files i (Err DiskFault) = Unit {0}
HasCheckedOne job view files i (Err NoMemory) = Unit {0}

abbrev pub IsCheckOneFor : ViewState → ℕ → Result ℕ CheckFault → Type 0
IsCheckOneFor view i (Ok records) = records ≡ cond (is_some (hash_at view i)) 1 0
IsCheckOneFor view i (Err (Damaged frame kept found)) =
    (frame ≡ i) × (hash_at view i ≡ Some kept) × (kept ≢ found)
IsCheckOneFor view i (Err DiskFault) = Unit {0}
IsCheckOneFor view i (Err NoMemory) = Unit {0}

-- what is said of one frame is of what was read of its file
abbrev pub IsCheckOneOf : JobData → ViewState → ℕ → Result ℕ CheckFault → List Call → Type 0
IsCheckOneOf job view i (Ok records) calls = IfSome (hash_at view i) (λ kept. WasHashed (file_of job i) kept calls)
IsCheckOneOf job view i (Err (Damaged frame kept found)) calls = (frame ≡ i) × WasHashed (file_of job i) found calls
IsCheckOneOf job view i (Err DiskFault) calls = Unit {0}
IsCheckOneOf job view i (Err NoMemory) calls = Unit {0}

pub record ReadsFrame (job : JobData) (view : ViewState) (i : ℕ) (result : Result ℕ CheckFault) (before after : List Call) : Type 0 where
  pub on : MakesOnly (IsRecordedFile job view) before after
  pub says : IsCheckOneOf job view i result after
