-- What is said of parts of the ledger's calls.
use Rattle.std.specs.Prelude.{◌≡◌, ◌≢◌, ℕ, Bool, List, [], ◌∷◌, length, take, slice_index, Option, Some, None, Result, Ok, Err, Vec}
use Rattle.std.specs.declared.alloc.Global.{Global}
use Rattle.cf_base.specs.declared.file.FileId.{FileId}
use Rattle.cf_base.specs.declared.file.FileId.TheVariants.{Body2}
use Rattle.reel_disk.specs.declared.disk.Place.{Place}
use Rattle.reel_disk.specs.Disk.{History, view_of, loose_of, IsFirm, SameBut, with_range}
use Rattle.reel_disk.specs.Runs.{Loosens, Narrows, StaysFirm}
use Rattle.resume_ledger.specs.declared.layout.Version.{Version}
use Rattle.resume_ledger.specs.declared.layout.Version.TheVariants.{One, Two}
use Rattle.resume_ledger.specs.declared.attach.OpenFault.{OpenFault}
use Rattle.resume_ledger.specs.declared.attach.OpenFault.TheVariants.{OtherJob, BadLedger, DiskFault, NoMemory}
use Rattle.resume_ledger.specs.Attach.{IsOthers, IsBad}
use Rattle.resume_ledger.specs.Body.{Layout, layout_of, IsOwn, record_of, record_place}
use Rattle.resume_ledger.specs.Ledger.{AreGatesOf}

-- a place became loose, and then nothing became possible
pub record IsPut (old new : History) (place : Place) : Type 0 where
  pub mid : History
  pub loosens : Loosens old mid place
  pub narrows : Narrows mid new

-- a file has this content, and a crash keeps it so; what was firm is
pub record IsFirmly (old new : History) (id : FileId) (content : Option (List ℕ)) : Type 0 where
  pub there : view_of new id ≡ content
  pub same : SameBut id (view_of old) (view_of new)
  pub firm : IsFirm (loose_of new) id
  pub others : StaysFirm old new

-- the body of version 2 has this record of frame i, and its gate is open
abbrev pub HasWrittenRecord : ℕ → List ℕ → History → History → Type 0
HasWrittenRecord i hash old new = view_of new Body2 ≡ with_range (view_of old Body2) (record_place i) hash

abbrev pub HasWrittenGate : ℕ → History → History → Type 0
HasWrittenGate i old new = view_of new Body2 ≡ with_range (view_of old Body2) ((layout_of Two).gate i) (65 ∷ [])

-- what the bytes of a body say of a job: the flags of its gates, or why they are not the job's
abbrev pub IsJudged : Layout → List ℕ → ℕ → List ℕ → Result (Vec Bool Global) OpenFault → Type 0
IsJudged layout digest count body (Ok gates) = IsOwn layout digest count body × AreGatesOf layout body count gates.items
IsJudged layout digest count body (Err (OtherJob kept wanted)) = IsOthers layout digest kept wanted body
IsJudged layout digest count body (Err (BadLedger len)) = IsBad layout digest count len (Some body)
IsJudged layout digest count body (Err DiskFault) = ⊥
IsJudged layout digest count body (Err NoMemory) = Unit {0}

-- the body that has the records
abbrev pub records_in : Version → List ℕ → Option (List ℕ)
records_in One body = None
records_in Two body = Some body

-- all but a frame's gate and record is as it was
pub record OthersKept (old new : List ℕ) (i : ℕ) : Type 0 where
  pub size : length new ≡ length old
  pub head : take 64 new ≡ take 64 old
  pub gates : (k : ℕ) → k ≢ i → slice_index new ((layout_of Two).gate k) ≡ slice_index old ((layout_of Two).gate k)
  pub records : (k : ℕ) → k ≢ i → record_of new k ≡ record_of old k
