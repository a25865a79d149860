-- What an adoption promises: words of private clauses.
use Rattle.std.specs.Prelude.{◌≡◌, ◌⊎◌, ◌↔◌, ℕ, ◌+◌, ◌<◌, Bool, true, false, List, count_by, length, slice_index_or, Result, Ok, Err}
use Rattle.conform_job.specs.Job.{JobData}
use Rattle.reel_disk.specs.Disk.{Files, History, view_of}
use Rattle.reel_disk.specs.State.{DiskState}
use Rattle.resume_ledger.specs.Ledger.{IsFit, AreFlagsOf}
use Rattle.resume_ledger.specs.Look.{ViewState}
use Rattle.resume_ledger.specs.declared.attach.OpenFault.{OpenFault}
use Rattle.resume_ledger.specs.declared.attach.OpenFault.TheVariants as fault
use Rattle.reel_writer.specs.Reel.{frames_of}
use Rattle.reel_writer.specs.View.{ReelView}
use Rattle.reconform.specs.Donor.{HasIntactDonor}
use Rattle.reconform.specs.declared.adopting.Adopted.{Adopted}
use Rattle.reconform.specs.declared.adopting.AdoptFault.{AdoptFault}
use Rattle.reconform.specs.declared.adopting.AdoptFault.TheVariants.{OldOtherJob, OldBadLedger, OtherJob, BadLedger, DiskFault, NoMemory}

-- what keeps the old folder from being looked at, and the new one from being opened
abbrev pub by_old : OpenFault → AdoptFault
by_old (fault.OtherJob kept wanted) = OldOtherJob kept wanted
by_old (fault.BadLedger len) = OldBadLedger len
by_old fault.DiskFault = DiskFault
by_old fault.NoMemory = NoMemory

abbrev pub by_new : OpenFault → AdoptFault
by_new (fault.OtherJob kept wanted) = OtherJob kept wanted
by_new (fault.BadLedger len) = BadLedger len
by_new fault.DiskFault = DiskFault
by_new fault.NoMemory = NoMemory

-- what ends an adoption once both folders are open
abbrev pub IsStop : AdoptFault → Type 0
IsStop fault = (fault ≡ DiskFault) ⊎ (fault ≡ NoMemory)

-- a frame that has no intact donor stays as it was, and one that has one is acknowledged
abbrev pub IsServed : JobData → JobData → ViewState → Files → ℕ → (before after : List Bool) → Type 0
IsServed new old view files i before after = (k : ℕ)
    → (slice_index_or after k false ≡ true) ↔ ((slice_index_or before k false ≡ true) ⊎ ((k ≡ i) × HasIntactDonor new old view files k))

-- of the first frames
abbrev pub AreServed : JobData → JobData → ViewState → Files → ℕ → (before after : List Bool) → Type 0
AreServed new old view files count before after = (k : ℕ)
    → (slice_index_or after k false ≡ true) ↔ ((slice_index_or before k false ≡ true) ⊎ ((k < count) × HasIntactDonor new old view files k))

-- all frames of a reel
abbrev pub IsReelServed : {D : Type 0} → JobData → JobData → ViewState → Files → (before after : ReelView D) → Type 0
IsReelServed new old view files before after =
    AreServed new old view files (frames_of new) before.ledger.gates after.ledger.gates

-- what stays as it was in a reel while it takes over frames: which were acknowledged, among the rest
pub record IsSameReel {D : Type 0} (before after : ReelView D) : Type 0 where
  pub kept : after.kept ≡ before.kept
  pub size : length after.ledger.gates ≡ length before.ledger.gates
  pub grows : (k : ℕ) → slice_index_or before.ledger.gates k false ≡ true
      → slice_index_or after.ledger.gates k false ≡ true

-- what an adoption into an opened folder did, or why it ended
pub record HasServed {D : Type 0} (new old : JobData) (old_tells tells : Bool) (view : ViewState) (files : Files)
    (opened : ReelView D) (after : Files) (done : Adopted) : Type 0 where
  pub acked : List Bool
  pub exit : tells ≡ true → AreFlagsOf new.parts.digest (frames_of new) after acked
  pub fit : tells ≡ true → IsFit new.parts.digest (frames_of new) after
  pub exactly : old_tells ≡ true → AreServed new old view files (frames_of new) opened.ledger.gates acked
  pub kept_is : done.kept ≡ opened.kept
  pub adopted_is : done.kept + done.adopted ≡ count_by (λ gate. gate) acked

abbrev pub AsOpened : {D : Type 0} → JobData → JobData → (old_tells tells : Bool) → ViewState → Files → ReelView D → Files
    → Result Adopted AdoptFault → Type 0
AsOpened new old old_tells tells view files opened after (Ok done) = HasServed new old old_tells tells view files opened after done
AsOpened new old old_tells tells view files opened after (Err fault) = IsStop fault

-- the same of what an adoption answers: its result and the disk
abbrev pub AsOpenedFor : {E : Type 0} → JobData → JobData → Bool → ViewState → History → Bool → (E → DiskState) → ReelView E
    → Result Adopted AdoptFault × E → Type 0
AsOpenedFor new old old_tells view held tells state opened answer =
    AsOpened new old old_tells tells view (view_of held) opened (view_of (state answer.1).history) answer.0
