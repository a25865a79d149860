-- Where a project is refused, its job wasn't run or looked at.
use Rattle.std.proofs.Common.{◌≡◌, ◌≢◌, ℕ, List, [], length, Vec, Global, Option, Result, Ok, Err, IfErr, IfSome, MatchResult, refl, sym, subst, arith, inl, inr}
use Rattle.std.specs.Prelude.{◌⊎◌}
use Rattle.cf_base.specs.declared.reel.ReelEntry.{ReelEntry}
use Rattle.scan_source.specs.State.{LeavesScan, ScanState}
use Rattle.scan_source.specs.World.{World, file_at}
use Rattle.scan_source.proofs.Leaving.{leaves_as, leaves_done}
use Rattle.conform_job.specs.Answers.{Grows, HeadsGrow}
use Rattle.conform_job.specs.Asks.{asks_of}
use Rattle.conform_job.specs.Infos.{HasEachOnce}
use Rattle.conform_job.specs.Job.{JobData}
use Rattle.resume_ledger.specs.Look.{ViewState}
use Rattle.resume_ledger.specs.declared.attach.OpenFault.{OpenFault}
use Rattle.resume_ledger.specs.declared.attach.OpenFault.TheVariants as faults
use Rattle.reel_qc.specs.declared.table.probe.ProbeKind.{ProbeKind}
use Rattle.reel_writer.specs.declared.damage.CheckFault.{CheckFault}
use Rattle.reel_writer.specs.declared.damage.CheckFault.TheVariants as damage
use Rattle.frame_fetch.specs.declared.run_end.RunEnd.{RunEnd}
use Rattle.frame_fetch.specs.declared.run_end.RunEnd.TheVariants as ends
use Rattle.outcome.specs.declared.Outcome.{Outcome}
use Rattle.outcome.specs.declared.Outcome.TheVariants as outcomes
use Rattle.project_job.specs.Asked.{AreHeadsFor, HasInspectedAll, HasInspectedFor, IsBehindPlan}
use Rattle.project_job.specs.Jobs.{HasPlanned, IsOfJob}
use Rattle.project_job.specs.Texts.{ByFiles, IsByTexts}
use Rattle.project_run.specs.Look.{HasFound, IsBehindLook, outcome_of_fault}
use Rattle.project_run.specs.Quality.{IsTabled}
use Rattle.project_run.specs.Calls.{IsLeftAlone, IsRefusal, LeavesDiskFor, LeavesScanFor}
use Rattle.reel_disk.specs.State.{DiskState, LeavesDisk, FolderState}
use Rattle.frame_range.specs.declared.range.Extent.{Extent}
use Rattle.frame_range.specs.declared.range.FrameRange.{FrameRange}
use Rattle.project_run.specs.Run.{IsJobRun, outcome_of_end}
use Rattle.project_run.specs.Sheet.{HasSheet}
use Rattle.project_run.specs.Status.{IsStatus, outcome_of_peek}
use Rattle.project_run.specs.Sums.{IsSummed}
use Rattle.project_run.specs.Verify.{IsVerified, outcome_of_check}

-- what was reached is one of two outcomes, and neither is a refusal
neither : (reached a b : Outcome) → (IsRefusal a → ⊥) → (IsRefusal b → ⊥) → (reached ≡ a) ⊎ (reached ≡ b) → IsRefusal reached → ⊥
neither reached a b first second (inl is) refused = first (subst IsRefusal is refused)
neither reached a b first second (inr is) refused = second (subst IsRefusal is refused)

no_end : (entries : List ReelEntry) (how : RunEnd) → IsRefusal (outcome_of_end entries how) → ⊥
no_end entries ends.Done refused = refused
no_end entries (ends.OtherJob kept wanted) refused = refused
no_end entries (ends.BadLedger len) refused = refused
no_end entries (ends.Changed key was now) refused = refused
no_end entries ends.SourceFault refused = refused
no_end entries ends.DiskFault refused = refused
no_end entries ends.NoMemory refused = refused

no_fault : (fault : OpenFault) → IsRefusal (outcome_of_fault fault) → ⊥
no_fault (faults.OtherJob kept wanted) refused = refused
no_fault (faults.BadLedger len) refused = refused
no_fault faults.DiskFault refused = refused
no_fault faults.NoMemory refused = refused

no_peek : (answer : Result ℕ OpenFault) → IsRefusal (outcome_of_peek answer) → ⊥
no_peek (Ok acked) refused = refused
no_peek (Err fault) refused = no_fault fault refused

no_check : (answer : Result ℕ CheckFault) → IsRefusal (outcome_of_check answer) → ⊥
no_check (Ok records) refused = refused
no_check (Err (damage.Damaged frame kept found)) refused = refused
no_check (Err damage.DiskFault) refused = refused
no_check (Err damage.NoMemory) refused = refused

behind : (reached : Outcome) → IsBehindLook reached → IsRefusal reached → ⊥
behind (outcomes.Refused refusal) kind refused = kind
behind (outcomes.OldRefused refusal) kind refused = kind
behind outcomes.Done kind refused = refused
behind outcomes.Usage kind refused = refused
behind (outcomes.OtherJob kept wanted) kind refused = refused
behind (outcomes.BadLedger len) kind refused = refused
behind (outcomes.OldOtherJob kept wanted) kind refused = refused
behind (outcomes.OldBadLedger len) kind refused = refused
behind (outcomes.Damaged frame kept found) kind refused = refused
behind (outcomes.Changed reel key was now) kind refused = refused
behind outcomes.SourceFault kind refused = refused
behind outcomes.DiskFault kind refused = refused
behind (outcomes.SinkFault instead) kind refused = refused
behind outcomes.NoMemory kind refused = refused

-- ---- a job was run, or its folder looked at

pub end_unrefused : (entries : List ReelEntry) (how : RunEnd) (reached : Outcome) → (reached ≡ outcome_of_end entries how) ⊎ (reached ≡ outcomes.NoMemory) → IsRefusal reached → ⊥
end_unrefused entries how reached is = neither reached (outcome_of_end entries how) outcomes.NoMemory (no_end entries how) (λ no. no) is

pub run_unrefused : {extent : Extent} {range : FrameRange} {share : ℕ} (job : JobData) (told : Option World) (disk disk_after : FolderState) (loads loads_after : ℕ) (reached : Outcome) (output : List ℕ)
    → IsJobRun job extent range share told loads loads_after disk disk_after reached output → IsRefusal reached → ⊥
run_unrefused job told disk disk_after loads loads_after reached output ran = end_unrefused job.parts.reels ran.how reached ran.reply.reached_is

pub status_unrefused : (job : JobData) (disk disk_after : FolderState) (reached : Outcome) (output : List ℕ) → IsStatus job disk disk_after reached output → IsRefusal reached → ⊥
status_unrefused job disk disk_after reached output status =
    neither reached (outcome_of_peek status.answer) outcomes.NoMemory (no_peek status.answer) (λ no. no) status.reached_is

found_unrefused : (job : JobData) (disk disk_after : FolderState) (reached : Outcome) (Found : ViewState → Type 0) → ((view : ViewState) → Found view → IsRefusal reached → ⊥)
    → HasFound job disk disk_after reached Found → IsRefusal reached → ⊥
found_unrefused job disk disk_after reached Found each has = by has.ledger has.found
  where
    by : (ledger : Result ViewState OpenFault) → MatchResult ledger Found (λ fault. (reached ≡ outcome_of_fault fault) ⊎ (reached ≡ outcomes.NoMemory)) → IsRefusal reached → ⊥
    by (Ok view) found = each view found
    by (Err fault) is = neither reached (outcome_of_fault fault) outcomes.NoMemory (no_fault fault) (λ no. no) is

pub sums_unrefused : (job : JobData) (disk disk_after : FolderState) (reached : Outcome) (output : List ℕ) → IsSummed job disk disk_after reached output → IsRefusal reached → ⊥
sums_unrefused job disk disk_after reached output summed = found_unrefused job disk disk_after reached _
    (λ view sums. neither reached outcomes.Done outcomes.NoMemory (λ no. no) (λ no. no) sums.kind) summed.seen

pub check_unrefused : (job : JobData) (disk disk_after : FolderState) (reached : Outcome) (output : List ℕ) → IsVerified job disk disk_after reached output → IsRefusal reached → ⊥
check_unrefused job disk disk_after reached output verified = found_unrefused job disk disk_after reached _
    (λ view was. let checked = was.checked in neither reached (outcome_of_check checked.answer) outcomes.NoMemory (no_check checked.answer) (λ no. no) checked.reached_is) verified.seen

pub table_unrefused : (kinds : List ProbeKind) (job : JobData) (disk disk_after : FolderState) (reached : Outcome) (output : List ℕ) → IsTabled kinds job disk disk_after reached output
    → IsRefusal reached → ⊥
table_unrefused kinds job disk disk_after reached output tabled = found_unrefused job disk disk_after reached _ (λ view counted. behind reached counted.2.kind) tabled.seen

pub sheet_unrefused : (tone : List ℕ) (job : JobData) (disk disk_after : FolderState) (reached : Outcome) (output : List ℕ) → HasSheet tone job disk disk_after reached output
    → IsRefusal reached → ⊥
sheet_unrefused tone job disk disk_after reached output made = found_unrefused job disk disk_after reached _ (λ view sheeted. behind reached sheeted.2.kind) made.seen

-- ---- so all that is said of a refusal holds

pub left_by : {A D : Type 0} (r : Result A Outcome) (P : A → Type 0) (Q : Outcome → Type 0) (before after : D) → MatchResult r P Q → ((reached : Outcome) → Q reached → IsRefusal reached → ⊥)
    → IfErr r (IsLeftAlone before after)
left_by (Ok a) P Q before after is none = tt
left_by (Err reached) P Q before after is none = λ refused. absurd (none reached is refused)

-- a plan asks for one head of each needed frame
pub planned_all : (told : Option World) (path : List ℕ) (job : JobData) (before after : ℕ) → IfSome told (λ world. HasPlanned (file_at world) path (Ok job))
    → ByFiles told (λ files. IsByTexts files path (Ok job)) → Grows job.parts told (asks_of job.parts.timeline) [] job.infos → HasEachOnce job.infos
    → HeadsGrow before after 0 (length job.infos) → HasInspectedAll told path before after
planned_all told path job before after comes read needed once heads = record {
  job = job;
  comes = record { told = comes; read = read };
  inspected = record { needed = needed; once = once; heads = heads };
}

-- behind a plan nothing more is asked for
pub heads_behind : {A : Type 0} (r : Result A Outcome) (P : A → Type 0) (Q : Outcome → Type 0) (told : Option World) (path : List ℕ) (before after : ℕ) → HasInspectedAll told path before after
    → MatchResult r P Q → ((reached : Outcome) → Q reached → IsRefusal reached → ⊥)
    → MatchResult r (λ _. AreHeadsFor told path before after outcomes.Done) (AreHeadsFor told path before after)
heads_behind (Ok a) P Q told path before after all is none = record { refused = λ refusal same. absurd (cc); planned = λ _. all }
heads_behind (Err reached) P Q told path before after all is none = record {
  refused = λ refusal same. absurd (none reached is (subst IsRefusal (sym same) tt));
  planned = λ _. all;
}

-- of a command that is done with the plan
pub heads_planned : (told : Option World) (path : List ℕ) (job : JobData) (before after : ℕ) → IfSome told (λ world. HasPlanned (file_at world) path (Ok job))
    → ByFiles told (λ files. IsByTexts files path (Ok job)) → Grows job.parts told (asks_of job.parts.timeline) [] job.infos → HasEachOnce job.infos
    → HeadsGrow before after 0 (length job.infos) → AreHeadsFor told path before after outcomes.Done
heads_planned told path job before after comes read needed once heads = record {
  refused = λ refusal same. absurd (cc);
  planned = λ _. planned_all told path job before after comes read needed once heads;
}

-- what stands in the place of a job comes behind no plan
pub unbehind : (reached : Outcome) → IsOfJob reached → IsBehindPlan reached → ⊥
unbehind outcomes.Done kind behind = kind
unbehind outcomes.Usage kind behind = kind
unbehind (outcomes.SinkFault instead) kind behind = kind
unbehind (outcomes.Refused refusal) kind behind = behind
unbehind (outcomes.OtherJob kept wanted) kind behind = kind
unbehind (outcomes.BadLedger len) kind behind = kind
unbehind (outcomes.OldRefused refusal) kind behind = kind
unbehind (outcomes.OldOtherJob kept wanted) kind behind = kind
unbehind (outcomes.OldBadLedger len) kind behind = kind
unbehind (outcomes.Damaged frame kept found) kind behind = kind
unbehind (outcomes.Changed reel key was now) kind behind = kind
unbehind outcomes.SourceFault kind behind = behind
unbehind outcomes.DiskFault kind behind = kind
unbehind outcomes.NoMemory kind behind = behind

-- no job was planned
pub heads_unplanned : (reached : Outcome) (told : Option World) (path : List ℕ) (before after : ℕ) → IsOfJob reached → HasInspectedFor told path before after reached
    → AreHeadsFor told path before after reached
heads_unplanned reached told path before after kind asked = record { refused = asked; planned = λ behind. absurd (unbehind reached kind behind) }

-- ---- what is left of the scan and of the disk

module _ (path : List ℕ) (before after : ScanState) where
  pub scan_left : (result : Result (Vec ℕ Global) Outcome) (P : Vec ℕ Global → Type 0) (Q : Outcome → Type 0)
      → LeavesScan (result ≡ Err outcomes.SourceFault) before after → HasInspectedAll before.world path before.heads after.heads
      → MatchResult result P Q → ((reached : Outcome) → Q reached → IsRefusal reached → ⊥) → LeavesScanFor path result before after
  scan_left result P Q lent all is none = record { lent = lent; heads = heads_behind result P Q before.world path before.heads after.heads all is none }

  -- a look at the folder behind the plan makes no call on the scan
  pub scan_looked : {J : Type 0} (job : J) (result : Result (Vec ℕ Global) Outcome) (P : Vec ℕ Global → Type 0) (Q : Outcome → Type 0)
      → LeavesScan (◌≡◌ {A = Result J Outcome} (Ok job) (Err outcomes.SourceFault)) before after → HasInspectedAll before.world path before.heads after.heads
      → result ≢ Err outcomes.SourceFault
      → MatchResult result P Q → ((reached : Outcome) → Q reached → IsRefusal reached → ⊥) → LeavesScanFor path result before after
  scan_looked job result P Q planned all never is none = scan_left result P Q (leaves_done (λ is. cc) never planned) all is none

  -- no job was planned
  pub scan_unplanned : {J : Type 0} (reached : Outcome) → LeavesScan (◌≡◌ {A = Result J Outcome} (Err reached) (Err outcomes.SourceFault)) before after
      → HasInspectedFor before.world path before.heads after.heads reached → IsOfJob reached → LeavesScanFor path (Err reached) before after
  scan_unplanned reached planned asked kind = record {
    lent = leaves_as (λ is. cc) (λ is. cc) planned;
    heads = heads_unplanned reached before.world path before.heads after.heads kind asked;
  }

module _ {D : Type 0} (state : D → DiskState) where
  pub disk_left : (result : Result (Vec ℕ Global) Outcome) (P : Vec ℕ Global → Type 0) (Q : Outcome → Type 0) (before after : D)
      → LeavesDisk (result ≡ Err outcomes.DiskFault) (state before) (state after)
      → MatchResult result P Q → ((reached : Outcome) → Q reached → IsRefusal reached → ⊥) → LeavesDiskFor state result before after
  disk_left result P Q before after lent is none = record { lent = lent; untouched = left_by result P Q before after is none }

  -- no job was planned, and no call was made
  pub disk_unplanned : (reached : Outcome) (disk : D) → IsOfJob reached → LeavesDiskFor state (Err reached) disk disk
  disk_unplanned reached disk kind = record {
    lent = record {
      counts = record {
        cause = record { later = omega arith; failed = λ is. absurd (let same : reached ≡ outcomes.DiskFault = cc in subst IsOfJob same kind) };
        steady = λ none. refl;
      };
      lent = refl;
    };
    untouched = λ refused. refl;
  }
