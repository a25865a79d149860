-- From a load to the reply of its command.
use Rattle.std.proofs.Common.{◌≡◌, ◌≢◌, ℕ, Global, List, length, take, Option, None, Some, IfSome, refl, subst, ap, ◌∙◌}
use Rattle.std.specs.Prelude.{MatchResult, Result, Ok, Err, Vec}
use Rattle.cf_base.specs.declared.fail.Fail.{Fail}
use Rattle.cf_base.specs.declared.fail.Fail.TheVariants.{Fault}
use Rattle.cf_base.specs.declared.timing.Rate.{Rate}
use Rattle.scan_source.proofs.Leaving.{leaves_as, leaves_done}
use Rattle.scan_source.specs.State.{LeavesScan, ScanState}
use Rattle.scan_source.specs.World.{World}
use Rattle.command_answers.specs.Commands.Frame.{IsFrameCase, IsFrameForm}
use Rattle.command_answers.specs.Commands.List.{IsListCase, IsListForm}
use Rattle.project_job.specs.Load.{ByFile, IsFront, IsMissing, IsOfLoad}
use Rattle.project_job.specs.declared.loads.Front.{Front}
use Rattle.outcome.specs.declared.Refused.TheVariants.{NoFile, Project, Reels, List as EditList, Timeline, Cube, Job, Frame}
use Rattle.outcome.specs.declared.Which.{Which}
use Rattle.outcome.specs.declared.Which.TheVariants as which
use Rattle.command_answers.specs.inside.Faults.{IfFault}
use Rattle.printed_lines.specs.Lines.{line_of}
use Rattle.project_run.specs.Calls.{Replies}
use Rattle.project_run.specs.Run.{IsOfRun}
use Rattle.project_adopt.specs.Adopt.{IsOfAdopt}
use Rattle.project_run.specs.Look.{IsOfLook}
use Rattle.project_run.specs.Verify.{IsOfVerify}
use Rattle.command_answers.specs.ByFile.{IsRightBy}
use Rattle.project_job.proofs.Reading.{any_file, any_files}
use Rattle.project_job.specs.Texts.{HasComeTo}
use Rattle.command_answers.specs.Commands.{meaning_of}
use Rattle.command_answers.specs.Reply.{CallsDisk, IsKindOf, IsReplyOverScan}
use Rattle.frame_range.specs.declared.range.Extent.{Extent}
use Rattle.command_words.specs.declared.command.Command.{Command}
use Rattle.command_words.specs.declared.command.Command.TheVariants as commands
use Rattle.outcome.specs.declared.Outcome.{Outcome}
use Rattle.outcome.specs.declared.Outcome.TheVariants as outcomes
use Rattle.outcome.specs.declared.Outcome.TheVariants.{Done, Usage, Refused, SourceFault, SinkFault, NoMemory}

-- what holds of each file that a load may have read holds of the one at the path, or of one that was read
pub by_front : (told : Option World) (path : List ℕ) (P : Option (List ℕ) → Type 0) (most : ℕ) (front : Front) → ByFile told path (λ file. IsFront file most front)
    → ((bytes : List ℕ) → front.len ≡ length bytes → front.bytes.items ≡ take most bytes → P (Some bytes))
    → ByFile told path P
by_front told path P most front read each = (
  read.0,
  read.1,
  elim read.0 as (λ file. IsFront file most front → P file) [
    | None ↦ λ h. absurd h
    | Some bytes ↦ λ h. each bytes h.0 h.1
  ] read.2,
)

-- what holds where there is no file, after a fault of the scan, and where memory ran out
missing : (file : Option (List ℕ)) (absent : Which) (outcome : Outcome) (P : Option (List ℕ) → Outcome → Type 0) → IsMissing absent file outcome
    → P None (Refused (NoFile absent)) → P file SourceFault → P file NoMemory → P file outcome
missing file absent (Refused (NoFile which)) P is gone fault memory = rw (is.0, is.1) gone
missing file absent SourceFault P is gone fault memory = fault
missing file absent NoMemory P is gone fault memory = memory
missing file absent Done P is gone fault memory = absurd is
missing file absent Usage P is gone fault memory = absurd is
missing file absent (outcomes.OtherJob kept wanted) P is gone fault memory = absurd is
missing file absent (outcomes.BadLedger len) P is gone fault memory = absurd is
missing file absent (outcomes.OldRefused refusal) P is gone fault memory = absurd is
missing file absent (outcomes.OldOtherJob kept wanted) P is gone fault memory = absurd is
missing file absent (outcomes.OldBadLedger len) P is gone fault memory = absurd is
missing file absent (outcomes.Damaged frame kept found) P is gone fault memory = absurd is
missing file absent (outcomes.Changed reel key was now) P is gone fault memory = absurd is
missing file absent outcomes.DiskFault P is gone fault memory = absurd is
missing file absent (SinkFault instead) P is gone fault memory = absurd is
missing file absent (Refused (Project fault_)) P is gone fault memory = absurd is
missing file absent (Refused (Reels fault_)) P is gone fault memory = absurd is
missing file absent (Refused (EditList refusal)) P is gone fault memory = absurd is
missing file absent (Refused (Timeline fault_)) P is gone fault memory = absurd is
missing file absent (Refused (Cube fault_)) P is gone fault memory = absurd is
missing file absent (Refused (Job fault_)) P is gone fault memory = absurd is
missing file absent (Refused (Frame fault_)) P is gone fault memory = absurd is

by_missing : (told : Option World) (path : List ℕ) (absent : Which) (outcome : Outcome) (P : Option (List ℕ) → Outcome → Type 0) → ByFile told path (λ file. IsMissing absent file outcome)
    → P None (Refused (NoFile absent)) → ((file : Option (List ℕ)) → P file SourceFault) → ((file : Option (List ℕ)) → P file NoMemory)
    → ByFile told path (λ file. P file outcome)
by_missing told path absent outcome P read gone fault memory = (read.0, read.1, missing read.0 absent outcome P read.2 gone (fault read.0) (memory read.0))

pub reply_of : (command : Command) (before after : ScanState) (reached : Outcome) (output : List ℕ) → IsKindOf command reached
    → (meaning_of command).IsRight reached output before after
    → (reached ≢ Done → output ≡ line_of reached)
    → LeavesScan (reached ≡ SourceFault) before after → (meaning_of command).HasLoaded before after reached
    → (meaning_of command).LooksAtHeads before after reached
    → IsReplyOverScan command before after reached output
reply_of command before after reached output kind right line left loads heads = record {
  right = right;
  line = line;
  kind = kind;
  source_fault = left.counts.cause.failed;
  last = left.ends;
  steady = left.counts.steady;
  later = left.counts.cause.later;
  loads = loads;
  heads = heads;
  world = left.told;
}

-- the fault that was given
pub fault_given : {A F : Type 0} (r : Result A (Fail F)) (given : Fail F) (fault : F) (P : F → Type 0) → r ≡ Err given → given ≡ Fault fault → IfFault r P → P fault
fault_given r given fault P is fault_is holds = subst (λ q. IfFault q P) (is ∙ ap Err fault_is) holds

-- what is right of a frame and of a list without a file
pub frame_missing : (world : Option World) (path : List ℕ) (outcome : Outcome) (output : List ℕ) → ByFile world path (λ file. IsMissing which.Frame file outcome)
    → ByFile world path (λ file. IsRightBy (IsFrameCase file) (IsFrameForm file) outcome output)
frame_missing world path outcome output read =
    by_missing world path which.Frame outcome (λ file reached. IsRightBy (IsFrameCase file) (IsFrameForm file) reached output) read
    (record { case = refl; form = λ same. absurd (cc) }) (λ file. record { case = tt; form = λ same. absurd (cc) }) (λ file. record { case = tt; form = λ same. absurd (cc) })

pub list_missing : (rate : Rate) (world : Option World) (path : List ℕ) (outcome : Outcome) (output : List ℕ) → ByFile world path (λ file. IsMissing which.List file outcome)
    → ByFile world path (λ file. IsRightBy (IsListCase rate file) (IsListForm rate file) outcome output)
list_missing rate world path outcome output read =
    by_missing world path which.List outcome (λ file reached. IsRightBy (IsListCase rate file) (IsListForm rate file) reached output) read
    (record { case = refl; form = λ same. absurd (cc) }) (λ file. record { case = tt; form = λ same. absurd (cc) }) (λ file. record { case = tt; form = λ same. absurd (cc) })

-- what holds of all files holds of those that are told
pub told_any : (world : Option World) {P : World → Type 0} → ((files : World) → P files) → IfSome world P
told_any None each = tt
told_any (Some files) each = each files

-- want of memory may come in any case
pub frame_memory : (world : Option World) (path output : List ℕ) → ByFile world path (λ file. IsRightBy (IsFrameCase file) (IsFrameForm file) NoMemory output)
frame_memory world path output = any_file world path _ (λ file. record { case = tt; form = λ same. absurd (cc) })

pub list_memory : (rate : Rate) (world : Option World) (path output : List ℕ) → ByFile world path (λ file. IsRightBy (IsListCase rate file) (IsListForm rate file) NoMemory output)
list_memory rate world path output = any_file world path _ (λ file. record { case = tt; form = λ same. absurd (cc) })

pub came_without : (told : Option World) (path : List ℕ) → HasComeTo told path (Err NoMemory)
came_without told path = record { told = told_any told (λ world. tt); read = any_files told _ (λ files. tt) }

pub memory_right : (command : Command) (output : List ℕ) (before after : ScanState) → (meaning_of command).IsRight NoMemory output before after
memory_right (commands.Frame path) output before after = frame_memory before.world path output
memory_right (commands.List path rate) output before after = list_memory rate before.world path output
memory_right (commands.Plan path) output before after = came_without before.world path
memory_right (commands.Run path extent workers share) output before after = tt
memory_right (commands.Status path) output before after = tt
memory_right (commands.Verify path) output before after = tt
memory_right (commands.Sums path) output before after = tt
memory_right (commands.Qc path) output before after = tt
memory_right (commands.Sheet path) output before after = tt
memory_right (commands.Adopt path old_path) output before after = tt
memory_right (commands.Pull path margin) output before after = came_without before.world path
memory_right (commands.Demo count) output before after = tt

-- an error is its outcome
pub error_of : {A : Type 0} (a b : Outcome) → a ≡ b → ◌≡◌ {A = Result A Outcome} (Err a) (Err b)
error_of a b same = ap Err same

pub outcome_of : {A : Type 0} (a b : Outcome) → ◌≡◌ {A = Result A Outcome} (Err a) (Err b) → a ≡ b
outcome_of a b same = cc

-- the outcome of a load is its command's own
pub replied_load : (command : Command) (absent : Which) (outcome : Outcome) → IsOfLoad absent outcome → IsKindOf command outcome
replied_load command absent Done kind = absurd kind
replied_load command absent Usage kind = absurd kind
replied_load command absent (outcomes.OtherJob kept wanted) kind = absurd kind
replied_load command absent (outcomes.BadLedger len) kind = absurd kind
replied_load command absent (outcomes.OldRefused refusal) kind = absurd kind
replied_load command absent (outcomes.OldOtherJob kept wanted) kind = absurd kind
replied_load command absent (outcomes.OldBadLedger len) kind = absurd kind
replied_load command absent (outcomes.Damaged frame kept found) kind = absurd kind
replied_load command absent (outcomes.Changed reel key was now) kind = absurd kind
replied_load command absent outcomes.DiskFault kind = absurd kind
replied_load command absent (Refused refusal) kind = tt
replied_load command absent SourceFault kind = tt
replied_load command absent (SinkFault instead) kind = absurd kind
replied_load command absent NoMemory kind = tt

pub load_isnt_done : (absent : Which) (outcome : Outcome) → IsOfLoad absent outcome → outcome ≢ Done
load_isnt_done absent outcome kind same = subst (IsOfLoad absent) same kind

-- the outcomes of a run, of a look at the folder and of a check of its files are those of their commands
pub replied_run : (path : List ℕ) (extent : Extent) (workers share : ℕ) (outcome : Outcome) → IsOfRun outcome → IsKindOf (commands.Run path extent workers share) outcome
replied_run path extent workers share Done kind = absurd kind
replied_run path extent workers share Usage kind = absurd kind
replied_run path extent workers share (SinkFault instead) kind = absurd kind
replied_run path extent workers share (outcomes.OldRefused refusal) kind = absurd kind
replied_run path extent workers share (outcomes.OldOtherJob kept wanted) kind = absurd kind
replied_run path extent workers share (outcomes.OldBadLedger len) kind = absurd kind
replied_run path extent workers share (outcomes.Damaged frame kept found) kind = absurd kind
replied_run path extent workers share other kind = tt

pub replied_adopt : (path old_path : List ℕ) (outcome : Outcome) → IsOfAdopt outcome → IsKindOf (commands.Adopt path old_path) outcome
replied_adopt path old_path Done kind = absurd kind
replied_adopt path old_path Usage kind = absurd kind
replied_adopt path old_path (SinkFault instead) kind = absurd kind
replied_adopt path old_path (outcomes.Damaged frame kept found) kind = absurd kind
replied_adopt path old_path other kind = tt

pub replied_look : (command : Command) → CallsDisk command → (outcome : Outcome) → IsOfLook outcome → IsKindOf command outcome
replied_look command calls Done kind = absurd kind
replied_look command calls Usage kind = absurd kind
replied_look command calls (SinkFault instead) kind = absurd kind
replied_look command calls (outcomes.OldRefused refusal) kind = absurd kind
replied_look command calls (outcomes.OldOtherJob kept wanted) kind = absurd kind
replied_look command calls (outcomes.OldBadLedger len) kind = absurd kind
replied_look command calls (outcomes.Damaged frame kept found) kind = absurd kind
replied_look command calls (outcomes.Changed reel key was now) kind = absurd kind
replied_look command calls (Refused refusal) kind = tt
replied_look command calls SourceFault kind = tt
replied_look command calls NoMemory kind = tt
replied_look command calls (outcomes.OtherJob kept wanted) kind = calls
replied_look command calls (outcomes.BadLedger len) kind = calls
replied_look command calls outcomes.DiskFault kind = calls

pub replied_verify : (path : List ℕ) (outcome : Outcome) → IsOfVerify outcome → IsKindOf (commands.Verify path) outcome
replied_verify path Done kind = absurd kind
replied_verify path Usage kind = absurd kind
replied_verify path (SinkFault instead) kind = absurd kind
replied_verify path (outcomes.OldRefused refusal) kind = absurd kind
replied_verify path (outcomes.OldOtherJob kept wanted) kind = absurd kind
replied_verify path (outcomes.OldBadLedger len) kind = absurd kind
replied_verify path (outcomes.Changed reel key was now) kind = absurd kind
replied_verify path other kind = tt

-- an outcome whose line found no memory refuses nothing
pub loads_instead : (command : Command) (before after : ScanState) (reached : Outcome) → (meaning_of command).HasLoaded before after reached → (meaning_of command).HasLoaded before after NoMemory
loads_instead (commands.Frame path) before after reached loads = loads
loads_instead (commands.List path rate) before after reached loads = loads
loads_instead (commands.Plan path) before after reached loads = record { texts = loads.texts; refused = λ refusal same. absurd (cc) }
loads_instead (commands.Run path extent workers share) before after reached loads = tt
loads_instead (commands.Status path) before after reached loads = tt
loads_instead (commands.Verify path) before after reached loads = tt
loads_instead (commands.Sums path) before after reached loads = tt
loads_instead (commands.Qc path) before after reached loads = tt
loads_instead (commands.Sheet path) before after reached loads = tt
loads_instead (commands.Adopt path old_path) before after reached loads = tt
loads_instead (commands.Pull path margin) before after reached loads = record { texts = loads.texts; refused = λ refusal same. absurd (cc) }
loads_instead (commands.Demo count) before after reached loads = loads

pub heads_instead : (command : Command) (before after : ScanState) (reached : Outcome) → (meaning_of command).LooksAtHeads before after reached → (meaning_of command).LooksAtHeads before after NoMemory
heads_instead (commands.Frame path) before after reached heads = heads
heads_instead (commands.List path rate) before after reached heads = heads
heads_instead (commands.Plan path) before after reached heads = record { refused = λ refusal same. absurd (cc); planned = λ no. absurd no }
heads_instead (commands.Run path extent workers share) before after reached heads = record { refused = λ refusal same. absurd (cc); planned = λ no. absurd no }
heads_instead (commands.Status path) before after reached heads = record { refused = λ refusal same. absurd (cc); planned = λ no. absurd no }
heads_instead (commands.Verify path) before after reached heads = record { refused = λ refusal same. absurd (cc); planned = λ no. absurd no }
heads_instead (commands.Sums path) before after reached heads = record { refused = λ refusal same. absurd (cc); planned = λ no. absurd no }
heads_instead (commands.Qc path) before after reached heads = record { refused = λ refusal same. absurd (cc); planned = λ no. absurd no }
heads_instead (commands.Sheet path) before after reached heads = record { refused = λ refusal same. absurd (cc); planned = λ no. absurd no }
heads_instead (commands.Adopt path old_path) before after reached heads = record { refused = λ refusal same. absurd (cc); old_refused = λ refusal same. absurd (cc); planned = λ no. absurd no }
heads_instead (commands.Pull path margin) before after reached heads = record { refused = λ refusal same. absurd (cc); planned = λ no. absurd no }
heads_instead (commands.Demo count) before after reached heads = heads

-- What was left of the scan is what a command of a project means: of one that is right by a folder, and what it loaded is said there.
module _ (kind : Command) {Kind : Outcome → Type 0} (scan scan_after : ScanState)
    (kinds : (reached : Outcome) → Kind reached → IsKindOf kind reached)
    (right : (reached : Outcome) (output : List ℕ) → (meaning_of kind).IsRight reached output scan scan_after)
    (loaded : (reached : Outcome) → (meaning_of kind).HasLoaded scan scan_after reached) where
  pub replied_over : (result : Result (Vec ℕ Global) Outcome) → MatchResult result (λ text. Unit {0}) Kind → LeavesScan (result ≡ Err SourceFault) scan scan_after
      → MatchResult result (λ text. (meaning_of kind).LooksAtHeads scan scan_after Done) ((meaning_of kind).LooksAtHeads scan scan_after)
      → Replies result (IsReplyOverScan kind scan scan_after)
  replied_over (Ok text) is lent heads =
      reply_of _ _ _ _ _ tt (right Done text.items) (λ not_done. absurd (not_done refl)) (leaves_done (λ is_fault. cc) (λ is_fault. cc) lent) (loaded Done) heads
  replied_over (Err reached) is lent heads =
      reply_of _ _ _ _ _ (kinds reached is) (right reached (line_of reached)) (λ not_done. refl) (leaves_as (error_of _ _) (outcome_of _ _) lent) (loaded reached) heads
