-- Completeness: where nothing stands in the way of a command and no count rose, all causes but want of memory are shut out.
use Rattle.std.proofs.Common.{◌≡◌, ◌≢◌, ℕ, Bool, true, List, Option, Some, None, IfSome, MatchResult, Result, Ok, Err, refl, sym, ap, subst, ◌∙◌, inl, inr}
use Rattle.std.specs.Prelude.{◌⊎◌, IsOk, IsSomeAnd}
use Rattle.std.proofs.lemmas.Option.{same_Some}
use Rattle.cf_base.specs.Sink.{SinkState}
use Rattle.cf_base.specs.declared.reel.ReelEntry.{ReelEntry}
use Rattle.cf_base.specs.declared.timing.Rate.{Rate}
use Rattle.scan_source.specs.State.{ScanState}
use Rattle.dpx_header.specs.declared.fault.DpxFault.{DpxFault}
use Rattle.edl_events.specs.Lists.{list_of}
use Rattle.edl_events.specs.declared.ListRefusal.{ListRefusal}
use Rattle.scan_source.specs.World.{World, file_at}
use Rattle.conform_job.specs.Job.{JobData}
use Rattle.conform_job.specs.declared.parts.JobParts.{JobParts}
use Rattle.record_timeline.specs.Accepted.{frame_count}
use Rattle.reel_disk.specs.Call.{Call}
use Rattle.reel_disk.specs.Disk.{History, view_of}
use Rattle.resume_ledger.specs.Attach.{IsOtherJob, IsBadLedger, IsRefused}
use Rattle.resume_ledger.specs.Body.{digest_of}
use Rattle.resume_ledger.specs.Ledger.{IsFit}
use Rattle.resume_ledger.specs.Look.{ViewState, HasLooked}
use Rattle.resume_ledger.specs.Peek.{HasPeeked}
use Rattle.resume_ledger.specs.declared.attach.OpenFault.{OpenFault}
use Rattle.resume_ledger.specs.declared.attach.OpenFault.TheVariants as faults
use Rattle.reel_writer.specs.Reel.{frames_of}
use Rattle.reel_writer.specs.declared.damage.CheckFault.{CheckFault}
use Rattle.reel_writer.specs.declared.damage.CheckFault.TheVariants as checks
use Rattle.run_alone.specs.Ends.{IsEnd}
use Rattle.run_alone.specs.Run.{IsWhyUnopened}
use Rattle.frame_fetch.specs.declared.run_end.RunEnd.{RunEnd}
use Rattle.frame_fetch.specs.declared.run_end.RunEnd.TheVariants as ends
use Rattle.project_job.specs.Jobs.{ComesTo, HasPlanned, IsOfJob}
use Rattle.project_job.specs.Laws.{OneJob}
use Rattle.reel_disk.specs.State.{FolderState}
use Rattle.frame_range.specs.declared.range.Extent.{Extent}
use Rattle.frame_range.specs.declared.range.FrameRange.{FrameRange}
use Rattle.project_run.specs.Run.{IsJobRun, IsOfRun, IsRunReply, outcome_of_end}
use Rattle.project_adopt.specs.Adopt.{GoesOn, IsAdoption, IsAdoptReply, IsRest, IsUnadopted}
use Rattle.project_adopt.specs.Adopt as adopted
use Rattle.reconform.specs.Adopt.{HasAnswered}
use Rattle.reconform.specs.declared.adopting.Adopted.{Adopted}
use Rattle.reconform.specs.declared.adopting.AdoptFault.{AdoptFault}
use Rattle.reconform.specs.declared.adopting.AdoptFault.TheVariants as adopts
use Rattle.project_run.specs.Look.{HasFound, IsBehindLook, outcome_of_fault}
use Rattle.project_run.specs.Quality.{IsQcReply}
use Rattle.project_run.specs.Sheet.{IsSheetReply}
use Rattle.project_run.specs.Status.{IsStatusReply, outcome_of_peek}
use Rattle.reel_qc.specs.declared.table.probe.ProbeKind.{ProbeKind}
use Rattle.project_run.specs.Sums.{IsSumsReply}
use Rattle.project_run.specs.Verify.{IsChecked, IsVerifyReply, outcome_of_check}
use Rattle.command_words.specs.Commands.{Spells}
use Rattle.command_words.specs.declared.command.Command.{Command}
use Rattle.command_words.specs.declared.command.Command.TheVariants as commands
use Rattle.outcome.specs.declared.Outcome.{Outcome}
use Rattle.outcome.specs.declared.Outcome.TheVariants as outcomes
use Rattle.outcome.specs.declared.Refused.TheVariants as refused
use Rattle.outcome.specs.declared.Which.TheVariants as which
use Rattle.command_answers.specs.Commands.Frame.{IsFrameCase, info_in}
use Rattle.command_answers.specs.Commands.List.{IsListCase}
use Rattle.command_answers.specs.ByFolder.{HasFitFolder, HasSoundFolder}
use Rattle.command_answers.specs.ByJob.{HasJob, IsJobReply}
use Rattle.command_answers.specs.Commands.{meaning_of}
use Rattle.command_answers.specs.Commands.Demo.{IsDemoReply}
use Rattle.command_answers.specs.Commands.Plan.{IsPlanForm}
use Rattle.command_answers.specs.Commands.Pull.{IsPullForm}
use Rattle.command_answers.specs.Meaning.{IsThrough}
use Rattle.command_answers.specs.Reply.{IsKindOf, IsReplyOverFolders}
use Rattle.command_answers.specs.States.{Folders, House}
use Rattle.command_answers.specs.Answer.{IsPut, Answered}
use Rattle.command_answers.specs.Complete.{IsAccepted, HasNotRisen, IsComplete, IsUnfailed}
use Rattle.command_answers.proofs.Headlines.{at_world}
use Rattle.command_answers.proofs.Replies.{replied_run}

through : (command : Command) (reached : Outcome) → IsThrough reached → IsComplete command reached
through (commands.Verify path) (outcomes.Damaged frame kept found) is = tt
through (commands.Verify path) other is = is
through command reached is = is

-- ---- one file

frame_well : (file : Option (List ℕ)) (fault : DpxFault) → IsFrameCase file outcomes.Done → IsSomeAnd file (λ bytes. info_in bytes ≡ Err fault) → ⊥
frame_well None fault well bad = well
frame_well (Some bytes) fault well bad = absurd (let no = subst IsOk bad well in cc)

frame_complete : (file : Option (List ℕ)) (reached : Outcome) → IsFrameCase file outcomes.Done → IsFrameCase file reached → reached ≢ outcomes.SourceFault → IsThrough reached
frame_complete file outcomes.Done well case no_source = inl refl
frame_complete file (outcomes.Refused (refused.NoFile which.Frame)) well case no_source = absurd (subst (λ f. IsFrameCase f outcomes.Done) case well)
frame_complete file (outcomes.Refused (refused.Frame fault)) well case no_source = absurd (frame_well file fault well case)
frame_complete file (outcomes.Refused other) well case no_source = absurd case
frame_complete file outcomes.SourceFault well case no_source = absurd (no_source refl)
frame_complete file outcomes.NoMemory well case no_source = inr refl
frame_complete file other well case no_source = absurd case

list_well : (rate : Rate) (file : Option (List ℕ)) (refusal : ListRefusal) → IsListCase rate file outcomes.Done → IsSomeAnd file (λ text. list_of rate text ≡ Err refusal) → ⊥
list_well rate None refusal well bad = well
list_well rate (Some text) refusal well bad = absurd (let no = subst IsOk bad well in cc)

list_complete : (rate : Rate) (file : Option (List ℕ)) (reached : Outcome) → IsListCase rate file outcomes.Done → IsListCase rate file reached → reached ≢ outcomes.SourceFault → IsThrough reached
list_complete rate file outcomes.Done well case no_source = inl refl
list_complete rate file (outcomes.Refused (refused.NoFile which.List)) well case no_source = absurd (subst (λ f. IsListCase rate f outcomes.Done) case well)
list_complete rate file (outcomes.Refused (refused.List refusal)) well case no_source = absurd (list_well rate file refusal well case)
list_complete rate file (outcomes.Refused other) well case no_source = absurd case
list_complete rate file outcomes.SourceFault well case no_source = absurd (no_source refl)
list_complete rate file outcomes.NoMemory well case no_source = inr refl
list_complete rate file other well case no_source = absurd case

-- ---- the folder is unsealed or this job's

other_apart : (digest kept wanted : List ℕ) (count : ℕ) (old new : History) → IsFit digest count (view_of old) → IsOtherJob digest kept wanted old new → ⊥
other_apart digest kept wanted count old new fit other =
    let own = fit other.version other.in_force in
    other.others.differ (subst (λ body. digest_of body ≡ digest) (same_Some own.body other.body (sym own.there ∙ other.there)) own.own.job)

bad_apart : (digest : List ℕ) (count len : ℕ) (old new : History) → IsFit digest count (view_of old) → IsBadLedger digest count len old new → ⊥
bad_apart digest count len old new fit bad =
    let own = fit bad.version bad.in_force in
    (bad.bad.bad own.body own.there own.own.well).1 own.own.size

-- a run whose folder was opened
pub opened_complete : (job : JobData) (told : Option World) (world : World) (how : RunEnd) → told ≡ Some world → IsEnd job told how → how ≢ ends.SourceFault → how ≢ ends.DiskFault → (how ≡ ends.Done) ⊎ (how ≡ ends.NoMemory)
opened_complete job told world ends.Done is end no_source no_disk = inl refl
opened_complete job told world (ends.OtherJob kept wanted) is end no_source no_disk = absurd end
opened_complete job told world (ends.BadLedger len) is end no_source no_disk = absurd end
opened_complete job told world (ends.Changed key was now) is end no_source no_disk = absurd (let no = sym is ∙ end.untold in cc)
opened_complete job told world ends.SourceFault is end no_source no_disk = absurd (no_source refl)
opened_complete job told world ends.DiskFault is end no_source no_disk = absurd (no_disk refl)
opened_complete job told world ends.NoMemory is end no_source no_disk = inr refl

-- a run whose folder was not
pub refused_complete : (job : JobData) (tells : Bool) (old new : History) (how : RunEnd) → tells ≡ true → IsFit job.parts.digest (frames_of job) (view_of old) → IsWhyUnopened job tells old new how → how ≢ ends.DiskFault → (how ≡ ends.Done) ⊎ (how ≡ ends.NoMemory)
refused_complete job tells old new ends.Done told fit why no_disk = absurd why
refused_complete job tells old new (ends.OtherJob kept wanted) told fit why no_disk = absurd (other_apart job.parts.digest kept wanted (frames_of job) old new fit (why.2 told))
refused_complete job tells old new (ends.BadLedger len) told fit why no_disk = absurd (bad_apart job.parts.digest (frames_of job) len old new fit (why told))
refused_complete job tells old new (ends.Changed key was now) told fit why no_disk = absurd why
refused_complete job tells old new ends.SourceFault told fit why no_disk = absurd why
refused_complete job tells old new ends.DiskFault told fit why no_disk = absurd (no_disk refl)
refused_complete job tells old new ends.NoMemory told fit why no_disk = inr refl

-- a ledger that can't be had
fault_complete : (digest : List ℕ) (count : ℕ) (old new : History) (fault : OpenFault) → IsFit digest count (view_of old) → IsRefused digest count old new fault → outcome_of_fault fault ≢ outcomes.DiskFault → IsThrough (outcome_of_fault fault)
fault_complete digest count old new (faults.OtherJob kept wanted) fit refused no_disk = absurd (other_apart digest kept wanted count old new fit refused)
fault_complete digest count old new (faults.BadLedger len) fit refused no_disk = absurd (bad_apart digest count len old new fit refused)
fault_complete digest count old new faults.DiskFault fit refused no_disk = absurd (no_disk refl)
fault_complete digest count old new faults.NoMemory fit refused no_disk = inr refl

-- a look at it
peek_complete : (digest : List ℕ) (count : ℕ) (old new : History) (answer : Result ℕ OpenFault) → IsFit digest count (view_of old) → HasPeeked digest count old new answer → outcome_of_peek answer ≢ outcomes.DiskFault → IsThrough (outcome_of_peek answer)
peek_complete digest count old new (Ok acked) fit peeked no_disk = inl refl
peek_complete digest count old new (Err fault) fit peeked no_disk = fault_complete digest count old new fault fit peeked no_disk

-- a check of the files
check_complete : (path : List ℕ) (answer : Result ℕ CheckFault) → outcome_of_check answer ≢ outcomes.DiskFault → IsComplete (commands.Verify path) (outcome_of_check answer)
check_complete path (Ok records) no_disk = inl refl
check_complete path (Err (checks.Damaged frame kept found)) no_disk = tt
check_complete path (Err checks.DiskFault) no_disk = absurd (no_disk refl)
check_complete path (Err checks.NoMemory) no_disk = inr refl

-- ---- a project

-- what came in place of a job
pub planned_complete : OneJob → (told : Option World) (world : World) (path : List ℕ) (reached : Outcome) → told ≡ Some world → HasJob world path
    → IfSome told (λ files. HasPlanned (file_at files) path (Err reached)) → IsOfJob reached → reached ≢ outcomes.SourceFault → IsThrough reached
planned_complete laws told world path (outcomes.Refused refusal) is has why kind no_source =
    absurd (laws.apart (file_at world) path has.0.parts refusal has.1 (at_world told world (λ files. ComesTo (file_at files) path (Err refusal)) is why))
planned_complete laws told world path outcomes.SourceFault is has why kind no_source = absurd (no_source refl)
planned_complete laws told world path outcomes.NoMemory is has why kind no_source = inr refl
planned_complete laws told world path other is has why kind no_source = absurd kind

job_complete : OneJob → (IsForm : JobParts → List ℕ → Type 0) (world : World) (path output : List ℕ) (before after : ScanState) (reached : Outcome) → before.world ≡ Some world → HasJob world path
    → IsJobReply IsForm path reached output before after → reached ≢ outcomes.SourceFault → IsThrough reached
job_complete laws IsForm world path output before after outcomes.Done is has reply no_source = inl refl
job_complete laws IsForm world path output before after (outcomes.Refused refusal) is has reply no_source =
    absurd (laws.apart (file_at world) path has.0.parts refusal has.1 (at_world before.world world (λ files. ComesTo (file_at files) path (Err refusal)) is reply.told))
job_complete laws IsForm world path output before after outcomes.SourceFault is has reply no_source = absurd (no_source refl)
job_complete laws IsForm world path output before after outcomes.NoMemory is has reply no_source = inr refl
job_complete laws IsForm world path output before after other is has reply no_source = absurd reply.read.2

demo_complete : (count : ℕ) (output : List ℕ) (reached : Outcome) → IsDemoReply count reached output → IsThrough reached
demo_complete count output outcomes.Done reply = inl refl
demo_complete count output outcomes.NoMemory reply = inr refl
demo_complete count output other reply = absurd reply

-- the outcome of an end
pub by_end : (reels : List ReelEntry) (how : RunEnd) (reached : Outcome) → reached ≡ outcome_of_end reels how → (how ≡ ends.Done) ⊎ (how ≡ ends.NoMemory) → IsThrough reached
by_end reels how reached is (inl done) = inl (is ∙ ap (outcome_of_end reels) done)
by_end reels how reached is (inr memory) = inr (is ∙ ap (outcome_of_end reels) memory)

-- a run in a folder that is fit for its job
ran_complete : {extent : Extent} {range : FrameRange} {share : ℕ} (world : World) (told : Option World) → told ≡ Some world → (job : JobData) (disk disk_after : FolderState) (loads loads_after : ℕ) (reached : Outcome) (output : List ℕ) → disk.tells ≡ true → IsFit job.parts.digest (frames_of job) (view_of disk.history)
    → IsJobRun job extent range share told loads loads_after disk disk_after reached output → reached ≢ outcomes.SourceFault → reached ≢ outcomes.DiskFault → IsThrough reached
ran_complete world told is job disk disk_after loads loads_after reached output tells fit ran no_source no_disk = elim ran.reply.reached_is [
  | inl reached_is ↦
      let reels = job.parts.reels in
      let none_source : ran.how ≢ ends.SourceFault = λ source. no_source (reached_is ∙ ap (outcome_of_end reels) source) in
      let none_disk : ran.how ≢ ends.DiskFault = λ failed. no_disk (reached_is ∙ ap (outcome_of_end reels) failed) in
      by_end reels ran.how reached reached_is (elim ran.ran [
        | inl opened ↦ opened_complete job told world ran.how is opened.is_end none_source none_disk
        | inr refused ↦ refused_complete job disk.tells disk.history disk_after.history ran.how tells fit refused.why none_disk
      ])
  | inr memory ↦ inr memory
]

module _ (laws : OneJob) (world : World) (path : List ℕ) (disk : FolderState) (place : HasFitFolder world path disk) (told : Option World) (is : told ≡ Some world) where
  -- the folder is fit for the job that was run
  pub fit_for : (job : JobData) → IfSome told (λ files. ComesTo (file_at files) path (Ok job.parts)) → IsFit job.parts.digest (frames_of job) (view_of disk.history)
  fit_for job comes = subst (λ parts. IsFit parts.digest (frame_count parts.timeline.events) (view_of disk.history))
      (laws.one (file_at world) path place.job.parts job.parts place.comes (at_world told world (λ files. ComesTo (file_at files) path (Ok job.parts)) is comes)) place.fit

  run_complete : {extent : Extent} {share : ℕ} (disk_after : FolderState) (loads loads_after : ℕ) (reached : Outcome) (output : List ℕ) → IsRunReply path extent share told loads loads_after disk disk_after reached output
      → reached ≢ outcomes.SourceFault → reached ≢ outcomes.DiskFault → IsThrough reached
  run_complete disk_after loads loads_after reached output (inl has) no_source no_disk =
      ran_complete world told is has.job disk disk_after has.planned loads_after reached output place.tells (fit_for has.job has.comes.told) has.ran no_source no_disk
  run_complete disk_after loads loads_after reached output (inr none) no_source no_disk = planned_complete laws told world path reached is (place.job, place.comes) none.why.told none.kind no_source

  status_complete : (disk_after : FolderState) (loads loads_after : ℕ) (reached : Outcome) (output : List ℕ) → IsStatusReply path told loads loads_after disk disk_after reached output
      → reached ≢ outcomes.SourceFault → reached ≢ outcomes.DiskFault → IsThrough reached
  status_complete disk_after loads loads_after reached output (inl has) no_source no_disk = elim has.looked.reached_is [
    | inl reached_is ↦ subst IsThrough (sym reached_is)
        (peek_complete has.job.parts.digest (frames_of has.job) disk.history disk_after.history has.looked.answer (fit_for has.job has.comes.told) (has.looked.peeked place.tells) (λ failed. no_disk (reached_is ∙ failed)))
    | inr memory ↦ inr memory
  ]
  status_complete disk_after loads loads_after reached output (inr none) no_source no_disk = planned_complete laws told world path reached is (place.job, place.comes) none.why.told none.kind no_source

  -- what was found of the ledger, or that it can't be had
  found_complete : (command : Command) (Found : ViewState → Type 0) (job : JobData) (disk_after : FolderState) (reached : Outcome) → IfSome told (λ files. ComesTo (file_at files) path (Ok job.parts))
      → HasFound job disk disk_after reached Found → ((view : ViewState) → Found view → IsComplete command reached) → reached ≢ outcomes.DiskFault → IsComplete command reached
  found_complete command Found job disk_after reached comes seen each no_disk = by seen.ledger (seen.looked place.tells) seen.found
    where
      by : (ledger : Result ViewState OpenFault) → HasLooked job.parts.digest (frames_of job) disk.history disk_after.history ledger
          → MatchResult ledger Found (λ fault. (reached ≡ outcome_of_fault fault) ⊎ (reached ≡ outcomes.NoMemory))
          → IsComplete command reached
      by (Ok view) looked found = each view found
      by (Err fault) looked (inl reached_is) = subst (IsComplete command) (sym reached_is) (through command (outcome_of_fault fault)
          (fault_complete job.parts.digest (frames_of job) disk.history disk_after.history fault (fit_for job comes) looked (λ failed. no_disk (reached_is ∙ failed))))
      by (Err fault) looked (inr memory) = through command reached (inr memory)

  checked_complete : (job : JobData) (view : ViewState) (looked : List Call) (disk_after : FolderState) (reached : Outcome) (output : List ℕ) → reached ≢ outcomes.DiskFault → IsChecked job view looked disk disk_after reached output → IsComplete (commands.Verify path) reached
  checked_complete job view looked disk_after reached output no_disk checked = elim checked.reached_is [
    | inl reached_is ↦ subst (IsComplete (commands.Verify path)) (sym reached_is) (check_complete path checked.answer (λ failed. no_disk (reached_is ∙ failed)))
    | inr memory ↦ through (commands.Verify path) reached (inr memory)
  ]

  verify_complete : (disk_after : FolderState) (loads loads_after : ℕ) (reached : Outcome) (output : List ℕ) → IsVerifyReply path told loads loads_after disk disk_after reached output
      → reached ≢ outcomes.SourceFault → reached ≢ outcomes.DiskFault → IsComplete (commands.Verify path) reached
  verify_complete disk_after loads loads_after reached output (inl has) no_source no_disk =
      found_complete (commands.Verify path) _ has.job disk_after reached has.comes.told has.looked.seen (λ view was. checked_complete has.job view was.behind disk_after reached output no_disk was.checked) no_disk
  verify_complete disk_after loads loads_after reached output (inr none) no_source no_disk =
      through (commands.Verify path) reached (planned_complete laws told world path reached is (place.job, place.comes) none.why.told none.kind no_source)

  behind_complete : (reached : Outcome) → reached ≢ outcomes.DiskFault → IsBehindLook reached → IsThrough reached
  behind_complete outcomes.Done no_disk kind = inl refl
  behind_complete outcomes.DiskFault no_disk kind = absurd (no_disk refl)
  behind_complete outcomes.NoMemory no_disk kind = inr refl
  behind_complete other no_disk kind = absurd kind

  sums_complete : (disk_after : FolderState) (loads loads_after : ℕ) (reached : Outcome) (output : List ℕ) → IsSumsReply path told loads loads_after disk disk_after reached output
      → reached ≢ outcomes.SourceFault → reached ≢ outcomes.DiskFault → IsThrough reached
  sums_complete disk_after loads loads_after reached output (inl has) no_source no_disk =
      found_complete (commands.Sums path) _ has.job disk_after reached has.comes.told has.looked.seen (λ view sums. sums.kind) no_disk
  sums_complete disk_after loads loads_after reached output (inr none) no_source no_disk = planned_complete laws told world path reached is (place.job, place.comes) none.why.told none.kind no_source

  qc_complete : {kinds : List ProbeKind} (disk_after : FolderState) (loads loads_after : ℕ) (reached : Outcome) (output : List ℕ) → IsQcReply kinds path told loads loads_after disk disk_after reached output
      → reached ≢ outcomes.SourceFault → reached ≢ outcomes.DiskFault → IsThrough reached
  qc_complete disk_after loads loads_after reached output (inl has) no_source no_disk =
      found_complete (commands.Qc path) _ has.job disk_after reached has.comes.told has.looked.seen (λ view counted. behind_complete reached no_disk counted.2.kind) no_disk
  qc_complete disk_after loads loads_after reached output (inr none) no_source no_disk = planned_complete laws told world path reached is (place.job, place.comes) none.why.told none.kind no_source

  sheet_complete : {tone : List ℕ} (disk_after : FolderState) (loads loads_after : ℕ) (reached : Outcome) (output : List ℕ) → IsSheetReply tone path told loads loads_after disk disk_after reached output
      → reached ≢ outcomes.SourceFault → reached ≢ outcomes.DiskFault → IsThrough reached
  sheet_complete disk_after loads loads_after reached output (inl has) no_source no_disk =
      found_complete (commands.Sheet path) _ has.job disk_after reached has.comes.told has.looked.seen (λ view sheeted. behind_complete reached no_disk sheeted.2.kind) no_disk
  sheet_complete disk_after loads loads_after reached output (inr none) no_source no_disk = planned_complete laws told world path reached is (place.job, place.comes) none.why.told none.kind no_source

-- ---- an adoption

-- frames were taken over, or were not
adoption_complete : (job old_job : JobData) (tells : Bool) (old old_after disk between : History) (why : AdoptFault) → tells ≡ true
    → IsFit old_job.parts.digest (frames_of old_job) (view_of old) → IsFit job.parts.digest (frames_of job) (view_of disk)
    → HasAnswered job old_job tells old old_after disk between (Err why) → adopted.outcome_of_fault why ≢ outcomes.DiskFault → IsThrough (adopted.outcome_of_fault why)
adoption_complete job old_job tells old old_after disk between (adopts.OldOtherJob kept wanted) told old_fit fit answer no_disk =
    absurd (other_apart old_job.parts.digest kept wanted (frames_of old_job) old old_after old_fit (answer.2 told))
adoption_complete job old_job tells old old_after disk between (adopts.OldBadLedger len) told old_fit fit answer no_disk =
    absurd (bad_apart old_job.parts.digest (frames_of old_job) len old old_after old_fit (answer told))
adoption_complete job old_job tells old old_after disk between (adopts.OtherJob kept wanted) told old_fit fit answer no_disk =
    absurd (other_apart job.parts.digest kept wanted (frames_of job) disk between fit (answer.2 told).1)
adoption_complete job old_job tells old old_after disk between (adopts.BadLedger len) told old_fit fit answer no_disk =
    absurd (bad_apart job.parts.digest (frames_of job) len disk between fit (answer told).1)
adoption_complete job old_job tells old old_after disk between adopts.DiskFault told old_fit fit answer no_disk = absurd (no_disk refl)
adoption_complete job old_job tells old old_after disk between adopts.NoMemory told old_fit fit answer no_disk = inr refl

module _ (laws : OneJob) (world : World) (path old_path : List ℕ) (disk old : FolderState) (place : HasFitFolder world path disk) (old_place : HasSoundFolder world old_path old) (told : Option World) (is : told ≡ Some world) where
  -- the rest was run
  rest_complete : (job : JobData) (done : Adopted) (between disk_after : FolderState) (loads loads_after : ℕ) (reached : Outcome) (output : List ℕ) → between.tells ≡ true → IsFit job.parts.digest (frames_of job) (view_of between.history)
      → IsRest job done told loads loads_after between disk_after reached output → reached ≢ outcomes.SourceFault → reached ≢ outcomes.DiskFault → IsThrough reached
  rest_complete job done between disk_after loads loads_after reached output tells fit rest no_source no_disk =
      ran_complete world told is job between disk_after loads loads_after reached rest.run_output tells fit rest.run no_source no_disk

  went_complete : (job old_job : JobData) (old_after disk_after : FolderState) (loads loads_after : ℕ) (reached : Outcome) (output : List ℕ)
      → IsFit old_job.parts.digest (frames_of old_job) (view_of old.history) → IsFit job.parts.digest (frames_of job) (view_of disk.history)
      → IsAdoption job old_job told loads loads_after old old_after disk disk_after reached output → reached ≢ outcomes.SourceFault → reached ≢ outcomes.DiskFault → IsThrough reached
  went_complete job old_job old_after disk_after loads loads_after reached output old_fit fit went no_source no_disk = by went.adopted went.answer went.went
    where
      by : (adopted : Result Adopted AdoptFault) → HasAnswered job old_job disk.tells old.history old_after.history disk.history went.between.history adopted
          → MatchResult adopted (λ done. IsRest job done told loads loads_after went.between disk_after reached output) (λ why. IsUnadopted why went.between disk_after loads loads_after reached)
          → IsThrough reached
      by (Ok done) answer rest = rest_complete job done went.between disk_after loads loads_after reached output (went.tells ∙ place.tells) (answer.fit place.tells) rest no_source no_disk
      by (Err why) answer unadopted = subst IsThrough (sym unadopted.reached_is)
          (adoption_complete job old_job disk.tells old.history old_after.history disk.history went.between.history why place.tells old_fit fit answer (λ failed. no_disk (unadopted.reached_is ∙ failed)))

  -- what the old project came to in place of a job
  of_old_complete : (found reached : Outcome) → reached ≡ adopted.of_old_project found → (found ≢ outcomes.SourceFault → IsThrough found) → reached ≢ outcomes.SourceFault → IsThrough reached
  of_old_complete found reached reached_is through_found no_source = by found reached_is through_found
    where
      by : (found : Outcome) → reached ≡ adopted.of_old_project found → (found ≢ outcomes.SourceFault → IsThrough found) → IsThrough reached
      by (outcomes.Refused refusal) reached_is through_found = absurd (elim (through_found (λ same. cc)) [
        | inl done ↦ cc
        | inr memory ↦ cc
      ])
      by other reached_is through_found = subst IsThrough (sym reached_is) (through_found (λ source. no_source (reached_is ∙ source)))

  onward_complete : (job : JobData) (old_after disk_after : FolderState) (loads loads_after : ℕ) (reached : Outcome) (output : List ℕ) → IfSome told (λ files. ComesTo (file_at files) path (Ok job.parts))
      → GoesOn job old_path told loads loads_after old old_after disk disk_after reached output → reached ≢ outcomes.SourceFault → reached ≢ outcomes.DiskFault → IsThrough reached
  onward_complete job old_after disk_after loads loads_after reached output comes (inl has) no_source no_disk =
      went_complete job has.old_job old_after disk_after has.planned loads_after reached output
      (fit_for laws world old_path old old_place.place told is has.old_job has.came.comes.told) (fit_for laws world path disk place told is job comes) has.went no_source no_disk
  onward_complete job old_after disk_after loads loads_after reached output comes (inr none) no_source no_disk =
      of_old_complete none.found reached none.reached_is
      (λ none_source. planned_complete laws told world old_path none.found is (old_place.place.job, old_place.place.comes) none.unplanned.why.told none.unplanned.kind none_source) no_source

  adopt_complete : (disk_after old_after : FolderState) (loads loads_after : ℕ) (reached : Outcome) (output : List ℕ) → IsAdoptReply path old_path told loads loads_after old old_after disk disk_after reached output
      → reached ≢ outcomes.SourceFault → reached ≢ outcomes.DiskFault → IsThrough reached
  adopt_complete disk_after old_after loads loads_after reached output (inl has) no_source no_disk =
      onward_complete has.job old_after disk_after has.planned loads_after reached output has.came.comes.told has.went no_source no_disk
  adopt_complete disk_after old_after loads loads_after reached output (inr none) no_source no_disk =
      planned_complete laws told world path reached is (place.job, place.comes) none.unplanned.why.told none.unplanned.kind no_source

-- ---- one thread

reply_complete : {house : House} → OneJob → (command : Command) (world : World) (scan scan_after : ScanState) (folders folders_after : Folders) (reached : Outcome) (output : List ℕ) → scan.world ≡ Some world → IsAccepted command world folders
    → IsReplyOverFolders house command scan scan_after folders folders_after reached output → reached ≢ outcomes.SourceFault → reached ≢ outcomes.DiskFault → IsComplete command reached
reply_complete laws (commands.Frame path) world scan scan_after folders folders_after reached output is accepted whole no_source no_disk =
    let right = whole.reply.right in
    let file = at_world scan.world world (λ files. right.0 ≡ file_at files path) is right.1 in
    frame_complete right.0 reached (subst (λ f. IsFrameCase f outcomes.Done) (sym file) accepted) right.2.case no_source
reply_complete laws (commands.List path rate) world scan scan_after folders folders_after reached output is accepted whole no_source no_disk =
    let right = whole.reply.right in
    let file = at_world scan.world world (λ files. right.0 ≡ file_at files path) is right.1 in
    list_complete rate right.0 reached (subst (λ f. IsListCase rate f outcomes.Done) (sym file) accepted) right.2.case no_source
reply_complete laws (commands.Plan path) world scan scan_after folders folders_after reached output is accepted whole no_source no_disk =
    job_complete laws IsPlanForm world path output scan scan_after reached is accepted whole.reply.right no_source
reply_complete laws (commands.Run path extent workers share) world scan scan_after folders folders_after reached output is accepted whole no_source no_disk =
    run_complete laws world path folders.reel accepted scan.world is folders_after.reel scan.loads scan_after.loads reached output whole.folder no_source no_disk
reply_complete laws (commands.Status path) world scan scan_after folders folders_after reached output is accepted whole no_source no_disk =
    status_complete laws world path folders.reel accepted scan.world is folders_after.reel scan.loads scan_after.loads reached output whole.folder no_source no_disk
reply_complete laws (commands.Verify path) world scan scan_after folders folders_after reached output is accepted whole no_source no_disk =
    verify_complete laws world path folders.reel accepted scan.world is folders_after.reel scan.loads scan_after.loads reached output whole.folder no_source no_disk
reply_complete laws (commands.Sums path) world scan scan_after folders folders_after reached output is accepted whole no_source no_disk =
    sums_complete laws world path folders.reel accepted scan.world is folders_after.reel scan.loads scan_after.loads reached output whole.folder no_source no_disk
reply_complete laws (commands.Qc path) world scan scan_after folders folders_after reached output is accepted whole no_source no_disk =
    qc_complete laws world path folders.reel accepted scan.world is folders_after.reel scan.loads scan_after.loads reached output whole.folder no_source no_disk
reply_complete laws (commands.Sheet path) world scan scan_after folders folders_after reached output is accepted whole no_source no_disk =
    sheet_complete laws world path folders.reel accepted scan.world is folders_after.reel scan.loads scan_after.loads reached output whole.folder no_source no_disk
reply_complete laws (commands.Adopt path old_path) world scan scan_after folders folders_after reached output is accepted whole no_source no_disk =
    adopt_complete laws world path old_path folders.reel folders.old accepted.0 accepted.1 scan.world is folders_after.reel folders_after.old scan.loads scan_after.loads reached output whole.folder no_source no_disk
reply_complete laws (commands.Pull path margin) world scan scan_after folders folders_after reached output is accepted whole no_source no_disk =
    job_complete laws (IsPullForm margin) world path output scan scan_after reached is accepted whole.reply.right no_source
reply_complete laws (commands.Demo count) world scan scan_after folders folders_after reached output is accepted whole no_source no_disk =
    demo_complete count output reached whole.reply.right

-- no call failed on a folder
disks_steady : (command : Command) (folders folders_after : Folders) → HasNotRisen folders.reel.faults folders_after.reel.faults → HasNotRisen folders.old.faults folders_after.old.faults → (meaning_of command).HasFailedDisk folders folders_after → ⊥
disks_steady (commands.Adopt path old_path) folders folders_after disk_steady old_steady (inl failed) = old_steady failed
disks_steady (commands.Adopt path old_path) folders folders_after disk_steady old_steady (inr failed) = disk_steady failed
disks_steady command folders folders_after disk_steady old_steady failed = disk_steady failed

pub put_complete : (command : Command) (sink sink_after : SinkState) (reached : Outcome) (output : List ℕ) (result : Outcome) → IsPut sink sink_after reached output result → HasNotRisen sink.faults sink_after.faults → IsComplete command reached → IsComplete command result
put_complete command sink sink_after reached output result (inl put) steady complete = subst (IsComplete command) (sym put.0) complete
put_complete command sink sink_after reached output result (inr put) steady complete = absurd (steady put.2)

pub answered_complete : {house : House} → OneJob → (words : List (List ℕ)) (scan scan_after : ScanState) (folders folders_after : Folders) (sink sink_after : SinkState) (result : Outcome)
    → Answered house words scan scan_after folders folders_after sink sink_after result
    → (command : Command) (world : World) → Spells words command → scan.world ≡ Some world → IsAccepted command world folders
    → HasNotRisen scan.faults scan_after.faults → HasNotRisen folders.reel.faults folders_after.reel.faults → HasNotRisen folders.old.faults folders_after.old.faults → HasNotRisen sink.faults sink_after.faults → IsComplete command result
answered_complete laws words scan scan_after folders folders_after sink sink_after result answered command world spells is accepted scans_steady disk_steady old_steady sink_steady =
    put_complete command sink sink_after answered.reached answered.output result answered.put sink_steady (elim (answered.reply command spells) [
      | inl whole ↦ reply_complete laws command world scan scan_after folders folders_after answered.reached answered.output is accepted whole
          (λ source. scans_steady (whole.reply.source_fault source)) (λ failed. disks_steady command folders folders_after disk_steady old_steady (whole.disk_fault failed))
      | inr unread ↦ through command answered.reached (inr unread.reached_is)
    ])

-- ---- where scan or disk don't tell

pub unfailed : (command : Command) (reached : Outcome) → IsKindOf command reached → reached ≢ outcomes.SourceFault → reached ≢ outcomes.DiskFault → IsUnfailed command reached
unfailed command outcomes.SourceFault kind no_source no_disk = absurd (no_source refl)
unfailed command outcomes.DiskFault kind no_source no_disk = absurd (no_disk refl)
unfailed command outcomes.Done kind no_source no_disk = kind
unfailed command outcomes.Usage kind no_source no_disk = kind
unfailed command (outcomes.Refused refusal) kind no_source no_disk = kind
unfailed command (outcomes.OtherJob kept wanted) kind no_source no_disk = kind
unfailed command (outcomes.BadLedger len) kind no_source no_disk = kind
unfailed command (outcomes.OldRefused refusal) kind no_source no_disk = kind
unfailed command (outcomes.OldOtherJob kept wanted) kind no_source no_disk = kind
unfailed command (outcomes.OldBadLedger len) kind no_source no_disk = kind
unfailed command (outcomes.Damaged frame kept found) kind no_source no_disk = kind
unfailed command (outcomes.Changed reel key was now) kind no_source no_disk = kind
unfailed command (outcomes.SinkFault instead) kind no_source no_disk = kind
unfailed command outcomes.NoMemory kind no_source no_disk = kind

-- the outcomes of a run are those of its command
pub run_kind : (path : List ℕ) (extent : Extent) (workers share : ℕ) (reached : Outcome) → (reached ≡ outcomes.Done) ⊎ IsOfRun reached → IsKindOf (commands.Run path extent workers share) reached
run_kind path extent workers share reached (inl done) = subst (IsKindOf (commands.Run path extent workers share)) (sym done) tt
run_kind path extent workers share reached (inr kind) = replied_run path extent workers share reached kind

pub put_unfailed : (command : Command) (sink sink_after : SinkState) (reached : Outcome) (output : List ℕ) (result : Outcome) → IsPut sink sink_after reached output result → HasNotRisen sink.faults sink_after.faults → IsUnfailed command reached → IsUnfailed command result
put_unfailed command sink sink_after reached output result (inl put) steady is = subst (IsUnfailed command) (sym put.0) is
put_unfailed command sink sink_after reached output result (inr put) steady is = absurd (steady put.2)

pub answered_unfailed : {house : House} (words : List (List ℕ)) (scan scan_after : ScanState) (folders folders_after : Folders) (sink sink_after : SinkState) (result : Outcome)
    → Answered house words scan scan_after folders folders_after sink sink_after result
    → (command : Command) → Spells words command
    → HasNotRisen scan.faults scan_after.faults → HasNotRisen folders.reel.faults folders_after.reel.faults → HasNotRisen folders.old.faults folders_after.old.faults → HasNotRisen sink.faults sink_after.faults → IsUnfailed command result
answered_unfailed words scan scan_after folders folders_after sink sink_after result answered command spells scans_steady disk_steady old_steady sink_steady =
    put_unfailed command sink sink_after answered.reached answered.output result answered.put sink_steady (elim (answered.reply command spells) [
      | inl whole ↦ unfailed command answered.reached whole.reply.kind (λ source. scans_steady (whole.reply.source_fault source)) (λ failed. disks_steady command folders folders_after disk_steady old_steady (whole.disk_fault failed))
      | inr unread ↦ subst (IsUnfailed command) (sym unread.reached_is) tt
    ])
