-- From a reply to the answer.
use Rattle.std.proofs.Common.{◌≡◌, ◌≢◌, ℕ, true, List, Option, Some, None, MatchOption, MatchResult, Result, Ok, Err, refl, subst, inl, inr}
use Rattle.std.specs.Prelude.{◌⊎◌}
use Rattle.cf_base.specs.Sink.{SinkState}
use Rattle.scan_source.specs.State.{ScanState}
use Rattle.scan_source.specs.World.{World}
use Rattle.command_answers.specs.Answer.{IsPut, IsLinePut, IsUnread, Answered}
use Rattle.command_words.specs.Commands.{Spells, IsNoCommand}
use Rattle.printed_lines.specs.Lines.{line_of, IsMade}
use Rattle.command_answers.specs.Commands.{meaning_of}
use Rattle.command_answers.specs.Reply.{IsKindOf, IsReplyOverFolders}
use Rattle.command_answers.specs.States.{Folders, House}
use Rattle.reel_qc.specs.declared.table.probe.ProbeKind.{ProbeKind}
use Rattle.project_adopt.specs.Adopt.{GoesOn, IsAdoption, IsAdoptReply, IsPromised, IsRest, IsUnadopted}
use Rattle.reconform.specs.Adopt.{AdoptionMayWrite, HasAnswered}
use Rattle.reconform.specs.declared.adopting.Adopted.{Adopted}
use Rattle.reconform.specs.declared.adopting.AdoptFault.{AdoptFault}
use Rattle.reconform.specs.declared.adopting.AdoptFault.TheVariants as fault
use Rattle.project_run.specs.Look.{HasFound, HasSeen, IsLookReply, outcome_of_fault}
use Rattle.project_run.specs.Sheet.{HasSheet}
use Rattle.project_run.specs.Quality.{IsCounted}
use Rattle.reel_disk.specs.State.{FolderState}
use Rattle.project_run.specs.Calls.{IsRefusal}
use Rattle.frame_range.specs.declared.range.Extent.{Extent}
use Rattle.frame_range.specs.declared.range.FrameRange.{FrameRange}
use Rattle.project_run.specs.Run.{IsJobRun, IsRunReply, IsUnplanned}
use Rattle.project_run.specs.Status.{IsStatus}
use Rattle.project_run.specs.Sums.{AreSums}
use Rattle.project_run.specs.Verify.{IsCheckedBehindLook}
use Rattle.conform_job.specs.Job.{JobData}
use Rattle.cf_base.specs.declared.file.FileId.{FileId}
use Rattle.reel_disk.specs.Call.{OnlyWrites}
use Rattle.reel_disk.specs.Disk.{view_of}
use Rattle.reel_disk.proofs.Writing.{writing_wider}
use Rattle.reel_writer.specs.Reel.{frames_of, IsRunFile}
use Rattle.resume_ledger.specs.Ledger.{IsInForce}
use Rattle.resume_ledger.specs.declared.layout.Version.TheVariants.{Two}
use Rattle.resume_ledger.specs.Look.{ViewState}
use Rattle.resume_ledger.specs.declared.attach.OpenFault.{OpenFault}
use Rattle.command_words.specs.declared.command.Command.{Command}
use Rattle.command_words.specs.declared.command.Command.TheVariants as commands
use Rattle.outcome.specs.declared.Outcome.{Outcome}
use Rattle.outcome.specs.declared.Outcome.TheVariants as outcomes
use Rattle.command_words.proofs.Commands.{one_spelled}
use Rattle.command_answers.proofs.Replies.{came_without, heads_instead, loads_instead, memory_right}

-- what was found of the words
pub none_found : (words : List (List ℕ)) (found : Option Command) → found ≡ None
    → MatchOption found (IsNoCommand words) (λ command. Spells words command) → IsNoCommand words
none_found words found is says = subst (λ f. MatchOption f (IsNoCommand words) (λ command. Spells words command)) is says

pub one_found : (words : List (List ℕ)) (found : Option Command) (command : Command) → found ≡ Some command
    → MatchOption found (IsNoCommand words) (λ c. Spells words c) → Spells words command
one_found words found command is says = subst (λ f. MatchOption f (IsNoCommand words) (λ c. Spells words c)) is says

-- what was reached before anything was read
unread : (outcome : Outcome) (scan : ScanState) (folders : Folders) → IsUnread outcome scan scan folders folders outcome (line_of outcome)
unread outcome scan folders = record { reached_is = refl; line = refl; untouched_scan = refl; untouched_folders = refl }

pub answered_usage : {house : House} (words : List (List ℕ)) (scan : ScanState) (folders : Folders) (sink sink_after : SinkState) (result : Outcome)
    → IsNoCommand words → IsLinePut sink sink_after outcomes.Usage result → Answered house words scan scan folders folders sink sink_after result
answered_usage words scan folders sink sink_after result none (inl put) = record {
  reached = outcomes.Usage;
  output = line_of outcomes.Usage;
  put = put;
  usage = λ _. none;
  no_command = λ _. inl (unread outcomes.Usage scan folders);
  reply = λ command spells. absurd (none command spells);
}
answered_usage words scan folders sink sink_after result none (inr put) = absurd put.0

pub answered_unread : {house : House} (words : List (List ℕ)) (scan : ScanState) (folders : Folders) (sink sink_after : SinkState) (result : Outcome)
    → IsLinePut sink sink_after outcomes.NoMemory result → Answered house words scan scan folders folders sink sink_after result
answered_unread words scan folders sink sink_after result (inl put) = record {
  reached = outcomes.NoMemory;
  output = line_of outcomes.NoMemory;
  put = put;
  usage = λ same. absurd (cc);
  no_command = λ _. inr (unread outcomes.NoMemory scan folders);
  reply = λ command spells. inr (unread outcomes.NoMemory scan folders);
}
answered_unread words scan folders sink sink_after result (inr put) = absurd put.0

pub answered_by : {house : House} (words : List (List ℕ)) (command : Command) (scan scan_after : ScanState) (folders folders_after : Folders) (sink sink_after : SinkState) (result reached : Outcome) (output : List ℕ)
    → Spells words command → IsReplyOverFolders house command scan scan_after folders folders_after reached output → IsPut sink sink_after reached output result
    → Answered house words scan scan_after folders folders_after sink sink_after result
answered_by {house = house} words command scan scan_after folders folders_after sink sink_after result reached output spelled whole put = record {
  reached = reached;
  output = output;
  put = put;
  usage = λ same. absurd (subst (IsKindOf command) same whole.reply.kind);
  no_command = λ none. absurd (none command spelled);
  reply = λ other spells. inl (subst (λ c. IsReplyOverFolders house c scan scan_after folders folders_after reached output) (one_spelled words command other spelled spells) whole);
}

-- an outcome whose line is made is none of these
made_apart : (outcome : Outcome) → IsMade outcome → (outcome ≢ outcomes.SourceFault) × (outcome ≢ outcomes.DiskFault)
made_apart outcome made = (λ same. subst IsMade same made, λ same. subst IsMade same made)

-- the folder of an outcome whose line found no memory
none_instead : (told : Option World) (path : List ℕ) (disk disk_after : FolderState) (loads loads_after : ℕ) (reached : Outcome)
    → IsUnplanned told path disk disk_after loads loads_after reached → IsUnplanned told path disk disk_after loads loads_after outcomes.NoMemory
none_instead told path disk disk_after loads loads_after reached none = record { why = came_without told path; kind = tt; untouched = none.untouched; texts = none.texts; refused = λ refusal same. absurd (cc) }

ran_instead : {extent : Extent} {range : FrameRange} {share : ℕ} (job : JobData) (told : Option World) (disk disk_after : FolderState) (loads loads_after : ℕ) (reached : Outcome) (output : List ℕ)
    → IsJobRun job extent range share told loads loads_after disk disk_after reached output → IsJobRun job extent range share told loads loads_after disk disk_after outcomes.NoMemory (line_of outcomes.NoMemory)
ran_instead job told disk disk_after loads loads_after reached output ran = record {
  how = ran.how;
  report = ran.report;
  reply = record { reached_is = inr refl; form = λ same. absurd (cc) };
  frames = ran.frames;
  log = ran.log;
  ran = ran.ran;
  keeps = ran.keeps;
  loaded = ran.loaded;
  changed = ran.changed;
}

run_instead : {extent : Extent} {share : ℕ} (told : Option World) (path : List ℕ) (disk disk_after : FolderState) (loads loads_after : ℕ) (reached : Outcome) (output : List ℕ)
    → IsRunReply path extent share told loads loads_after disk disk_after reached output → IsRunReply path extent share told loads loads_after disk disk_after outcomes.NoMemory (line_of outcomes.NoMemory)
run_instead told path disk disk_after loads loads_after reached output (inl has) = inl (record {
  job = has.job;
  comes = has.comes;
  planned = has.planned;
  texts = has.texts;
  ran = ran_instead has.job told disk disk_after has.planned loads_after reached output has.ran;
})
run_instead told path disk disk_after loads loads_after reached output (inr none) = inr (none_instead told path disk disk_after loads loads_after reached none)

-- another outcome of the same look
look_instead : (Looked Instead : JobData → Type 0) (told : Option World) (path : List ℕ) (disk disk_after : FolderState) (loads loads_after : ℕ) (reached : Outcome) → ((job : JobData) → Looked job → Instead job)
    → IsLookReply told path disk disk_after loads loads_after reached Looked → IsLookReply told path disk disk_after loads loads_after outcomes.NoMemory Instead
look_instead Looked Instead told path disk disk_after loads loads_after reached each (inl has) = inl (record { job = has.job; comes = has.comes; texts = has.texts; looked = each has.job has.looked })
look_instead Looked Instead told path disk disk_after loads loads_after reached each (inr none) = inr (none_instead told path disk disk_after loads loads_after reached none)

found_instead : (Found Instead : ViewState → Type 0) (job : JobData) (disk disk_after : FolderState) (reached : Outcome) → ((view : ViewState) → Found view → Instead view)
    → HasFound job disk disk_after reached Found → HasFound job disk disk_after outcomes.NoMemory Instead
found_instead Found Instead job disk disk_after reached each seen = record {
  ledger = seen.ledger;
  looked = seen.looked;
  known = seen.known;
  found = by seen.ledger seen.found;
}
  where
    by : (ledger : Result ViewState OpenFault) → MatchResult ledger Found (λ fault. (reached ≡ outcome_of_fault fault) ⊎ (reached ≡ outcomes.NoMemory))
        → MatchResult ledger Instead (λ fault. (outcomes.NoMemory ≡ outcome_of_fault fault) ⊎ (outcomes.NoMemory ≡ outcomes.NoMemory))
    by (Ok view) found = each view found
    by (Err fault) refused = inr refl

seen_instead : (Found Instead : ViewState → Type 0) (job : JobData) (disk disk_after : FolderState) (reached : Outcome) → ((view : ViewState) → Found view → Instead view)
    → HasSeen job disk disk_after reached Found → HasSeen job disk disk_after outcomes.NoMemory Instead
seen_instead Found Instead job disk disk_after reached each has = record { seen = found_instead Found Instead job disk disk_after reached each has.seen; reads = has.reads }

status_instead : (job : JobData) (disk disk_after : FolderState) (reached : Outcome) (output : List ℕ) → IsStatus job disk disk_after reached output → IsStatus job disk disk_after outcomes.NoMemory (line_of outcomes.NoMemory)
status_instead job disk disk_after reached output status = record {
  answer = status.answer;
  reached_is = inr refl;
  form = λ same. absurd (cc);
  peeked = status.peeked;
  known = status.known;
  reads = status.reads;
}

check_instead : (job : JobData) (view : ViewState) (disk disk_after : FolderState) (reached : Outcome) (output : List ℕ) → IsCheckedBehindLook job view disk disk_after reached output → IsCheckedBehindLook job view disk disk_after outcomes.NoMemory (line_of outcomes.NoMemory)
check_instead job view disk disk_after reached output was = record {
  behind = was.behind;
  looks = was.looks;
  checked = let checked = was.checked in record {
    answer = checked.answer;
    checked = checked.checked;
    known = checked.known;
    read = checked.read;
    reached_is = inr refl;
    form = λ same. absurd (cc);
    intact = λ tells world sound frame kept found same. absurd (cc);
  };
}

sums_instead : (job : JobData) (view : ViewState) (output : List ℕ) → AreSums job view outcomes.NoMemory output
sums_instead job view output = record { kind = inr refl; form = λ same. absurd (cc) }

count_instead : (kinds : List ProbeKind) (job : JobData) (view : ViewState) (disk disk_after : FolderState) (output : List ℕ) → IsCounted kinds job view disk disk_after outcomes.NoMemory output
count_instead kinds job view disk disk_after output = record { kind = tt; form = λ same. absurd (cc); sound = λ same. absurd (cc); known = λ same. absurd (cc) }

sheet_instead : (tone : List ℕ) (job : JobData) (disk disk_after : FolderState) (reached : Outcome) (output : List ℕ) → HasSheet tone job disk disk_after reached output → HasSheet tone job disk disk_after outcomes.NoMemory (line_of outcomes.NoMemory)
unfolding found_instead
sheet_instead tone job disk disk_after reached output made = record {
  seen = found_instead _ _ job disk disk_after reached (λ view sheeted. (sheeted.0, sheeted.1, record { kind = tt; sheet = λ same. absurd (cc); form = λ same. absurd (cc); made = λ same. absurd (cc); known = λ same. absurd (cc) })) made.seen;
  spares = made.spares;
  sound = made.sound;
  kept = made.kept;
  writes = made.writes;
  refused = made.refused;
}

-- another outcome of the same adoption
rest_instead : (job : JobData) (told : Option World) (done : Adopted) (disk disk_after : FolderState) (loads loads_after : ℕ) (reached : Outcome) (output : List ℕ)
    → IsRest job done told loads loads_after disk disk_after reached output → IsRest job done told loads loads_after disk disk_after outcomes.NoMemory (line_of outcomes.NoMemory)
rest_instead job told done disk disk_after loads loads_after reached output rest = record {
  run_output = line_of outcomes.NoMemory;
  run = ran_instead job told disk disk_after loads loads_after reached rest.run_output rest.run;
  form = λ same. absurd (cc);
}

-- what an adoption may write is a file of a run
own_of_adoption : (job : JobData) (result : Result Adopted AdoptFault) (q : FileId) → AdoptionMayWrite job result q → IsRunFile job 0 (frames_of job) q
own_of_adoption job (Ok done) q own = own
own_of_adoption job (Err (fault.OldOtherJob kept wanted)) q own = absurd own
own_of_adoption job (Err (fault.OldBadLedger len)) q own = absurd own
own_of_adoption job (Err (fault.OtherJob kept wanted)) q own = absurd own
own_of_adoption job (Err (fault.BadLedger len)) q own = absurd own
own_of_adoption job (Err fault.DiskFault) q own = own
own_of_adoption job (Err fault.NoMemory) q own = own

adopted_instead : (job old_job : JobData) (told : Option World) (old old_after disk disk_after : FolderState) (loads loads_after : ℕ) (reached : Outcome) (output : List ℕ)
    → IsAdoption job old_job told loads loads_after old old_after disk disk_after reached output
    → IsAdoption job old_job told loads loads_after old old_after disk disk_after outcomes.NoMemory (line_of outcomes.NoMemory)
adopted_instead job old_job told old old_after disk disk_after loads loads_after reached output went = by went.adopted went.answer went.sealed went.went went.own
  where
    by : (adopted : Result Adopted AdoptFault) → HasAnswered job old_job disk.tells old.history old_after.history disk.history went.between.history adopted
        → MatchResult adopted (λ done. disk.tells ≡ true → IsInForce Two (view_of went.between.history)) (λ why. Unit {0})
        → MatchResult adopted (λ done. IsRest job done told loads loads_after went.between disk_after reached output) (λ why. IsUnadopted why went.between disk_after loads loads_after reached)
        → OnlyWrites (AdoptionMayWrite job adopted) disk.calls disk_after.calls
        → IsAdoption job old_job told loads loads_after old old_after disk disk_after outcomes.NoMemory (line_of outcomes.NoMemory)
    by (Ok done) answer sealed rest own = record {
      adopted = Ok done;
      between = went.between;
      tells = went.tells;
      answer = answer;
      went = rest_instead job told done went.between disk_after loads loads_after reached output rest;
      sealed = sealed;
      untouched = tt;
      reads = went.reads;
      acked = λ same. absurd (cc);
      spares = went.spares;
      writes = went.writes;
      own = own;
      taken = went.taken;
      sound_has = went.sound_has;
    }
    by (Err why) answer sealed unadopted own = record {
      adopted = Err fault.NoMemory;
      between = went.between;
      tells = went.tells;
      answer = tt;
      went = record { reached_is = refl; unchanged = unadopted.unchanged; unloaded = unadopted.unloaded };
      sealed = tt;
      untouched = λ none. absurd none;
      reads = went.reads;
      acked = λ same. absurd (cc);
      spares = went.spares;
      writes = went.writes;
      own = writing_wider (own_of_adoption job (Err why)) own;
      taken = went.taken;
      sound_has = went.sound_has;
    }

promised_instead : (job : JobData) (told : Option World) (disk disk_after : FolderState) (reached : Outcome) → IsPromised job told disk disk_after reached → IsPromised job told disk disk_after outcomes.NoMemory
promised_instead job told disk disk_after reached promised = record { run = promised.run; whole = λ same. absurd (cc) }

onward_instead : (job : JobData) (told : Option World) (old_path : List ℕ) (old old_after disk disk_after : FolderState) (loads loads_after : ℕ) (reached : Outcome) (output : List ℕ)
    → GoesOn job old_path told loads loads_after old old_after disk disk_after reached output
    → GoesOn job old_path told loads loads_after old old_after disk disk_after outcomes.NoMemory (line_of outcomes.NoMemory)
onward_instead job told old_path old old_after disk disk_after loads loads_after reached output (inl has) = inl (record {
  old_job = has.old_job;
  planned = has.planned;
  came = has.came;
  went = adopted_instead job has.old_job told old old_after disk disk_after has.planned loads_after reached output has.went;
  promise = λ t. promised_instead job None disk disk_after reached (has.promise t);
  sound = λ t sound. promised_instead job told disk disk_after reached (has.sound t sound);
})
onward_instead job told old_path old old_after disk disk_after loads loads_after reached output (inr none) = inr (record {
  found = outcomes.NoMemory;
  reached_is = refl;
  unplanned = none_instead told old_path disk disk_after loads loads_after none.found none.unplanned;
  untouched = none.untouched;
})

adopt_instead : (told : Option World) (path old_path : List ℕ) (old old_after disk disk_after : FolderState) (loads loads_after : ℕ) (reached : Outcome) (output : List ℕ)
    → IsAdoptReply path old_path told loads loads_after old old_after disk disk_after reached output
    → IsAdoptReply path old_path told loads loads_after old old_after disk disk_after outcomes.NoMemory (line_of outcomes.NoMemory)
adopt_instead told path old_path old old_after disk disk_after loads loads_after reached output (inl has) = inl (record {
  job = has.job;
  planned = has.planned;
  came = has.came;
  went = onward_instead has.job told old_path old old_after disk disk_after has.planned loads_after reached output has.went;
})
adopt_instead told path old_path old old_after disk disk_after loads loads_after reached output (inr none) = inr (record {
  unplanned = none_instead told path disk disk_after loads loads_after reached none.unplanned;
  untouched = none.untouched;
})

folder_instead : (house : House) (command : Command) (before after : ScanState) (folders folders_after : Folders) (reached : Outcome) (output : List ℕ)
    → (meaning_of command).UsesDisk house before after folders folders_after reached output → (meaning_of command).UsesDisk house before after folders folders_after outcomes.NoMemory (line_of outcomes.NoMemory)
folder_instead house (commands.Frame path) before after folders folders_after reached output uses = uses
folder_instead house (commands.List path rate) before after folders folders_after reached output uses = uses
folder_instead house (commands.Plan path) before after folders folders_after reached output uses = uses
folder_instead house (commands.Run path extent workers share) before after folders folders_after reached output uses = run_instead before.world path folders.reel folders_after.reel before.loads after.loads reached output uses
folder_instead house (commands.Status path) before after folders folders_after reached output uses =
    look_instead _ _ before.world path folders.reel folders_after.reel before.loads after.loads reached (λ job status. status_instead job folders.reel folders_after.reel reached output status) uses
folder_instead house (commands.Verify path) before after folders folders_after reached output uses =
    look_instead _ _ before.world path folders.reel folders_after.reel before.loads after.loads reached (λ job seen. seen_instead _ _ job folders.reel folders_after.reel reached (λ view checked. check_instead job view folders.reel folders_after.reel reached output checked) seen) uses
folder_instead house (commands.Sums path) before after folders folders_after reached output uses =
    look_instead _ _ before.world path folders.reel folders_after.reel before.loads after.loads reached (λ job seen. seen_instead _ _ job folders.reel folders_after.reel reached (λ view sums. sums_instead job view _) seen) uses
folder_instead house (commands.Qc path) before after folders folders_after reached output uses =
    look_instead _ _ before.world path folders.reel folders_after.reel before.loads after.loads reached (λ job seen. seen_instead _ _ job folders.reel folders_after.reel reached (λ view counted. (counted.0, counted.1, count_instead house.kinds job view _ folders_after.reel _)) seen) uses
folder_instead house (commands.Sheet path) before after folders folders_after reached output uses =
    look_instead _ _ before.world path folders.reel folders_after.reel before.loads after.loads reached (λ job made. sheet_instead house.tone job folders.reel folders_after.reel reached output made) uses
folder_instead house (commands.Adopt path old_path) before after folders folders_after reached output uses =
    adopt_instead before.world path old_path folders.old folders_after.old folders.reel folders_after.reel before.loads after.loads reached output uses
folder_instead house (commands.Pull path margin) before after folders folders_after reached output uses = uses
folder_instead house (commands.Demo count) before after folders folders_after reached output uses = uses

-- an outcome whose line found no memory
or_no_memory : {house : House} (command : Command) (before after : ScanState) (folders folders_after : Folders) (outcome : Outcome) (output : List ℕ) → IsMade outcome
    → IsReplyOverFolders house command before after folders folders_after outcome output → IsReplyOverFolders house command before after folders folders_after outcomes.NoMemory (line_of outcomes.NoMemory)
or_no_memory command before after folders folders_after outcome output made whole = record {
  reply = record {
    right = memory_right command (line_of outcomes.NoMemory) before after;
    line = λ _. refl;
    kind = tt;
    source_fault = λ same. absurd (cc);
    last = λ same. absurd (cc);
    steady = λ _. whole.reply.steady (made_apart outcome made).0;
    later = whole.reply.later;
    loads = loads_instead command before after outcome whole.reply.loads;
    heads = heads_instead command before after outcome whole.reply.heads;
    world = whole.reply.world;
  };
  folder = folder_instead _ command before after folders folders_after outcome output whole.folder;
  old_folder = whole.old_folder;
  disk_fault = λ same. absurd (cc);
  disk_steady = λ _. whole.disk_steady (made_apart outcome made).1;
  old_steady = λ _. whole.old_steady (made_apart outcome made).1;
  disk_later = whole.disk_later;
  old_later = whole.old_later;
}

pub answered_line : {house : House} (words : List (List ℕ)) (command : Command) (scan scan_after : ScanState) (folders folders_after : Folders) (sink sink_after : SinkState) (result reached : Outcome)
    → Spells words command → IsReplyOverFolders house command scan scan_after folders folders_after reached (line_of reached) → IsLinePut sink sink_after reached result
    → Answered house words scan scan_after folders folders_after sink sink_after result
answered_line words command scan scan_after folders folders_after sink sink_after result reached spelled whole (inl put) =
    answered_by words command scan scan_after folders folders_after sink sink_after result _ _ spelled whole put
answered_line words command scan scan_after folders folders_after sink sink_after result reached spelled whole (inr put) =
    answered_by words command scan scan_after folders folders_after sink sink_after result _ _ spelled (or_no_memory command scan scan_after folders folders_after reached _ put.0 whole) put.1

-- what is answered of a refusal is that refusal
pub put_refused : (sink sink_after : SinkState) (outcome result : Outcome) → IsLinePut sink sink_after outcome result → IsRefusal result → IsRefusal outcome
put_refused sink sink_after outcome result (inl (inl put)) refused = subst IsRefusal put.0 refused
put_refused sink sink_after outcome result (inl (inr put)) refused = absurd (subst IsRefusal put.0 refused)
put_refused sink sink_after outcome result (inr (_, inl put)) refused = absurd (subst IsRefusal put.0 refused)
put_refused sink sink_after outcome result (inr (_, inr put)) refused = absurd (subst IsRefusal put.0 refused)

pub done_unrefused : (sink sink_after : SinkState) (output : List ℕ) (result : Outcome) → IsPut sink sink_after outcomes.Done output result → IsRefusal result → ⊥
done_unrefused sink sink_after output result (inl put) refused = subst IsRefusal put.0 refused
done_unrefused sink sink_after output result (inr put) refused = subst IsRefusal put.0 refused
