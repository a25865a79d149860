-- A look at the ledger, and then at the files.
use Rattle.std.proofs.Common.{◌≡◌, ◌⊎◌, ◌∙◌, ℕ, ◌+◌, Bool, false, true, List, [], ◌∷◌, ◌++◌, append-nil, flat_map, length, Ok, Err, ap, inl, refl, sym, subst}
use Rattle.std.specs.List.{range_with_len}
use Rattle.std.proofs.lemmas.List.Concat.{flat_map-append}
use Rattle.cf_base.proofs.RangeLaws.{range_more}
use Rattle.cf_base.specs.declared.file.FileId.{FileId}
use Rattle.cf_base.specs.declared.file.FileId.TheVariants as file
use Rattle.conform_job.specs.Job.{JobData}
use Rattle.reel_disk.specs.Disk.{Files, History, IsStill, moment_of, view_of}
use Rattle.reel_disk.specs.Runs.{Extends, Spares}
use Rattle.reel_disk.specs.Call.{Call, writes_in}
use Rattle.reel_disk.specs.State.{DiskState, OnlyReads, FolderState, folder_state}
use Rattle.reel_disk.proofs.Moments.{passes_extends}
use Rattle.reel_disk.proofs.Sparing.{spares_along, still_spares}
use Rattle.resume_ledger.proofs.Reading.{still_along, still_view}
use Rattle.resume_ledger.specs.Calls.{Looks}
use Rattle.resume_ledger.specs.Look.{ViewState, HasLooked, IsLookFor, IsViewOf}
use Rattle.resume_ledger.specs.Peek.{HasPeeked, IsPeekFor}
use Rattle.resume_ledger.specs.declared.attach.OpenFault.{OpenFault}
use Rattle.reel_writer.specs.Reel.{frames_of, IsSoundReel}
use Rattle.reel_writer.specs.Damage.{HasChecked}
use Rattle.reel_qc.specs.Table.{quality_table}
use Rattle.reel_qc.specs.declared.table.probe.ProbeKind.{ProbeKind}
use Rattle.reel_qc.proofs.SheetLaws.{sheet_firmly, stays_acked, stays_sound}
use Rattle.reel_qc.specs.Sheet.{WritesSheet, sheet_file, sheet_peak, cell_frames}
use Rattle.outcome.specs.declared.Outcome.{Outcome}
use Rattle.outcome.specs.declared.Outcome.TheVariants as outcome
use Rattle.project_run.specs.Look.{HasFound, HasSeen, IsBehind, outcome_of_fault}
use Rattle.project_run.specs.Quality.{IsCounted, IsTabled}
use Rattle.project_run.specs.Calls.{WasOnlyRead}
use Rattle.project_run.specs.Sheet.{HasSheet, IsSheeted, sheet_text}
use Rattle.project_run.specs.Status.{IsStatus, status_text}
use Rattle.project_run.specs.Sums.{AreSums, IsSummed}
use Rattle.project_run.specs.Verify.{IsChecked, IsCheckedBehindLook, IsVerified}

-- a folder that is read, as its disk leaves it
pub folder_read : {tells : Bool} {a b : DiskState} → OnlyReads tells a b → WasOnlyRead (folder_state tells a) (folder_state tells b)
folder_read reads = record { still = reads.still; writes = reads.writes }

read_along : (disk mid after : FolderState) → mid.tells ≡ disk.tells → WasOnlyRead disk mid → WasOnlyRead mid after → WasOnlyRead disk after
read_along disk mid after tells looked read = record {
  still = λ t. still_along disk.history mid.history after.history (looked.still t) (read.still (tells ∙ t));
  writes = read.writes ∙ looked.writes;
}

-- what was found of the view of a look
abbrev found_by : (Found : ViewState → Type 0) (job : JobData) (disk after : FolderState) (view : ViewState) (digest : List ℕ) (count : ℕ) → digest ≡ job.parts.digest → count ≡ frames_of job
    → (disk.tells ≡ true → IsViewOf digest count (view_of disk.history) view) → length view.gates ≡ count
    → (reached : Outcome) → Found view → HasFound job disk after reached Found
found_by Found job disk after view digest count digest_is count_is shown size reached found = record {
  ledger = Ok view;
  looked = λ t. subst (λ d. IsViewOf d (frames_of job) (view_of disk.history) view) digest_is (subst (λ n. IsViewOf digest n (view_of disk.history) view) count_is (shown t));
  known = subst (λ n. length view.gates ≡ n) count_is size;
  found = found;
}

seen_by : (Found : ViewState → Type 0) (job : JobData) (disk mid after : FolderState) (view : ViewState) (digest : List ℕ) (count : ℕ) → digest ≡ job.parts.digest → count ≡ frames_of job
    → mid.tells ≡ disk.tells → WasOnlyRead disk mid → WasOnlyRead mid after
    → (disk.tells ≡ true → IsViewOf digest count (view_of disk.history) view) → length view.gates ≡ count
    → (reached : Outcome) → Found view → HasSeen job disk after reached Found
seen_by Found job disk mid after view digest count digest_is count_is tells looked read shown size reached found = record {
  seen = found_by Found job disk after view digest count digest_is count_is shown size reached found;
  reads = read_along disk mid after tells looked read;
}

-- a number that was peeked at, of a folder that was read and nothing else
pub status_by : (job : JobData) (disk after : FolderState) (acked : ℕ) (digest : List ℕ) (count : ℕ) → digest ≡ job.parts.digest → count ≡ frames_of job
    → WasOnlyRead disk after → (disk.tells ≡ true → HasPeeked digest count disk.history after.history (Ok acked)) → IsPeekFor digest count (Ok acked)
    → (reached : Outcome) → (reached ≡ outcome.Done) ⊎ (reached ≡ outcome.NoMemory) → (output : List ℕ) → (reached ≡ outcome.Done → output ≡ status_text count acked)
    → IsStatus job disk after reached output
status_by job disk after acked digest count digest_is count_is read peeked known reached which output text = record {
  answer = Ok acked;
  reached_is = which;
  form = λ done. (acked, refl, text done ∙ ap (λ n. status_text n acked) count_is);
  peeked = λ t. subst (λ d. HasPeeked d (frames_of job) disk.history after.history (Ok acked)) digest_is
      (subst (λ n. HasPeeked digest n disk.history after.history (Ok acked)) count_is (peeked t));
  known = subst (λ d. IsPeekFor d (frames_of job) (Ok acked)) digest_is (subst (λ n. IsPeekFor digest n (Ok acked)) count_is known);
  reads = read;
}

-- one line more, behind those of the frames before
pub one_line_more : (line : ℕ → List ℕ) (i : ℕ) → flat_map line (range_with_len 0 (i + 1)) ≡ flat_map line (range_with_len 0 i) ++ line i
one_line_more line i =
    ap (flat_map line) (range_more i) ∙ flat_map-append line (range_with_len 0 i) (i ∷ [])
    ∙ ap (λ (l : List ℕ). flat_map line (range_with_len 0 i) ++ l) (append-nil (line i))

-- what a look left as it was, is checked as it was before the look
checked_before : (job : JobData) (calls : List Call) (disk mid after : FolderState) (view : ViewState) → mid.tells ≡ disk.tells → (disk.tells ≡ true → IsStill disk.history mid.history)
    → (reached : Outcome) (output : List ℕ) → IsChecked job view calls mid after reached output → IsChecked job view calls disk after reached output
checked_before job calls disk mid after view tells looked reached output was = record {
  answer = was.answer;
  checked = λ t. subst (λ (files : Files). HasChecked job view files was.answer) (still_view disk.history mid.history (looked t)) (was.checked (subst (λ b. b ≡ true) (sym tells) t));
  known = was.known;
  read = was.read;
  reached_is = was.reached_is;
  form = was.form;
  intact = λ t world sound. was.intact (subst (λ b. b ≡ true) (sym tells) t) world (subst (IsSoundReel job world) (sym (still_view disk.history mid.history (looked t))) sound);
}

-- and is counted as it was
counted_before : (kinds : List ProbeKind) (job : JobData) (disk mid after : FolderState) (view : ViewState) → mid.tells ≡ disk.tells → (disk.tells ≡ true → IsStill disk.history mid.history)
    → (reached : Outcome) (output : List ℕ) → IsCounted kinds job view mid after reached output → IsCounted kinds job view (record disk { calls = mid.calls }) after reached output
counted_before kinds job disk mid after view tells looked reached output was = record {
  kind = was.kind;
  form = λ done t. subst (λ (files : Files). output ≡ quality_table kinds job view files) (still_view disk.history mid.history (looked t)) (was.form done (subst (λ b. b ≡ true) (sym tells) t));
  sound = λ done t world sound. was.sound done (subst (λ b. b ≡ true) (sym tells) t) world (subst (IsSoundReel job world) (sym (still_view disk.history mid.history (looked t))) sound);
  known = was.known;
}

-- and a sheet is made of it as it was
sheeted_before : (tone : List ℕ) (job : JobData) (disk mid after : FolderState) (view : ViewState) → mid.tells ≡ disk.tells → (disk.tells ≡ true → IsStill disk.history mid.history)
    → (reached : Outcome) (output : List ℕ) → IsSheeted tone job view mid after reached output → IsSheeted tone job view (record disk { calls = mid.calls }) after reached output
sheeted_before tone job disk mid after view tells looked reached output was = record {
  kind = was.kind;
  sheet = λ done t. sheet_firmly disk.history mid.history after.history _ _ (looked t)
      (ap (λ (files : Files). sheet_file tone job view files) (still_view disk.history mid.history (looked t))) (was.sheet done (subst (λ b. b ≡ true) (sym tells) t));
  form = λ done t. subst (λ (files : Files). output ≡ sheet_text (length (cell_frames job)) (sheet_peak tone job view files)) (still_view disk.history mid.history (looked t))
      (was.form done (subst (λ b. b ≡ true) (sym tells) t));
  made = was.made;
  known = was.known;
}

-- a folder that was looked at, and then spared
spared_along : (old mid new : History) (Mine : FileId → Type 0) → IsStill old mid → Extends mid new → Spares mid new Mine → Spares old new Mine
spared_along old mid new Mine still later spares = spares_along old mid new Mine (passes_extends old mid (moment_of old) still.passes) later (still_spares old mid Mine still) spares

-- nothing was asked of the disk behind the look
pub summed_by : (job : JobData) (disk after : FolderState) (view : ViewState) (digest : List ℕ) (count : ℕ) → digest ≡ job.parts.digest → count ≡ frames_of job
    → WasOnlyRead disk after
    → (disk.tells ≡ true → IsViewOf digest count (view_of disk.history) view) → length view.gates ≡ count
    → (reached : Outcome) (output : List ℕ) → AreSums job view reached output → IsSummed job disk after reached output
summed_by job disk after view digest count digest_is count_is looked shown size reached output was = record {
  seen = found_by (λ v. AreSums job v reached output) job disk after view digest count digest_is count_is shown size reached was;
  reads = looked;
}

module _ (job : JobData) (disk mid after : FolderState) (view : ViewState) (digest : List ℕ) (count : ℕ) where
  pub verified_by : digest ≡ job.parts.digest → count ≡ frames_of job → mid.tells ≡ disk.tells
      → WasOnlyRead disk mid → WasOnlyRead mid after
      → (disk.tells ≡ true → IsViewOf digest count (view_of disk.history) view) → length view.gates ≡ count → Looks digest count (Ok view) disk.calls mid.calls
      → (reached : Outcome) (output : List ℕ) → IsChecked job view mid.calls mid after reached output → IsVerified job disk after reached output
  verified_by digest_is count_is tells looked read shown size looks reached output was =
      seen_by (λ v. IsCheckedBehindLook job v disk after reached output) job disk mid after view digest count digest_is count_is tells looked read shown size reached record {
        behind = mid.calls;
        looks = subst (λ d. Looks d (frames_of job) (Ok view) disk.calls mid.calls) digest_is (subst (λ n. Looks digest n (Ok view) disk.calls mid.calls) count_is looks);
        checked = checked_before job mid.calls disk mid after view tells looked.still reached output was;
      }

  -- the calls of the look, by what it was asked for
  looks_as : digest ≡ job.parts.digest → count ≡ frames_of job → Looks digest count (Ok view) disk.calls mid.calls → Looks job.parts.digest (frames_of job) (Ok view) disk.calls mid.calls
  looks_as digest_is count_is calls =
      subst (λ d. Looks d (frames_of job) (Ok view) disk.calls mid.calls) digest_is (subst (λ n. Looks digest n (Ok view) disk.calls mid.calls) count_is calls)

  pub tabled_by : (kinds : List ProbeKind) → digest ≡ job.parts.digest → count ≡ frames_of job → mid.tells ≡ disk.tells
      → WasOnlyRead disk mid → WasOnlyRead mid after
      → (disk.tells ≡ true → IsViewOf digest count (view_of disk.history) view) → length view.gates ≡ count → Looks digest count (Ok view) disk.calls mid.calls
      → (reached : Outcome) (output : List ℕ) → IsCounted kinds job view mid after reached output → IsTabled kinds job disk after reached output
  tabled_by kinds digest_is count_is tells looked read shown size calls reached output was =
      seen_by (λ v. IsBehind job disk v (λ behind. IsCounted kinds job v behind after reached output)) job disk mid after view digest count digest_is count_is tells looked read shown size reached
      (mid.calls, looks_as digest_is count_is calls, counted_before kinds job disk mid after view tells looked.still reached output was)

  pub sheet_by : (tone : List ℕ) → digest ≡ job.parts.digest → count ≡ frames_of job → mid.tells ≡ disk.tells
      → WasOnlyRead disk mid → WritesSheet (writes_in mid.calls) (writes_in after.calls) → (disk.tells ≡ true → Extends mid.history after.history) → (disk.tells ≡ true → Spares mid.history after.history (λ q. q ≡ file.Sheet))
      → (disk.tells ≡ true → IsViewOf digest count (view_of disk.history) view) → length view.gates ≡ count → Looks digest count (Ok view) disk.calls mid.calls
      → (reached : Outcome) (output : List ℕ) → IsSheeted tone job view mid after reached output → HasSheet tone job disk after reached output
  sheet_by tone digest_is count_is tells looked written later spared shown size calls reached output was = record {
    seen = found_by (λ v. IsBehind job disk v (λ behind. IsSheeted tone job v behind after reached output)) job disk after view digest count digest_is count_is shown size reached
        (mid.calls, looks_as digest_is count_is calls, sheeted_before tone job disk mid after view tells looked.still reached output was);
    spares = λ t. spared_along disk.history mid.history after.history (λ q. q ≡ file.Sheet) (looked.still t) (later t) (spared t);
    sound = λ t world. stays_sound disk.history after.history (spared_along disk.history mid.history after.history (λ q. q ≡ file.Sheet) (looked.still t) (later t) (spared t)) job world;
    kept = λ t i. stays_acked disk.history after.history (spared_along disk.history mid.history after.history (λ q. q ≡ file.Sheet) (looked.still t) (later t) (spared t)) job i;
    writes = subst (λ (writes : List Call). WritesSheet writes (writes_in after.calls)) looked.writes written;
    refused = λ refused. absurd (let no : false ≡ true = refused in cc);
  }

-- the ledger can't be had, and there is no sheet
pub unsheeted : (tone : List ℕ) (job : JobData) (disk after : FolderState) (fault : OpenFault) (digest : List ℕ) (count : ℕ) → digest ≡ job.parts.digest → count ≡ frames_of job
    → (disk.tells ≡ true → HasLooked digest count disk.history after.history (Err fault)) → IsLookFor digest count (Err fault)
    → WasOnlyRead disk after → (output : List ℕ) → HasSheet tone job disk after (outcome_of_fault fault) output
unsheeted tone job disk after fault digest count digest_is count_is looked known read output = record {
  seen = record {
    ledger = Err fault;
    looked = λ t. subst (λ d. HasLooked d (frames_of job) disk.history after.history (Err fault)) digest_is (subst (λ n. HasLooked digest n disk.history after.history (Err fault)) count_is (looked t));
    known = subst (λ d. IsLookFor d (frames_of job) (Err fault)) digest_is (subst (λ n. IsLookFor digest n (Err fault)) count_is known);
    found = inl refl;
  };
  spares = λ t. still_spares disk.history after.history (λ q. q ≡ file.Sheet) (read.still t);
  sound = λ t world. stays_sound disk.history after.history (still_spares disk.history after.history (λ q. q ≡ file.Sheet) (read.still t)) job world;
  kept = λ t i. stays_acked disk.history after.history (still_spares disk.history after.history (λ q. q ≡ file.Sheet) (read.still t)) job i;
  writes = inl read.writes;
  refused = λ refused. read;
}
