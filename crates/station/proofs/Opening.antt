-- How a crew begins: from the opening of a folder to the station.
use Rattle.std.proofs.Common.{◌≡◌, inl, ℕ, Bool, true, false, List, [], length, get_or, refl, sym, ◌∙◌, subst, arith}
use Rattle.std.specs.Prelude.{Option, Some, None, IfSome, ◌↔◌}
use Rattle.reel_disk.specs.State.{DiskState}
use Rattle.scan_source.specs.World.{World}
use Rattle.conform_job.specs.Job.{JobData, file_of}
use Rattle.frame_render.specs.Frame.{frame_size}
use Rattle.reel_disk.specs.Disk.{Moment, History, moment_of, view_of}
use Rattle.reel_disk.specs.Runs.{LeavesOnly, Spares, Surely}
use Rattle.reel_disk.specs.Start.{start_of, at_start}
use Rattle.reel_disk.proofs.Sparing.{spares_wider}
use Rattle.reel_disk.proofs.Images.{view_is_image}
use Rattle.resume_ledger.specs.Attach.{IsOpened, IsOpenFor}
use Rattle.resume_ledger.specs.Ledger.{Acks, Agrees, IsLedgerFile, IsWrittenLedgerFile, LedgerState}
use Rattle.resume_ledger.specs.Sound.{WritesOnly}
use Rattle.resume_ledger.proofs.Versions.{agrees_shown}
use Rattle.render_board.specs.Board.{Log}
use Rattle.reel_writer.specs.Changes.{HasKept}
use Rattle.reel_writer.specs.Reel.{frames_of, HasAcked, HasFrameFiles, IsReelRun, IsSoundReel}
use Rattle.reel_writer.specs.View.{IsOpening, ReelView}
use Rattle.reel_writer.proofs.Writing.{writes_wider}
use Rattle.station.specs.Station.{IsCrewFile, MayCrewWrite}
use Rattle.station.specs.StationSteps.{IsBeginning}
use Rattle.station.proofs.StationKeeps.{began_along, run_from, spares_from, writes_from}

-- a run from a state at its first moment
run_at : (job : JobData) (told : Option World) (old new : History) → old.now ≡ 0 → IsReelRun job told old new → IsReelRun job told (at_start old) new
run_at job told old new zero run = subst (λ (n : ℕ). IsReelRun job told (record { now = n; past = old.past }) new) zero run

pub run_back : (job : JobData) (told : Option World) (old new : History) → old.now ≡ 0 → IsReelRun job told (at_start old) new → IsReelRun job told old new
run_back job told old new zero run = subst (λ (n : ℕ). IsReelRun job told (record { now = n; past = old.past }) new) (sym zero) run

-- the same run from another state with the same first moment
pub start_at : (job : JobData) (told : Option World) (old new : History) → old.past 0 ≡ new.past 0 → IsReelRun job told (at_start new) new → IsReelRun job told (at_start old) new
start_at job told old new same run = record {
  extends = record { later = run.extends.later; kept = λ m le. let zero : 0 ≡ m = omega (arith, le) in subst (λ (n : ℕ). new.past n ≡ old.past n) zero (sym same) };
  keeps = λ whole. run.keeps (subst (λ (m : Moment). HasFrameFiles job m.view) same whole);
  sound = by told run.sound;
}
  where
    by : (told : Option World) → IfSome told (λ world. Surely (new.past 0) (IsSoundReel job world) → LeavesOnly (at_start new) new (IsSoundReel job world))
        → IfSome told (λ world. Surely (old.past 0) (IsSoundReel job world) → LeavesOnly (at_start old) new (IsSoundReel job world))
    by None sound = tt
    by (Some world) sound = λ all. sound (subst (λ (m : Moment). Surely m (IsSoundReel job world)) same all)

-- what the ledger says, the view shows
ledger_shown : (job : JobData) (moment : Moment) (ledger : LedgerState) → Agrees moment ledger → ledger.digest ≡ job.parts.digest → length ledger.gates ≡ frames_of job → (i : ℕ) → HasAcked job i moment.view ↔ (get_or ledger.gates i false ≡ true)
ledger_shown job moment ledger agrees digest size i =
    let shown = agrees_shown moment ledger agrees i moment.view (view_is_image moment) in (
      λ acks. shown.1 (subst (λ (d : List ℕ). Acks d (length ledger.gates) i moment.view) (sym digest) (subst (λ (n : ℕ). Acks job.parts.digest n i moment.view) (sym size) acks)),
      λ is. subst (λ (d : List ℕ). Acks d (frames_of job) i moment.view) digest (subst (λ (n : ℕ). Acks ledger.digest n i moment.view) size (shown.0 is)),
    )

-- a folder that was opened, and no more, acknowledges just what the opening kept
pub opened_acks : (job : JobData) (old new : History) (ledger : LedgerState) → IsOpened job.parts.digest (frames_of job) (file_of job) (frame_size job) (view_of old) new ledger
    → IsOpenFor job.parts.digest (frames_of job) ledger → (i : ℕ) → HasAcked job i (view_of new) ↔ HasKept job i (view_of old)
opened_acks job old new ledger opened known i =
    let shown = ledger_shown job (moment_of new) ledger opened.agrees known.digest_is known.size i in
    (λ acks. (opened.gates i).0 (shown.0 acks), λ kept. shown.1 ((opened.gates i).1 kept))

module _ {D : Type 0} (job : JobData) (told : Option World) (start : Option Moment) (tells : Bool) (state : D → DiskState) where
  pub beginning : (disk : D) (reel : ReelView D) (log : Log) (low high workers : ℕ) → start ≡ start_of tells (state disk).history → (tells ≡ true → (state disk).history.now ≡ 0) → (state disk).faults ≡ 0
      → (tells ≡ true → IsReelRun job told (state disk).history (state reel.disk).history) → (tells ≡ true → Spares (state disk).history (state reel.disk).history IsLedgerFile) → (tells ≡ true → WritesOnly (state disk).history (state reel.disk).history IsWrittenLedgerFile)
      → (tells ≡ true → IsOpened job.parts.digest (frames_of job) (file_of job) (frame_size job) (view_of (state disk).history) (state reel.disk).history reel.ledger)
      → IsOpenFor job.parts.digest (frames_of job) reel.ledger → IsOpening reel → (state reel.disk).faults ≡ (state disk).faults
      → log ≡ record { start = reel.ledger.gates; low = low; high = high; workers = workers; steps = [] } → IsBeginning job told start tells state reel log
  beginning disk reel log low high workers start_is zero none run spares writes opened known opening steady is =
      subst (IsBeginning job told start tells state reel) (sym is) (record {
        began = start_is ∙ began_along tells (state disk).history (state reel.disk).history (λ t. (run t).extends);
        run = λ t. run_from job told (state disk).history (state reel.disk).history ((run t).extends.kept 0 (omega arith)) (run_at job told (state disk).history (state reel.disk).history (zero t) (run t));
        spares = λ t. spares_from (state disk).history (state reel.disk).history (IsCrewFile job (record { start = reel.ledger.gates; low = low; high = high; workers = workers; steps = [] })) ((run t).extends.kept 0 (omega arith))
            (spares_wider (at_start (state disk).history) (state reel.disk).history IsLedgerFile (IsCrewFile job (record { start = reel.ledger.gates; low = low; high = high; workers = workers; steps = [] })) (λ q own. inl own)
            (subst (λ (n : ℕ). Spares (record { now = n; past = (state disk).history.past }) (state reel.disk).history IsLedgerFile) (zero t) (spares t)));
        writes = λ t. writes_from (state disk).history (state reel.disk).history (MayCrewWrite job (record { start = reel.ledger.gates; low = low; high = high; workers = workers; steps = [] })) ((run t).extends.kept 0 (omega arith))
            (writes_wider (at_start (state disk).history) (state reel.disk).history IsWrittenLedgerFile (MayCrewWrite job (record { start = reel.ledger.gates; low = low; high = high; workers = workers; steps = [] })) (λ q own. inl own)
            (subst (λ (n : ℕ). WritesOnly (record { now = n; past = (state disk).history.past }) (state reel.disk).history IsWrittenLedgerFile) (zero t) (writes t)));
        none = opening.0;
        is_open = known.is_open;
        sound_disk = steady ∙ none;
        first = refl;
        size = known.size;
        kept = opening.1;
        as_many = refl;
        gates = λ i. refl;
        from = subst (λ (s : Option Moment). IfSome s (λ moment. (i : ℕ) → (get_or reel.ledger.gates i false ≡ true) ↔ HasKept job i moment.view)) (sym start_is) (from tells zero opened);
        shown = λ t. ledger_shown job (moment_of (state reel.disk).history) reel.ledger (opened t).agrees known.digest_is known.size;
      })
    where
      from : (tells : Bool) → (tells ≡ true → (state disk).history.now ≡ 0) → (tells ≡ true → IsOpened job.parts.digest (frames_of job) (file_of job) (frame_size job) (view_of (state disk).history) (state reel.disk).history reel.ledger)
          → IfSome (start_of tells (state disk).history) (λ moment. (i : ℕ) → (get_or reel.ledger.gates i false ≡ true) ↔ HasKept job i moment.view)
      from true zero opened = subst (λ (n : ℕ). (i : ℕ) → (get_or reel.ledger.gates i false ≡ true) ↔ HasKept job i ((state disk).history.past n).view) (zero refl) (opened refl).gates
      from false zero opened = tt
