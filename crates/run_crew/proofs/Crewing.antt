-- What a crew leaves, from what the station kept.
use Rattle.std.proofs.Common.{◌≡◌, inl, inr, ℕ, zero, suc, ◌<◌, ◌≤◌, Bool, true, false, List, [], ◌∷◌, length, get_or, slice_get, refl, sym, ◌∙◌, ap, subst, arith}
use Rattle.std.specs.Prelude.{◌↔◌, Option, Some, None, IfSome, MatchOption, count_by, is_some}
use Rattle.std.proofs.lemmas.Bool.{false≢true, true≢false}
use Rattle.std.proofs.lemmas.Option.{same_Some}
use Rattle.cf_base.specs.declared.file.FileId.{FileId}
use Rattle.frame_range.specs.declared.range.FrameRange.{FrameRange}
use Rattle.reel_disk.specs.Call.{OnlyWrites}
use Rattle.reel_disk.specs.State.{DiskState, LeavesDisk, folder_state}
use Rattle.reel_disk.proofs.Writing.{writing_wider}
use Rattle.scan_source.specs.World.{World}
use Rattle.frame_share.specs.declared.step.ShareStep.{ShareStep}
use Rattle.conform_job.specs.Job.{JobData, file_of}
use Rattle.frame_render.specs.Frame.{frame_size}
use Rattle.reel_disk.specs.Disk.{Files, Moment, History, IsFirm, IsLoose, moment_of, view_of}
use Rattle.reel_disk.specs.Runs.{Spares}
use Rattle.reel_disk.specs.Start.{start_of, at_start}
use Rattle.reel_disk.proofs.Sparing.{spares_wider}
use Rattle.resume_ledger.specs.Attach.{IsOpened, IsOpenFor}
use Rattle.resume_ledger.specs.Ledger.{IsFit, LedgerState}
use Rattle.resume_ledger.specs.Sound.{WritesOnly}
use Rattle.render_board.specs.Board.{Log, has_stop, is_done, is_in}
use Rattle.render_board.proofs.Counts.{range_count}
use Rattle.render_board.proofs.Steps.{range_is, within_range}
use Rattle.render_board.specs.History.{finished_of, first_why, is_disk, stops_of}
use Rattle.render_board.specs.declared.step.Step.{Step}
use Rattle.render_board.specs.declared.step.Step.TheVariants.{Claim, Finish, Stop}
use Rattle.render_board.specs.declared.step.Why.{Why}
use Rattle.render_board.specs.declared.step.Why.TheVariants.{Source, Disk, Memory, Changed}
use Rattle.reel_writer.specs.Changes.{HasKept}
use Rattle.reel_writer.specs.Reel.{frames_of, HasFrameFiles, IsReelRun, IsRunFile, IsSoundReel}
use Rattle.run_alone.specs.declared.report.Report.{Report}
use Rattle.frame_fetch.specs.declared.run_end.RunEnd.{RunEnd}
use Rattle.frame_fetch.specs.declared.run_end.RunEnd.TheVariants.{Done, NoMemory}
use Rattle.run_crew.specs.Crews.{AreShared, HasDiskFailed, TookNoSteps, TookSteps, WasRunByCrew, WasUnmade, end_by}
use Rattle.run_crew.specs.inside.Crews.{IsClosedStation}
use Rattle.run_crew.specs.declared.crew.Crew.{Crew}
use Rattle.run_alone.specs.Ends.{IsEnd}
use Rattle.run_alone.specs.Run.{AreAllAcked, IsOwnFileOf, MayWriteOf, RunMayWrite}
use Rattle.run_alone.specs.inside.Run.{IsRangeFile}
use Rattle.station.specs.Needed.{needed_by}
use Rattle.station.specs.Station.{IsStation, StationView, HasChanges, IsCrewFile, IsRangeFile as IsLogFile, MayCrewWrite, ShowsDone}
use Rattle.reel_writer.specs.View.{IsReelOf}
use Rattle.reel_writer.proofs.Writing.{writes_wider}
use Rattle.run_alone.specs.Safe.{IsSafeRun}
use Rattle.run_alone.proofs.Closing.{images_acked, whole_reel}
use Rattle.run_alone.proofs.Ranging.{own_of, written_of}
use Rattle.run_crew.proofs.Gathering.{end_done, no_first}
use Rattle.station.proofs.Opening.{opened_acks, run_back, start_at}
use Rattle.crew_rest.proofs.Resting.{closed_has_stop}
use Rattle.station.proofs.StationKeeps.{open_shows}

-- where the first stop stands
first_at : (steps : List Step) (why : Why) → first_why steps ≡ Some why → (k : ℕ) × (w : ℕ) × (slice_get steps k ≡ Some (Stop w why))
first_at [] why first = cc
first_at (Claim w i ∷ steps) why first = let found = first_at steps why first in (suc found.0, found.1, found.2)
first_at (Finish w i ∷ steps) why first = let found = first_at steps why first in (suc found.0, found.1, found.2)
first_at (Stop w other ∷ steps) why first = (0, w, ap (λ (y : Why). Some (Stop w y)) (same_Some _ _ first))

-- a run that goes by its steps ends as one may
ends_so : (job : JobData) (told : Option World) (steps : List Step) (why : Option Why) → HasChanges job told steps → first_why steps ≡ why → IsEnd job told (end_by why)
ends_so job told steps None changes first = tt
ends_so job told steps (Some Source) changes first = tt
ends_so job told steps (Some Disk) changes first = tt
ends_so job told steps (Some Memory) changes first = tt
ends_so job told steps (Some (Changed key was now)) changes first = let at = first_at steps (Changed key was now) first in changes at.0 at.1 key was now at.2

-- what is said of a disk by the steps of a board that was made
pub disk_by_steps : (o : Option (List Step)) (end : RunEnd) (P : List Step → Type 0) {a b : DiskState} → is_some o ≡ true → IfSome o P → ((steps : List Step) → P steps → LeavesDisk (1 ≤ stops_of is_disk steps) a b) → LeavesDisk (HasDiskFailed o end) a b
disk_by_steps None end P some made each = absurd (false≢true some)
disk_by_steps (Some steps) end P some made each = each steps made

-- a board that was made has steps
pub by_steps : {A : Type 0} (o : Option A) (N : Type 0) (P Q : A → Type 0) → is_some o ≡ true → IfSome o P → ((a : A) → P a → Q a) → MatchOption o N Q
by_steps None N P Q some made each = absurd (false≢true some)
by_steps (Some a) N P Q some made each = each a made

pub with_steps : {A : Type 0} (o : Option A) (P : A → Type 0) (Q : Type 0) → is_some o ≡ true → IfSome o P → ((a : A) → P a → Q) → Q
with_steps None P Q some made each = absurd (false≢true some)
with_steps (Some a) P Q some made each = each a made

-- where no worker stopped, every frame from the range's first up to its end is done
pub whole_range : (log : Log) (count : ℕ) → log.high ≤ count → (has_stop log.steps ≡ false → (i : ℕ) → i < count → is_in log i ≡ true → is_done log i ≡ true)
    → has_stop log.steps ≡ false → (i : ℕ) → log.low ≤ i → i < log.high → is_done log i ≡ true
whole_range log count most all none i late within = all none i (omega (arith, within, most)) (within_range log i late within)

-- what a board's run over its range writes is what a run over the range may
range_file_of : (job : JobData) (log : Log) (low high : ℕ) → log.low ≡ low → log.high ≡ high → (q : FileId) → IsLogFile job log q → IsRangeFile job low high log.start q
range_file_of job log low high from to q (inl body) = inl body
range_file_of job log low high from to q (inr frame) =
    let late : log.low ≤ frame.0 = (range_is log frame.0 frame.1).0 in
    let early : frame.0 < log.high = (range_is log frame.0 frame.1).1 in
    inr (frame.0, omega (arith, late, from), omega (arith, early, to), frame.2, frame.3)

module _ {D : Type 0} (job : JobData) (low high : ℕ) (told : Option World) (workers : ℕ) (start : Option Moment) (tells : Bool) (state : D → DiskState) (disk other : D) (steps : List Step) (end : RunEnd) (report : Report)
    (start_is : start ≡ start_of tells (state disk).history) (at_zero : tells ≡ true → (state disk).history.now ≡ 0) (made : IsClosedStation job low high told workers start tells state steps end report other) where
  abbrev v : StationView D
  v = made.station

  began : tells ≡ true → (state disk).history.past 0 ≡ (state v.reel.disk).history.past 0
  began = by tells (sym start_is ∙ made.is.began)
    where
      by : (t : Bool) → start_of t (state disk).history ≡ start_of t (state v.reel.disk).history → t ≡ true → (state disk).history.past 0 ≡ (state v.reel.disk).history.past 0
      by true same is = same_Some _ _ same
      by false same is = absurd (true≢false (sym is))

  pub crew_run : tells ≡ true → IsReelRun job told (state disk).history (state other).history
  crew_run t =
      subst (λ (d : D). IsReelRun job told (state disk).history (state d).history) made.disk_is
      (run_back job told (state disk).history (state v.reel.disk).history (at_zero t)
      (start_at job told (state disk).history (state v.reel.disk).history (began t) (made.is.run t)))

  opening : tells ≡ true → (k : ℕ) → (get_or v.log.start k false ≡ true) ↔ HasKept job k (view_of (state disk).history)
  opening t = by tells start_is made.is.from t
    where
      by : (b : Bool) → start ≡ start_of b (state disk).history → IfSome start (λ moment. (i : ℕ) → (get_or v.log.start i false ≡ true) ↔ HasKept job i moment.view) → b ≡ true
          → (k : ℕ) → (get_or v.log.start k false ≡ true) ↔ HasKept job k (view_of (state disk).history)
      by true same from is =
          subst (λ (n : ℕ). (k : ℕ) → (get_or v.log.start k false ≡ true) ↔ HasKept job k ((state disk).history.past n).view) (sym (at_zero t))
          (subst (λ (s : Option Moment). IfSome s (λ moment. (i : ℕ) → (get_or v.log.start i false ≡ true) ↔ HasKept job i moment.view)) same from)
      by false same from is = absurd (true≢false (sym is))

  based : tells ≡ true → (state disk).history.past (state disk).history.now ≡ (state v.reel.disk).history.past 0
  based t = ap (state disk).history.past (at_zero t) ∙ began t

  pub crew_spares : tells ≡ true → Spares (state disk).history (state other).history (IsOwnFileOf job low high (view_of (state disk).history))
  crew_spares t =
      subst (λ (d : D). Spares (state disk).history (state d).history (IsOwnFileOf job low high (view_of (state disk).history))) made.disk_is
      (spares_wider (state disk).history (state v.reel.disk).history (IsCrewFile job v.log) (IsOwnFileOf job low high (view_of (state disk).history)) own
      (from_start (made.is.spares t)))
    where
      own : (q : FileId) → IsCrewFile job v.log q → IsOwnFileOf job low high (view_of (state disk).history) q
      own q (inl ledger) = inl ledger
      own q (inr frame) = own_of job low high v.log.start (view_of (state disk).history) (opening t) q (range_file_of job v.log low high made.range.0 made.range.1 q frame)

      from_start : Spares (at_start (state v.reel.disk).history) (state v.reel.disk).history (IsCrewFile job v.log) → Spares (state disk).history (state v.reel.disk).history (IsCrewFile job v.log)
      from_start spares = record {
        files = λ m from to q others. spares.files m (omega arith) to q others ∙ ap (λ (x : Moment). x.view q) (sym (based t));
        loose = λ m from to p others there. subst (λ (x : Moment). IsLoose x.loose p) (sym (based t)) (spares.loose m (omega arith) to p others there);
      }

  pub crew_writes : tells ≡ true → WritesOnly (state disk).history (state other).history (MayWriteOf job low high (view_of (state disk).history))
  crew_writes t =
      subst (λ (d : D). WritesOnly (state disk).history (state d).history (MayWriteOf job low high (view_of (state disk).history))) made.disk_is
      (writes_wider (state disk).history (state v.reel.disk).history (MayCrewWrite job v.log) (MayWriteOf job low high (view_of (state disk).history)) own
      (from_start (made.is.writes t)))
    where
      own : (q : FileId) → MayCrewWrite job v.log q → MayWriteOf job low high (view_of (state disk).history) q
      own q (inl ledger) = inl ledger
      own q (inr frame) = written_of job low high v.log.start (view_of (state disk).history) (opening t) q (range_file_of job v.log low high made.range.0 made.range.1 q frame)

      from_start : WritesOnly (at_start (state v.reel.disk).history) (state v.reel.disk).history (MayCrewWrite job v.log) → WritesOnly (state disk).history (state v.reel.disk).history (MayCrewWrite job v.log)
      from_start writes = record {
        files = λ m from to q others firm. writes.files m (omega arith) to q others (subst (λ (x : Moment). IsFirm x.loose q) (based t) firm) ∙ ap (λ (x : Moment). x.view q) (sym (based t));
        loose = λ m from to p others there. subst (λ (x : Moment). IsLoose x.loose p) (sym (based t)) (writes.loose m (omega arith) to p others there);
      }

  ends_here : end ≡ end_by (first_why v.log.steps)
  ends_here = made.ends ∙ ap (λ (l : List Step). end_by (first_why l)) (sym made.steps_are)

  open_still : stops_of is_disk v.log.steps ≡ 0 → v.reel.ledger.closed ≡ false
  open_still none = by v.reel.ledger.closed made.is.closed.0
    where
      by : (b : Bool) → (b ≡ true → 1 ≤ stops_of is_disk v.log.steps) → b ≡ false
      by true some = absurd (omega (arith, none, some refl))
      by false some = refl

  pub crewed : (tells ≡ true → IsFit job.parts.digest (frames_of job) (view_of (state disk).history)) → (share : ℕ) (log : List ShareStep) → AreShared share log report → TookSteps job low high told workers share tells (state disk).history (state other).history steps end report log
  crewed fit share log shared =
      subst (λ (l : List Step). TookSteps job low high told workers share tells (state disk).history (state other).history l end report log) made.steps_are
      (subst (λ (d : D). TookSteps job low high told workers share tells (state disk).history (state d).history v.log.steps end report log) made.disk_is
      (subst (λ (n : ℕ). TookSteps job low high told n share tells (state disk).history (state v.reel.disk).history v.log.steps end report log) made.named
      (subst (λ (n : ℕ). TookSteps job n high told v.log.workers share tells (state disk).history (state v.reel.disk).history v.log.steps end report log) made.range.0
      (subst (λ (n : ℕ). TookSteps job v.log.low n told v.log.workers share tells (state disk).history (state v.reel.disk).history v.log.steps end report log) made.range.1 (record {
        gates = v.log.start;
        size = made.is.size;
        opening = opening;
        fit = fit;
        legal = made.is.legal;
        ends = ends_here;
        is_end = subst (IsEnd job told) (sym ends_here) (ends_so job told v.log.steps (first_why v.log.steps) made.is.changed refl);
        unstopped = (
          (λ done. end_done v.log.steps (first_why v.log.steps) refl (sym ends_here ∙ done)),
          (λ none. ends_here ∙ ap end_by (no_first v.log.steps none)),
        );
        all = all_at_done;
        kept = kept_then;
        rendered = rendered_then;
        rest = λ done. let sum = range_count v.log made.is.legal (all_at_done done) in omega (arith, sum, rendered_then);
        shared = shared;
        few = few_then;
        exit = λ t none. open_shows job told v.log v.reel.ledger.closed (view_of (state v.reel.disk).history) (open_still none) (made.is.shown t);
        failed_exit = λ t some. subst (λ (b : Bool). ShowsDone job v.log b (view_of (state v.reel.disk).history)) (made.is.closed.1 some) (made.is.shown t);
      })))))
    where
      all_at_done : end ≡ Done → (i : ℕ) → v.log.low ≤ i → i < v.log.high → is_done v.log i ≡ true
      all_at_done done = made.whole (ap has_stop (sym made.steps_are) ∙ end_done v.log.steps (first_why v.log.steps) refl (sym ends_here ∙ done))

      kept_then : report.kept ≡ count_by (λ gate. gate) v.log.start
      kept_then = made.kept ∙ made.is.kept

      few_then : report.loads ≤ needed_by job v.log.steps
      few_then = let few = made.few in let same = ap (needed_by job) made.steps_are in omega (arith, few, same)

      rendered_then : report.rendered ≡ length (finished_of v.log.steps)
      rendered_then = made.rendered ∙ ap (λ (l : List Step). length (finished_of l)) (sym made.steps_are)

  -- the disk's count of faults: it was 0 at the start
  crew_failed : 1 ≤ stops_of is_disk steps → 1 ≤ (state other).faults
  crew_failed some =
      subst (λ (d : D). 1 ≤ (state d).faults) made.disk_is (made.is.failed (made.is.closed.1 (subst (λ (l : List Step). 1 ≤ stops_of is_disk l) (sym made.steps_are) some)))

  crew_steady : (1 ≤ stops_of is_disk steps → ⊥) → (state other).faults ≡ 0
  crew_steady never =
      subst (λ (d : D). (state d).faults ≡ 0) made.disk_is (made.is.steady (open_still
      (let few : stops_of is_disk v.log.steps ≡ stops_of is_disk steps = ap (stops_of is_disk) made.steps_are in zero_of (stops_of is_disk v.log.steps) (λ some. never (omega (arith, some, few))))))
    where
      zero_of : (n : ℕ) → (1 ≤ n → ⊥) → n ≡ 0
      zero_of zero none = refl
      zero_of (suc n) none = absurd (none (omega arith))

  -- the disk failed just where a worker stopped for it
  pub crew_disk : (state disk).faults ≡ 0 → (state other).loans ≡ (state disk).loans → LeavesDisk (1 ≤ stops_of is_disk steps) (state disk) (state other)
  crew_disk none lent = record {
    counts = record {
      cause = record { later = omega (arith, none); failed = λ some. let rose = crew_failed some in omega (arith, none, rose) };
      steady = λ never. crew_steady never ∙ sym none;
    };
    lent = lent;
  }

module _ {D : Type 0} (job : JobData) (told : Option World) (start : Option Moment) (tells : Bool) (state : D → DiskState) where
  -- where every frame is done and no worker stopped, every image acknowledges every frame
  pub crew_acked : (v : StationView D) → IsStation job told start tells state v → IsReelOf job tells state v.reel → has_stop v.log.steps ≡ false
      → ((i : ℕ) → v.log.low ≤ i → i < v.log.high → is_done v.log i ≡ true) → tells ≡ true → AreAllAcked job v.log.low v.log.high (moment_of (state v.reel.disk).history)
  crew_acked v is of none all t = record {
    each = λ i late within. images_acked job tells state v.reel of (of.agrees (still v.reel.ledger.closed is.closed.0) t) i (is.gates i ∙ all i late within);
  }
    where
      still : (b : Bool) → (b ≡ true → 1 ≤ stops_of is_disk v.log.steps) → b ≡ false
      still true some = absurd (true≢false (sym (closed_has_stop v.log.steps (some refl)) ∙ none))
      still false some = refl

-- a crew without steps
pub stepless : {S D : Type 0} (job : JobData) (low high : ℕ) (told : Option World) (workers share : ℕ) (tells : Bool) (old new : History) (crew : Crew S D) → crew.history ≡ None
    → TookNoSteps job tells old new crew.end crew.report crew.log → WasRunByCrew job low high told workers share tells old new crew
stepless job low high told workers share tells old new crew none why =
    subst (λ (o : Option (List Step)). MatchOption o (TookNoSteps job tells old new crew.end crew.report crew.log) (λ steps. TookSteps job low high told workers share tells old new steps crew.end crew.report crew.log)) (sym none) why

-- no memory was left once the folder was open
pub was_unmade : (job : JobData) (tells : Bool) (old new : History) (ledger : LedgerState) (end : RunEnd) (report : Report) (log : List ShareStep)
    → (tells ≡ true → IsOpened job.parts.digest (frames_of job) (file_of job) (frame_size job) (view_of old) new ledger) → IsOpenFor job.parts.digest (frames_of job) ledger
    → end ≡ NoMemory → (report.kept ≡ 0) × (report.rendered ≡ 0) → (report.loads ≡ 0) × (report.misses ≡ 0) → log ≡ [] → WasUnmade job tells old new end report log
was_unmade job tells old new ledger end report log opened known ends none loads unasked = record {
  no_memory = ends;
  fit = λ told. (opened told).fit;
  exit = λ told. opened_acks job old new ledger (opened told) known;
  kept = none.0;
  rendered = none.1;
  loads = loads;
  unasked = unasked;
}

-- a crew whose folder is open is not refused
pub may_crew : (job : JobData) (low high : ℕ) (why : Option Why) (q : FileId) → IsRunFile job low high q → RunMayWrite job low high (end_by why) q
may_crew job low high None q own = own
may_crew job low high (Some Source) q own = own
may_crew job low high (Some Disk) q own = own
may_crew job low high (Some Memory) q own = own
may_crew job low high (Some (Changed key was now)) q own = own

-- what it keeps at each moment, and which files it writes
pub crew_keeps : {D : Type 0} (job : JobData) (range : FrameRange) (told : Option World) (workers : ℕ) (start : Option Moment) (tells : Bool) (state : D → DiskState) (disk other : D) (steps : List Step) (end : RunEnd) (report : Report)
    → start ≡ start_of tells (state disk).history → (tells ≡ true → (state disk).history.now ≡ 0) → IsClosedStation job range.low range.high told workers start tells state steps end report other
    → ((world : World) (files : Files) → IsSoundReel job world files → HasFrameFiles job files) → (end ≡ Done → tells ≡ true → AreAllAcked job range.low range.high (moment_of (state other).history))
    → OnlyWrites (IsRunFile job range.low range.high) (state disk).calls (state other).calls → IsSafeRun job range told end (folder_state tells (state disk)) (folder_state tells (state other))
crew_keeps job range told workers start tells state disk other steps end report start_is at_zero made sound_has acked own = record {
  run = run;
  acked = acked;
  whole = λ done t. whole_reel job range.low range.high told (state disk).history (state other).history (run t) (acked done t);
  sound_has = sound_has;
  spares = crew_spares job range.low range.high told workers start tells state disk other steps end report start_is at_zero made;
  writes = crew_writes job range.low range.high told workers start tells state disk other steps end report start_is at_zero made;
  own = subst (λ (e : RunEnd). OnlyWrites (RunMayWrite job range.low range.high e) (state disk).calls (state other).calls) (sym made.ends) (writing_wider (may_crew job range.low range.high (first_why steps)) own);
}
  where
    run : tells ≡ true → IsReelRun job told (state disk).history (state other).history
    run = crew_run job range.low range.high told workers start tells state disk other steps end report start_is at_zero made
