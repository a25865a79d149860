-- Each call on a station keeps what the station keeps.
use Rattle.std.proofs.Common.{◌≡◌, ◌≢◌, inl, inr, ℕ, ◌+◌, ◌<◌, ◌≤◌, Bool, true, false, cond, ◌||◌, List, [], ◌∷◌, ◌++◌, length, get_or, set, slice_get, refl, sym, ◌∙◌, ap, subst, arith, length-set}
use Rattle.std.specs.Prelude.{Option, Some, None, IfSome, Contains, ◌↔◌}
use Rattle.std.proofs.lemmas.Bool.{cases_eq, true≢false}
use Rattle.std.proofs.lemmas.List.{get_or-set_same, get_or-set_other}
use Rattle.std.proofs.lemmas.List.Elements.{Contains-push_cases}
use Rattle.cf_base.specs.Count.{HasRisen}
use Rattle.cf_base.specs.declared.file.FileId.{FileId}
use Rattle.reel_disk.specs.State.{DiskState}
use Rattle.scan_source.specs.World.{World}
use Rattle.conform_job.specs.Job.{JobData, file_of}
use Rattle.reel_disk.specs.Disk.{Files, Moment, History, IsFirm, IsLoose, moment_of, view_of}
use Rattle.reel_disk.specs.Runs.{Extends, LeavesOnly, NeverForgets, Spares, Surely}
use Rattle.reel_disk.specs.Start.{start_of, at_start}
use Rattle.reel_disk.proofs.Sparing.{spares_along, spares_wider}
use Rattle.reel_disk.proofs.Images.{view_is_image}
use Rattle.resume_ledger.specs.Sound.{AddsAtMost, WritesOnly}
use Rattle.resume_ledger.proofs.Reading.{spares_writes, writes_along}
use Rattle.render_board.specs.declared.board.Claim.{Claim as Answer}
use Rattle.render_board.specs.declared.board.Claim.TheVariants.{Take, NoneLeft, Stopped}
use Rattle.render_board.specs.declared.board.Turn.TheVariants as turns
use Rattle.render_board.specs.declared.step.Step.{Step}
use Rattle.render_board.specs.declared.step.Step.TheVariants.{Claim, Finish, Stop}
use Rattle.render_board.specs.declared.step.Why.{Why}
use Rattle.render_board.specs.declared.step.Why.TheVariants.{Source, Disk, Memory, Changed}
use Rattle.render_board.specs.Board.{Log, after_claim, is_done, is_finish_of, turn_of, claim_of, IsLegal, IsNext, with_step}
use Rattle.render_board.specs.History.{finished_of, is_source, is_disk, is_memory, is_changed, is_stop_by, stops_of}
use Rattle.render_board.proofs.Steps.{slice_get-push, isnt_other, finished_own, done_as_before, IsLegal-step, is_done-start, range_is}
use Rattle.render_board.proofs.Histories.{finished_of-finish, finished_of-claim, finished_of-stop, stops_of-step}
use Rattle.render_board.proofs.Holding.{claim_is_next, held_isnt_done, held_inside, held_within}
use Rattle.reel_writer.specs.Reel.{frames_of, HasAcked, HasFrameFiles, IsReelRun, IsRunFile, IsSoundReel, IsWrittenFile, KeepsReel}
use Rattle.reel_writer.specs.View.{ReelView, after_finish, after_fault}
use Rattle.reel_writer.proofs.OwnFiles.{frame_of_run}
use Rattle.reel_writer.proofs.ReelLaws.{reel_run_along}
use Rattle.station.specs.Station.{StationView, Totals, IsStation, IsCounted, IsCrewFile, IsRangeFile, MayCrewWrite, HasChanges, ShowsDone}
use Rattle.station.specs.StationSteps.{IsBeginning, MayStop, counted_by, after_claimed, after_finished, after_failed, after_stopped}

-- the totals after one more step
counted_more : (steps : List Step) (s : Step) (t u : Totals) → IsCounted steps t
    → u.source ≡ t.source + cond (is_stop_by is_source s) 1 0 → u.disk ≡ t.disk + cond (is_stop_by is_disk s) 1 0
    → u.memory ≡ t.memory + cond (is_stop_by is_memory s) 1 0 → u.changed ≡ t.changed + cond (is_stop_by is_changed s) 1 0
    → IsCounted (steps ++ s ∷ []) u
counted_more steps s t u is a b c d = record {
  source = stops_of-step is_source steps s ∙ ap (λ n. n + cond (is_stop_by is_source s) 1 0) is.source ∙ sym a;
  disk = stops_of-step is_disk steps s ∙ ap (λ n. n + cond (is_stop_by is_disk s) 1 0) is.disk ∙ sym b;
  memory = stops_of-step is_memory steps s ∙ ap (λ n. n + cond (is_stop_by is_memory s) 1 0) is.memory ∙ sym c;
  changed = stops_of-step is_changed steps s ∙ ap (λ n. n + cond (is_stop_by is_changed s) 1 0) is.changed ∙ sym d;
}

-- what a step adds to the number of stops
abbrev weight : Bool → ℕ
weight b = cond b 1 0

none_more : (n : ℕ) (b : Bool) → b ≡ false → n ≡ n + cond b 1 0
none_more n b isnt = let none = ap weight isnt in omega (arith, none)

counted_same : (steps : List Step) (s : Step) (t : Totals) → IsCounted steps t
    → is_stop_by is_source s ≡ false → is_stop_by is_disk s ≡ false → is_stop_by is_memory s ≡ false → is_stop_by is_changed s ≡ false
    → IsCounted (steps ++ s ∷ []) t
counted_same steps s t is a b c d =
    counted_more steps s t t is (none_more t.source (is_stop_by is_source s) a) (none_more t.disk (is_stop_by is_disk s) b) (none_more t.memory (is_stop_by is_memory s) c) (none_more t.changed (is_stop_by is_changed s) d)

counted_stop : (steps : List Step) (w : ℕ) (why : Why) (t : Totals) → IsCounted steps t → IsCounted (steps ++ Stop w why ∷ []) (counted_by why t)
counted_stop steps w Source t is = counted_more steps (Stop w Source) t (counted_by Source t) is refl (omega arith) (omega arith) (omega arith)
counted_stop steps w Disk t is = counted_more steps (Stop w Disk) t (counted_by Disk t) is (omega arith) refl (omega arith) (omega arith)
counted_stop steps w Memory t is = counted_more steps (Stop w Memory) t (counted_by Memory t) is (omega arith) (omega arith) refl (omega arith)
counted_stop steps w (Changed key was now) t is = counted_more steps (Stop w (Changed key was now)) t (counted_by (Changed key was now) t) is (omega arith) (omega arith) (omega arith) refl

-- a step that is no stop for the disk
no_disk_stop : (steps : List Step) (s : Step) → is_stop_by is_disk s ≡ false → stops_of is_disk (steps ++ s ∷ []) ≡ stops_of is_disk steps
no_disk_stop steps s isnt = stops_of-step is_disk steps s ∙ sym (none_more (stops_of is_disk steps) (is_stop_by is_disk s) isnt)

pub began_along : (tells : Bool) (old new : History) → (tells ≡ true → Extends old new) → start_of tells old ≡ start_of tells new
began_along true old new extends = ap Some (sym ((extends refl).kept 0 (omega arith)))
began_along false old new extends = refl

-- a frame that is not done was not done at the start
not_at_start : (log : Log) (i : ℕ) → is_done log i ≡ false → get_or log.start i false ≡ false
not_at_start log i undone = first_false (get_or log.start i false) _ undone
  where
    first_false : (a b : Bool) → (a || b) ≡ false → a ≡ false
    first_false true b is = is
    first_false false b is = refl

-- the same, from another state with the same first moment
pub spares_from : (old new : History) (Mine : FileId → Type 0) → new.past 0 ≡ old.past 0 → Spares (at_start old) new Mine → Spares (at_start new) new Mine
spares_from old new Mine same spares = record {
  files = λ m from to q other. spares.files m from to q other ∙ ap (λ (x : Moment). x.view q) (sym same);
  loose = λ m from to p other there. subst (λ (x : Moment). IsLoose x.loose p) (sym same) (spares.loose m from to p other there);
}

pub writes_from : (old new : History) (Mine : FileId → Type 0) → new.past 0 ≡ old.past 0 → WritesOnly (at_start old) new Mine → WritesOnly (at_start new) new Mine
writes_from old new Mine same writes = record {
  files = λ m from to q other firm. writes.files m from to q other (subst (λ (x : Moment). IsFirm x.loose q) same firm) ∙ ap (λ (x : Moment). x.view q) (sym same);
  loose = λ m from to p other there. subst (λ (x : Moment). IsLoose x.loose p) (sym same) (writes.loose m from to p other there);
}

-- what each image has now, it has later
surely_later : (P : Files → Type 0) (old new : History) → Extends old new → NeverForgets old new P → Surely (moment_of old) P → Surely (moment_of new) P
surely_later P old new extends keeps had =
    keeps old.now new.now (omega arith) extends.later (omega arith) (subst (λ (m : Moment). Surely m P) (sym (extends.kept old.now (omega arith))) had)

module _ (job : JobData) (told : Option World) where
  -- what a step has that is a stop of a worker's own
  abbrev MayStep : Step → Type 0
  MayStep (Claim w i) = Unit {0}
  MayStep (Finish w i) = Unit {0}
  MayStep (Stop w why) = (why ≡ Disk → ⊥) → MayStop job told why

  changes_more : (steps : List Step) (s : Step) → HasChanges job told steps → MayStep s → HasChanges job told (steps ++ s ∷ [])
  changes_more steps s h may k w key was now at =
      elim (slice_get-push steps s k (Stop w (Changed key was now)) at) [
        | inl before ↦ h k w key was now before.1
        | inr last ↦ subst MayStep last.1 may (λ e. cc)
      ]

  pub run_from : (old new : History) → new.past 0 ≡ old.past 0 → IsReelRun job told (at_start old) new → IsReelRun job told (at_start new) new
  run_from old new same run = record {
    extends = record { later = run.extends.later; kept = λ m le. refl };
    keeps = λ whole. run.keeps (subst (λ (m : Moment). HasFrameFiles job m.view) same whole);
    sound = by told run.sound;
  }
    where
      by : (told : Option World) → IfSome told (λ world. Surely (old.past 0) (IsSoundReel job world) → LeavesOnly (at_start old) new (IsSoundReel job world))
          → IfSome told (λ world. Surely (new.past 0) (IsSoundReel job world) → LeavesOnly (at_start new) new (IsSoundReel job world))
      by None sound = tt
      by (Some world) sound = λ all. sound (subst (λ (m : Moment). Surely m (IsSoundReel job world)) same all)

  run_on : (old new : History) → IsReelRun job told (at_start old) old → IsReelRun job told old new → KeepsReel job old new → IsReelRun job told (at_start new) new
  run_on old new first second kept = run_from old new (second.extends.kept 0 (omega arith)) (reel_run_along job told (at_start old) old new first second kept)

  -- the acks are kept acknowledged
  acked_on : (old new : History) (acks : List ℕ) → IsReelRun job told old new → KeepsReel job old new → ((i : ℕ) → Contains acks i → Surely (moment_of old) (HasAcked job i)) → (i : ℕ) → Contains acks i → Surely (moment_of new) (HasAcked job i)
  acked_on old new acks run kept had i is = surely_later (HasAcked job i) old new run.extends (kept i) (had i is)

  acked_more : (moment : Moment) (acks : List ℕ) (i : ℕ) → ((k : ℕ) → Contains acks k → Surely moment (HasAcked job k)) → Surely moment (HasAcked job i) → (k : ℕ) → Contains (acks ++ i ∷ []) k → Surely moment (HasAcked job k)
  acked_more moment acks i had here k is =
      elim (Contains-push_cases acks i k is) [
        | inl before ↦ had k before
        | inr same ↦ subst (λ (n : ℕ). Surely moment (HasAcked job n)) same here
      ]

  -- what is shown of other frames stays
  shown_other : (old new : History) (i k : ℕ) → AddsAtMost i job.parts.digest (frames_of job) old new → Extends old new → k ≢ i → HasAcked job k (view_of new) ↔ HasAcked job k (view_of old)
  shown_other old new i k others extends ne = others k ne new.now extends.later (omega arith) (view_of new) (view_is_image (moment_of new))

  shows_open : (log : Log) (closed : Bool) (files : Files) → closed ≡ false → ((i : ℕ) → HasAcked job i files ↔ (is_done log i ≡ true)) → ShowsDone job log closed files
  shows_open log closed files is h = subst (λ (b : Bool). ShowsDone job log b files) (sym is) h

  pub open_shows : (log : Log) (closed : Bool) (files : Files) → closed ≡ false → ShowsDone job log closed files → (i : ℕ) → HasAcked job i files ↔ (is_done log i ≡ true)
  open_shows log closed files is h = subst (λ (b : Bool). ShowsDone job log b files) is h

  shows_as : (log other : Log) (closed : Bool) (files : Files) → ((i : ℕ) → is_done other i ≡ is_done log i) → ShowsDone job log closed files → ShowsDone job other closed files
  shows_as log other false files same h = λ i. (λ acks. same i ∙ (h i).0 acks, λ done. (h i).1 (sym (same i) ∙ done))
  shows_as log other true files same h = (h.0, same h.0 ∙ h.1, λ i ne. (λ acks. same i ∙ (h.2 i ne).0 acks, λ done. (h.2 i ne).1 (sym (same i) ∙ done)))

  shows_finished : (log : Log) (w i : ℕ) (old new : History) → AddsAtMost i job.parts.digest (frames_of job) old new → Extends old new
      → Surely (moment_of new) (HasAcked job i) → ((k : ℕ) → HasAcked job k (view_of old) ↔ (is_done log k ≡ true))
      → (k : ℕ) → HasAcked job k (view_of new) ↔ (is_done (with_step log (Finish w i)) k ≡ true)
  shows_finished log w i old new others extends here was k =
      elim (cases_eq k i) [
        | inl same ↦ (
          (λ acks. subst (λ (n : ℕ). is_done (with_step log (Finish w i)) n ≡ true) (sym same) (finished_own log w i)),
          (λ done. subst (λ (n : ℕ). HasAcked job n (view_of new)) (sym same) (here (view_of new) (view_is_image (moment_of new)))),
        )
        | inr ne ↦
            let there = shown_other old new i k others extends ne in
            let as_before = done_as_before log (Finish w i) k (isnt_other i k (λ e. ne (sym e))) in
            ((λ acks. as_before ∙ (was k).0 (there.0 acks)), (λ done. there.1 ((was k).1 (sym as_before ∙ done))))
      ]

  shows_failed : (log : Log) (w i : ℕ) (old new : History) → AddsAtMost i job.parts.digest (frames_of job) old new → Extends old new
      → is_done log i ≡ false → ((k : ℕ) → HasAcked job k (view_of old) ↔ (is_done log k ≡ true))
      → ShowsDone job (with_step log (Stop w Disk)) true (view_of new)
  shows_failed log w i old new others extends undone was = (
    i,
    done_as_before log (Stop w Disk) i refl ∙ undone,
    λ k ne.
        let there = shown_other old new i k others extends ne in
        let as_before = done_as_before log (Stop w Disk) k refl in
        ((λ acks. as_before ∙ (was k).0 (there.0 acks)), (λ done. there.1 ((was k).1 (sym as_before ∙ done)))),
  )

-- the gates after a finish
gates_finished : (log : Log) (gates : List Bool) (w i : ℕ) → i < length gates → ((k : ℕ) → get_or gates k false ≡ is_done log k) → (k : ℕ) → get_or (set gates i true) k false ≡ is_done (with_step log (Finish w i)) k
gates_finished log gates w i within was k =
    elim (cases_eq k i) [
      | inl same ↦ subst (λ (n : ℕ). get_or (set gates i true) n false ≡ is_done (with_step log (Finish w i)) n) (sym same) (get_or-set_same gates i true false within ∙ sym (finished_own log w i))
      | inr ne ↦ get_or-set_other gates i k true false ne ∙ was k ∙ sym (done_as_before log (Finish w i) k (isnt_other i k (λ e. ne (sym e))))
    ]

module _ {D : Type 0} (job : JobData) (told : Option World) (start : Option Moment) (tells : Bool) (state : D → DiskState) where
  -- a step that finishes no frame and leaves the reel
  quiet : (v : StationView D) (s : Step) (totals : Totals) → IsStation job told start tells state v → IsNext v.log s
      → ((i : ℕ) → is_finish_of i s ≡ false) → finished_of (v.log.steps ++ s ∷ []) ≡ finished_of v.log.steps → is_stop_by is_disk s ≡ false
      → IsCounted (v.log.steps ++ s ∷ []) totals → MayStep job told s
      → IsStation job told start tells state (record { reel = v.reel; log = with_step v.log s; totals = totals })
  quiet v s totals is next none same_acks isnt counted may = record {
    began = is.began;
    run = is.run;
    spares = is.spares;
    writes = is.writes;
    acked = is.acked;
    legal = IsLegal-step v.log s is.legal next;
    size = is.size;
    kept = is.kept;
    from = is.from;
    as_many = is.as_many;
    gates = λ i. is.gates i ∙ sym (done_as_before v.log s i (none i));
    shown = λ t. shows_as job told v.log (with_step v.log s) v.reel.ledger.closed (view_of (state v.reel.disk).history) (λ i. done_as_before v.log s i (none i)) (is.shown t);
    acks = same_acks ∙ is.acks;
    closed =
        let same = no_disk_stop v.log.steps s isnt in
        ((λ shut. subst (λ (n : ℕ). 1 ≤ n) (sym same) (is.closed.0 shut)), (λ some. is.closed.1 (subst (λ (n : ℕ). 1 ≤ n) same some)));
    failed = is.failed;
    steady = is.steady;
    counted = counted;
    changed = changes_more job told v.log.steps s is.changed may;
  }

  pub station_claim : (v : StationView D) (w : ℕ) (answer : Answer) → IsStation job told start tells state v
      → w < v.log.workers → turn_of v.log w ≡ turns.Idle → claim_of v.log ≡ answer
      → IsStation job told start tells state (after_claimed v w answer)
  station_claim v w (Take i) is known idle answers =
      quiet v (Claim w i) v.totals is (claim_is_next v.log w i known idle answers) (λ k. refl) (finished_of-claim v.log.steps w i) refl
      (counted_same v.log.steps (Claim w i) v.totals is.counted refl refl refl refl) tt
  station_claim v w NoneLeft is known idle answers = is
  station_claim v w Stopped is known idle answers = is

  pub station_stop : (v : StationView D) (w : ℕ) (why : Why) → IsStation job told start tells state v
      → w < v.log.workers → turn_of v.log w ≢ turns.Stopped → MayStop job told why
      → IsStation job told start tells state (after_stopped v w why)
  station_stop v w why is known running may =
      quiet v (Stop w why) (counted_by why v.totals) is (known, running) (λ k. refl) (finished_of-stop v.log.steps w why) (not_disk why may)
      (counted_stop v.log.steps w why v.totals is.counted) (λ other. may)
    where
      not_disk : (why : Why) → MayStop job told why → is_disk why ≡ false
      not_disk Source may = refl
      not_disk Disk may = absurd may
      not_disk Memory may = refl
      not_disk (Changed key was now) may = refl

  module _ (v : StationView D) (w i : ℕ) (disk : D) (is : IsStation job told start tells state v) (opened : v.reel.ledger.closed ≡ false) (known : w < v.log.workers) (holds : turn_of v.log w ≡ turns.Holds i)
      (run : tells ≡ true → IsReelRun job told (state v.reel.disk).history (state disk).history) (none_lost : tells ≡ true → KeepsReel job (state v.reel.disk).history (state disk).history) (others : tells ≡ true → AddsAtMost i job.parts.digest (frames_of job) (state v.reel.disk).history (state disk).history)
      (spares : tells ≡ true → Spares (state v.reel.disk).history (state disk).history (IsWrittenFile (file_of job i))) where
    undone : is_done v.log i ≡ false
    undone = held_isnt_done v.log w i is.legal holds

    -- the frame's files are among those that the crew writes
    written : (q : FileId) → IsWrittenFile (file_of job i) q → IsRangeFile job v.log q
    written q (inl own) = inr (i, held_inside v.log w i is.legal holds, not_at_start v.log i undone, own)
    written q (inr body) = inl body

    spares_on : tells ≡ true → Spares (at_start (state disk).history) (state disk).history (IsCrewFile job v.log)
    spares_on t =
        spares_from (state v.reel.disk).history (state disk).history (IsCrewFile job v.log) ((run t).extends.kept 0 (omega arith))
        (spares_along (at_start (state v.reel.disk).history) (state v.reel.disk).history (state disk).history (IsCrewFile job v.log) (is.run t).extends (run t).extends (is.spares t)
        (spares_wider (state v.reel.disk).history (state disk).history (IsWrittenFile (file_of job i)) (IsCrewFile job v.log) (λ q own. inr (written q own)) (spares t)))

    writes_on : tells ≡ true → WritesOnly (at_start (state disk).history) (state disk).history (MayCrewWrite job v.log)
    writes_on t =
        writes_from (state v.reel.disk).history (state disk).history (MayCrewWrite job v.log) ((run t).extends.kept 0 (omega arith))
        (writes_along (MayCrewWrite job v.log) (at_start (state v.reel.disk).history) (state v.reel.disk).history (state disk).history (is.run t).extends (run t).extends (is.writes t)
        (spares_writes (MayCrewWrite job v.log) (state v.reel.disk).history (state disk).history
        (spares_wider (state v.reel.disk).history (state disk).history (IsWrittenFile (file_of job i)) (MayCrewWrite job v.log) (λ q own. inr (written q own)) (spares t))))

    shown_before : tells ≡ true → (k : ℕ) → HasAcked job k (view_of (state v.reel.disk).history) ↔ (is_done v.log k ≡ true)
    shown_before t = open_shows job told v.log v.reel.ledger.closed (view_of (state v.reel.disk).history) opened (is.shown t)

    pub station_finish : (tells ≡ true → Surely (moment_of (state disk).history) (HasAcked job i)) → (state disk).faults ≡ (state v.reel.disk).faults
        → IsStation job told start tells state (after_finished v w i disk)
    station_finish acked steady = record {
      began = is.began ∙ began_along tells (state v.reel.disk).history (state disk).history (λ t. (run t).extends);
      run = λ t. run_on job told (state v.reel.disk).history (state disk).history (is.run t) (run t) (none_lost t);
      spares = spares_on;
      writes = writes_on;
      acked = λ t. acked_more job told (moment_of (state disk).history) v.reel.acks i (acked_on job told (state v.reel.disk).history (state disk).history v.reel.acks (run t) (none_lost t) (is.acked t)) (acked t);
      legal = IsLegal-step v.log (Finish w i) is.legal (known, holds);
      size = is.size;
      kept = is.kept;
      from = is.from;
      as_many = length-set v.reel.ledger.gates i true ∙ is.as_many;
      gates = gates_finished v.log v.reel.ledger.gates w i (omega (arith, held_within v.log w i is.legal holds, is.as_many)) is.gates;
      shown = λ t. shows_open job told (with_step v.log (Finish w i)) v.reel.ledger.closed (view_of (state disk).history) opened
          (shows_finished job told v.log w i (state v.reel.disk).history (state disk).history (others t) (run t).extends (acked t) (shown_before t));
      acks = finished_of-finish v.log.steps w i ∙ ap (λ (l : List ℕ). l ++ i ∷ []) is.acks;
      closed =
          let same = no_disk_stop v.log.steps (Finish w i) refl in
          ((λ shut. subst (λ (n : ℕ). 1 ≤ n) (sym same) (is.closed.0 shut)), (λ some. is.closed.1 (subst (λ (n : ℕ). 1 ≤ n) same some)));
      failed = λ shut. subst (λ (n : ℕ). 1 ≤ n) (sym steady) (is.failed shut);
      steady = λ still. steady ∙ is.steady still;
      counted = counted_same v.log.steps (Finish w i) v.totals is.counted refl refl refl refl;
      changed = changes_more job told v.log.steps (Finish w i) is.changed tt;
    }

    pub station_fail : HasRisen (state v.reel.disk).faults (state disk).faults
        → IsStation job told start tells state (after_failed v w disk)
    station_fail rose = record {
      began = is.began ∙ began_along tells (state v.reel.disk).history (state disk).history (λ t. (run t).extends);
      run = λ t. run_on job told (state v.reel.disk).history (state disk).history (is.run t) (run t) (none_lost t);
      spares = spares_on;
      writes = writes_on;
      acked = λ t. acked_on job told (state v.reel.disk).history (state disk).history v.reel.acks (run t) (none_lost t) (is.acked t);
      legal = IsLegal-step v.log (Stop w Disk) is.legal (known, λ e. let same = sym holds ∙ e in cc);
      size = is.size;
      kept = is.kept;
      from = is.from;
      as_many = is.as_many;
      gates = λ k. is.gates k ∙ sym (done_as_before v.log (Stop w Disk) k refl);
      shown = λ t. shows_failed job told v.log w i (state v.reel.disk).history (state disk).history (others t) (run t).extends undone (shown_before t);
      acks = finished_of-stop v.log.steps w Disk ∙ is.acks;
      closed = ((λ shut. let more = stops_of-step is_disk v.log.steps (Stop w Disk) in omega (arith, more)), (λ some. refl));
      failed = λ shut. omega (arith, rose);
      steady = λ still. absurd (true≢false still);
      counted = counted_stop v.log.steps w Disk v.totals is.counted;
      changed = changes_more job told v.log.steps (Stop w Disk) is.changed (λ other. absurd (other refl));
    }

  pub station_new : (reel : ReelView D) (log : Log) (totals : Totals) → IsBeginning job told start tells state reel log
      → totals.source ≡ 0 → totals.disk ≡ 0 → totals.memory ≡ 0 → totals.changed ≡ 0
      → IsStation job told start tells state (record { reel = reel; log = log; totals = totals })
  station_new reel log totals b a0 a1 a2 a3 = record {
    began = b.began;
    run = b.run;
    spares = b.spares;
    writes = b.writes;
    acked = λ t i is. let none : Contains [] i = subst (λ (l : List ℕ). Contains l i) b.none is in absurd (omega (arith, none.1));
    legal = λ k s at. absurd (nothing log.steps b.first k s at);
    size = b.size;
    kept = b.kept;
    from = b.from;
    as_many = b.as_many;
    gates = λ i. b.gates i ∙ sym (done_first i);
    shown = λ t. shows_open job told log reel.ledger.closed (view_of (state reel.disk).history) b.is_open
        (λ i. ((λ acks. done_first i ∙ (b.shown t i).0 acks), (λ done. (b.shown t i).1 (sym (done_first i) ∙ done))));
    acks = ap finished_of b.first ∙ sym b.none;
    closed = ((λ shut. absurd (true≢false (sym shut ∙ b.is_open))), (λ some. absurd (few (subst (λ (l : List Step). 1 ≤ stops_of is_disk l) b.first some))));
    failed = λ shut. absurd (true≢false (sym shut ∙ b.is_open));
    steady = λ still. b.sound_disk;
    counted = record {
      source = ap (stops_of is_source) b.first ∙ sym a0;
      disk = ap (stops_of is_disk) b.first ∙ sym a1;
      memory = ap (stops_of is_memory) b.first ∙ sym a2;
      changed = ap (stops_of is_changed) b.first ∙ sym a3;
    };
    changed = λ k w key was now at. absurd (nothing log.steps b.first k (Stop w (Changed key was now)) at);
  }
    where
      first_log : Log
      first_log = record { start = log.start; low = log.low; high = log.high; workers = log.workers; steps = [] }

      done_first : (i : ℕ) → is_done log i ≡ get_or log.start i false
      done_first i = ap (λ (l : List Step). is_done (record { start = log.start; low = log.low; high = log.high; workers = log.workers; steps = l }) i) b.first ∙ is_done-start log.start log.low log.high log.workers i

      nothing : (steps : List Step) → steps ≡ [] → (k : ℕ) (s : Step) → slice_get steps k ≡ Some s → ⊥
      nothing [] is k s at = cc
      nothing (x ∷ xs) is k s at = cc

      few : 1 ≤ 0 → ⊥
      few le = omega (arith, le)

  module _ (v : StationView D) (w : ℕ) (is : IsStation job told start tells state v) where
    -- the calls as they are made, over what is left of them
    pub claimed_as : (answer : Answer) (log : Log) → w < v.log.workers → turn_of v.log w ≡ turns.Idle → answer ≡ claim_of v.log → log ≡ (after_claimed v w answer).log
        → IsStation job told start tells state (record { reel = v.reel; log = log; totals = v.totals })
    claimed_as answer log known idle answers same =
        subst (λ (l : Log). IsStation job told start tells state (record { reel = v.reel; log = l; totals = v.totals })) (sym same) (station_claim v w answer is known idle (sym answers))

    pub stopped_as : (why kind : Why) (log : Log) (ts td tm tc : ℕ) → w < v.log.workers → turn_of v.log w ≢ turns.Stopped → MayStop job told why → why ≡ kind
        → log ≡ with_step v.log (Stop w why) → ts ≡ (counted_by kind v.totals).source → td ≡ (counted_by kind v.totals).disk → tm ≡ (counted_by kind v.totals).memory → tc ≡ (counted_by kind v.totals).changed
        → IsStation job told start tells state (record { reel = v.reel; log = log; totals = record { source = ts; disk = td; memory = tm; changed = tc } })
    stopped_as why kind log ts td tm tc known running may same is_log a b c d =
        rw (is_log, same, a, b, c, d) (station_stop v w kind is known running (subst (MayStop job told) same may))

    module _ (i : ℕ) (reel : ReelView D) (log : Log) (opened : v.reel.ledger.closed ≡ false) (known : w < v.log.workers) (holds : turn_of v.log w ≡ turns.Holds i)
        (run : tells ≡ true → IsReelRun job told (state v.reel.disk).history (state reel.disk).history) (none_lost : tells ≡ true → KeepsReel job (state v.reel.disk).history (state reel.disk).history) (others : tells ≡ true → AddsAtMost i job.parts.digest (frames_of job) (state v.reel.disk).history (state reel.disk).history)
        (spares : tells ≡ true → Spares (state v.reel.disk).history (state reel.disk).history (IsWrittenFile (file_of job i))) where
      pub finished_as : reel ≡ after_finish v.reel i reel.disk → log ≡ with_step v.log (Finish w i) → (tells ≡ true → Surely (moment_of (state reel.disk).history) (HasAcked job i)) → (state reel.disk).faults ≡ (state v.reel.disk).faults
          → IsStation job told start tells state (record { reel = reel; log = log; totals = v.totals })
      finished_as same_reel same_log acked steady =
          subst (λ (r : ReelView D). IsStation job told start tells state (record { reel = r; log = log; totals = v.totals })) (sym same_reel)
          (subst (λ (l : Log). IsStation job told start tells state (record { reel = after_finish v.reel i reel.disk; log = l; totals = v.totals })) (sym same_log)
          (station_finish v w i reel.disk is opened known holds run none_lost others spares acked steady))

      pub failed_as : (td : ℕ) → reel ≡ after_fault v.reel reel.disk → log ≡ with_step v.log (Stop w Disk) → td ≡ v.totals.disk + 1 → HasRisen (state v.reel.disk).faults (state reel.disk).faults
          → IsStation job told start tells state (record { reel = reel; log = log; totals = record { source = v.totals.source; disk = td; memory = v.totals.memory; changed = v.totals.changed } })
      failed_as td same_reel same_log more rose =
          subst (λ (r : ReelView D). IsStation job told start tells state (record { reel = r; log = log; totals = record { source = v.totals.source; disk = td; memory = v.totals.memory; changed = v.totals.changed } })) (sym same_reel)
          (subst (λ (l : Log). IsStation job told start tells state (record { reel = after_fault v.reel reel.disk; log = l; totals = record { source = v.totals.source; disk = td; memory = v.totals.memory; changed = v.totals.changed } })) (sym same_log)
          (subst (λ (n : ℕ). IsStation job told start tells state (record { reel = after_fault v.reel reel.disk; log = with_step v.log (Stop w Disk); totals = record { source = v.totals.source; disk = n; memory = v.totals.memory; changed = v.totals.changed } })) (sym more)
          (station_fail v w i reel.disk is opened known holds run none_lost others spares rose)))

-- no claim changes how many workers there are
pub claim_workers : (log : Log) (worker : ℕ) (answer : Answer) → (after_claim log worker answer).workers ≡ log.workers
claim_workers log worker (Take i) = refl
claim_workers log worker NoneLeft = refl
claim_workers log worker Stopped = refl

pub claim_low : (log : Log) (worker : ℕ) (answer : Answer) → (after_claim log worker answer).low ≡ log.low
claim_low log worker (Take i) = refl
claim_low log worker NoneLeft = refl
claim_low log worker Stopped = refl

pub claim_high : (log : Log) (worker : ℕ) (answer : Answer) → (after_claim log worker answer).high ≡ log.high
claim_high log worker (Take i) = refl
claim_high log worker NoneLeft = refl
claim_high log worker Stopped = refl

-- what a finish of a frame that is held writes is the run's
pub held_of_run : (job : JobData) (log : Log) (low high w i : ℕ) → log.low ≡ low → log.high ≡ high → IsLegal log → turn_of log w ≡ turns.Holds i → (q : FileId) → IsWrittenFile (file_of job i) q → IsRunFile job low high q
held_of_run job log low high w i from to legal holds =
    let inside = range_is log i (held_inside log w i legal holds) in
    let late = inside.0 in
    let early = inside.1 in
    frame_of_run job low high i (omega (arith, late, from)) (omega (arith, early, to))
