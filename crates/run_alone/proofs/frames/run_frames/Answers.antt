use Rattle.std.proofs.Common.{◌≡◌, ℕ, suc, ◌+◌, ◌-◌, ◌<◌, true, false, List, ◌++◌, length, take, get_or, refl, sym, ◌∙◌, ap, subst, arith}
use Rattle.std.specs.Prelude.{Err}
use Rattle.frame_render.specs.Frame.{frame_size}
use Rattle.reel_disk.proofs.Leaving.{disk_as, disk_done, disk_still, disk_then}
use Rattle.reel_disk.proofs.Writing.{writing_none, writing_then, writing_wider}
use Rattle.reel_writer.proofs.OwnFiles.{frame_of_run}
use Rattle.reel_disk.proofs.Sparing.{spares_itself, spares_along, spares_wider}
use Rattle.conform_job.specs.Job.{file_of}
use Rattle.conform_job.specs.Names.{Tells}
use Rattle.reel_writer.specs.Reel.{IsWrittenFile}
use Rattle.run_alone.specs.inside.Run.{IsRangeFile}
use Rattle.run_alone.proofs.Ranging.{range_file}
use Rattle.reel_writer.proofs.ReelLaws.{reel_run_itself, reel_run_along}
use Rattle.run_alone.specs.Asks.{IsNext, asks_of_frames, closed_frames}
use Rattle.run_alone.specs.Ran.{WereFinished}
use Rattle.run_alone.specs.inside.Ran.{ArePast}
use Rattle.frame_fetch.specs.Sharing.{IsPaired, asks_of}
use Rattle.frame_fetch.specs.declared.run_end.RunEnd.TheVariants as end
use Rattle.frame_fetch.proofs.Logs.{asks_along, paired_along}
use Rattle.run_alone.proofs.Running.{acked_then, acks_are, is_next, all_finished, asks_more, asks_passed, asks_first, taken, stop_end, stopped, not_begun, unbegun, gates_are, acks_then, gates_then, kept_then, not_done}
use Rattle.frame_fetch.proofs.Counting.{err_same}
use Rattle.frame_fetch.proofs.Scanning.{alone_along, alone_as, alone_itself}
use Rattle.run_alone.proofs.Stepping.{past_itself, past_none, past_more, asks_if_closed, gate_still, if_still}
use Rattle.run_alone.proofs.frames.run_frames.Goals as goal

pub loop-i-init : goal.loop-i-init
loop-i-init g c = record {
  late = omega arith;
  within = c.requires.task.ordered;
  past = past_none c.args.task.now.range.low c.args.reel.now c.requires.opened.is_open;
  asked = ap asks_of c.requires.unasked ∙ sym (asks_first g.N.Work.job c.args.reel.now.ledger.gates c.args.task.now.range.low);
  paired = subst (IsPaired ⊥) (sym c.requires.unasked) tt;
  capacity = refl;
  parts = refl;
  ready = c.requires.ready;
  counted = c.requires.none.1 ∙ sym c.requires.none.0;
  few = let zero = c.requires.none.0 in omega (arith, zero);
  room = c.in-Ok.ensures.room ∙ ap frame_size c.requires.task.job;
  run = λ told. reel_run_itself g.N.Work.job g.N.Work.files (g.D.Disk.state c.args.reel.now.disk).history;
  spares = λ told. spares_itself (g.D.Disk.state c.args.reel.now.disk).history (IsRangeFile g.N.Work.job c.args.task.now.range.low c.args.task.now.range.high c.args.reel.now.ledger.gates);
  own = writing_none;
  disk = disk_still (λ never. never);
  scan = alone_as _ _ 0 c.args.loader.now.loads ⊥ ⊥ (sym c.requires.none.0) (λ never. never) (λ never. never) (alone_itself ⊥ (λ never. never) (g.S.Scans.state c.args.loader.now.scan));
}

-- a frame that is acknowledged is passed over
pub loop-i-preserved-then-is_passed_over : goal.loop-i-preserved-then-is_passed_over
loop-i-preserved-then-is_passed_over g c =
    let inv = c.loop-i.invariant in
    let next : suc c.loop-i.i ≡ c.loop-i.i + 1 = omega arith in
    let acked : get_or c.loop-i.reel.ledger.gates c.loop-i.i false ≡ true = sym c.is_passed_over.ensures.passed ∙ c.if-is_passed_over.true in
    let was = sym (gate_still c.args.task.now.range.low c.args.reel.now c.loop-i.reel c.loop-i.i inv.late inv.past) ∙ acked in
    record {
      late = let was = inv.late in omega (arith, was);
      within = let lt = c.loop-i-test.true in omega (arith, lt);
      past = subst (λ (n : ℕ). ArePast c.args.task.now.range.low n c.args.reel.now c.loop-i.reel) next (past_more c.args.task.now.range.low c.args.reel.now c.loop-i.reel c.loop-i.i inv.late inv.past c.loop-i.reel (past_itself c.loop-i.reel c.loop-i.i acked inv.past.is_open));
      asked = subst (λ (n : ℕ). asks_of c.loop-i.share.steps ≡ asks_of_frames g.N.Work.job (closed_frames c.args.reel.now.ledger.gates c.args.task.now.range.low n)) next (inv.asked ∙ sym (asks_passed g.N.Work.job c.args.reel.now.ledger.gates c.args.task.now.range.low c.loop-i.i inv.late was));
      paired = inv.paired;
      capacity = inv.capacity;
      parts = inv.parts;
      ready = inv.ready;
      counted = inv.counted;
      few = let was = inv.few in omega (arith, was);
      room = inv.room;
      run = inv.run;
      spares = inv.spares;
      own = inv.own;
      disk = inv.disk;
      scan = inv.scan;
    }

-- any other is made and finished
pub run_frame-requires-clause-reel : goal.run_frame-requires-clause-reel
run_frame-requires-clause-reel g c = c.is_passed_over.ensures.reel

pub run_frame-requires-clause-fresh : goal.run_frame-requires-clause-fresh
run_frame-requires-clause-fresh g c = sym c.is_passed_over.ensures.passed ∙ c.if-is_passed_over.false

pub loop-i-preserved : goal.loop-i-preserved
loop-i-preserved g c =
    let inv = c.loop-i.invariant in
    let step = c.in-Ok-run_frame.ensures in
    let next : suc c.loop-i.i ≡ c.loop-i.i + 1 = omega arith in
    let still = if_still c.args.task.now.range.low c.args.reel.now c.loop-i.reel c.loop-i.i inv.late inv.past in
    let asked = step.asked in
    let reel = step.reel in
    record {
      late = let was = inv.late in omega (arith, was);
      within = let lt = c.loop-i-test.true in omega (arith, lt);
      past = subst (λ (n : ℕ). ArePast c.args.task.now.range.low n c.args.reel.now c.run_frame.new.reel) next (past_more c.args.task.now.range.low c.args.reel.now c.loop-i.reel c.loop-i.i inv.late inv.past c.run_frame.new.reel reel.past);
      asked = subst (λ (n : ℕ). asks_of c.run_frame.new.share.steps ≡ asks_of_frames g.N.Work.job (closed_frames c.args.reel.now.ledger.gates c.args.task.now.range.low n)) next
          (ap asks_of asked.steps ∙ asks_along c.loop-i.share.steps asked.more ∙ ap (λ l. l ++ asks_of asked.more) inv.asked
          ∙ ap (λ l. asks_of_frames g.N.Work.job (closed_frames c.args.reel.now.ledger.gates c.args.task.now.range.low c.loop-i.i) ++ l) (asked.asks ∙ sym (asks_if_closed g.N.Work.job c.loop-i.reel.ledger.gates c.loop-i.i reel.fresh) ∙ ap (asks_of_frames g.N.Work.job) still) ∙ sym (asks_more g.N.Work.job c.args.reel.now.ledger.gates c.args.task.now.range.low c.loop-i.i inv.late));
      paired = subst (IsPaired ⊥) (sym asked.steps) (paired_along ⊥ c.loop-i.share.steps asked.more inv.paired asked.paired);
      capacity = asked.room ∙ inv.capacity;
      parts = step.loaded.loaded.parts ∙ inv.parts;
      ready = record {
        named = inv.ready.named;
        tells = subst (Tells g.N.Work.files) (sym step.loaded.scan.told) inv.ready.tells;
        infos = inv.ready.infos;
        few = let was = inv.few in let lt = c.loop-i-test.true in let two = step.loaded.loaded.few in let least = c.requires.task.within in omega (arith, was, two, lt, least);
        closed = step.loaded.closed;
      };
      counted = let was = inv.counted in let now = step.loaded.loaded.misses in omega (arith, was, now);
      few = let was = inv.few in let two = step.loaded.loaded.few in omega (arith, was, two);
      room = step.room;
      run = λ told. reel_run_along g.N.Work.job g.N.Work.files _ _ _ (inv.run told) (reel.run told) (reel.none_lost told);
      spares = λ told. spares_along _ _ _ (IsRangeFile g.N.Work.job c.args.task.now.range.low c.args.task.now.range.high c.args.reel.now.ledger.gates) (inv.run told).extends (reel.run told).extends (inv.spares told)
          (spares_wider _ _ (IsWrittenFile (file_of g.N.Work.job c.loop-i.i)) (IsRangeFile g.N.Work.job c.args.task.now.range.low c.args.task.now.range.high c.args.reel.now.ledger.gates) (range_file g.N.Work.job c.args.task.now.range.low c.args.task.now.range.high c.args.reel.now.ledger.gates c.loop-i.i inv.late c.loop-i-test.true (sym (gate_still c.args.task.now.range.low c.args.reel.now c.loop-i.reel c.loop-i.i inv.late inv.past) ∙ reel.fresh)) (reel.spares told));
      own = writing_then inv.own (writing_wider (frame_of_run g.N.Work.job c.args.task.now.range.low c.args.task.now.range.high c.loop-i.i inv.late c.loop-i-test.true) reel.own);
      disk = disk_then (λ never. never) inv.disk (disk_done (λ same. cc) (λ never. never) reel.disk);
      scan = alone_along _ _ _ c.loop-i.loader.loads (c.run_frame.new.loader.loads - c.loop-i.loader.loads) c.run_frame.new.loader.loads ⊥ ⊥ (let later = step.loaded.loaded.later in omega (arith, later)) (λ never. never) inv.scan
          (alone_as _ _ _ _ _ ⊥ refl (λ never. absurd never) (λ same. cc) (record { scanned = step.loaded.scan; ends = step.loaded.ends }));
    }

-- no room for a frame
pub returns-in-Err-clause-finished : goal.returns-in-Err-clause-finished
returns-in-Err-clause-finished g c = unbegun g.N.Work.job c.args.task.now.range.low c.args.task.now.range.high c.args.reel.now.ledger.gates end.NoMemory _ _ (λ same. cc) (ap length c.requires.opened.unfinished) c.requires.unasked

pub returns-in-Err-clause-reel : goal.returns-in-Err-clause-reel
returns-in-Err-clause-reel g c = not_begun g.N.Work.job c.args.task.now.range.low c.args.task.now.range.high g.N.Work.files g.D.Disk.tells g.D.Disk.state end.NoMemory c.args.reel.now (λ same. cc) tt c.requires.opened

-- a frame could not be made or finished
pub returns-in-Err-run_frame-clause-finished : goal.returns-in-Err-run_frame-clause-finished
returns-in-Err-run_frame-clause-finished g c =
    let inv = c.loop-i.invariant in
    let lt : c.loop-i.i < c.args.task.now.range.high = c.loop-i-test.true in
    subst (λ (l : List ℕ). WereFinished g.N.Work.job c.args.task.now.range.low c.args.task.now.range.high c.args.reel.now.ledger.gates c.in-Err-run_frame.end (length l) c.run_frame.new.share.steps) (sym (acks_then c.args.task.now.range.low c.args.reel.now c.loop-i.reel c.loop-i.i inv.late c.requires.opened.unfinished inv.past c.run_frame.new.reel c.in-Err-run_frame.ensures.reel.unfinished))
    (stopped g.N.Work.job c.args.task.now.range.low c.args.task.now.range.high c.args.reel.now.ledger.gates c.in-Err-run_frame.end c.loop-i.i c.loop-i.share c.run_frame.new.share (not_done g.N.Work.job g.N.Work.files c.in-Err-run_frame.end c.in-Err-run_frame.ensures.stop) inv.late (omega (arith, lt))
    (sym (gate_still c.args.task.now.range.low c.args.reel.now c.loop-i.reel c.loop-i.i inv.late inv.past) ∙ c.in-Err-run_frame.ensures.reel.fresh) inv.asked inv.paired c.in-Err-run_frame.ensures.tried)

pub returns-in-Err-run_frame-clause-reel : goal.returns-in-Err-run_frame-clause-reel
returns-in-Err-run_frame-clause-reel g c = record {
  is_end = stop_end g.N.Work.job g.N.Work.files c.in-Err-run_frame.end c.in-Err-run_frame.ensures.stop;
  acks =
      let inv = c.loop-i.invariant in
      let within = inv.within in
      let late = inv.late in
      let then_acks = acks_then c.args.task.now.range.low c.args.reel.now c.loop-i.reel c.loop-i.i inv.late c.requires.opened.unfinished inv.past c.run_frame.new.reel c.in-Err-run_frame.ensures.reel.unfinished in
      then_acks ∙ sym (taken c.args.reel.now.ledger.gates c.args.task.now.range.low c.args.task.now.range.high c.loop-i.i late within) ∙ ap (λ (l : List ℕ). take (length l) (closed_frames c.args.reel.now.ledger.gates c.args.task.now.range.low c.args.task.now.range.high)) (sym then_acks);
  gates = gates_then c.args.task.now.range.low c.args.reel.now c.loop-i.reel c.loop-i.i c.loop-i.invariant.late c.requires.opened.unfinished c.loop-i.invariant.past c.run_frame.new.reel c.in-Err-run_frame.ensures.reel.unfinished;
  kept = kept_then c.args.task.now.range.low c.args.reel.now c.loop-i.reel c.loop-i.i c.loop-i.invariant.late c.requires.opened.unfinished c.loop-i.invariant.past c.run_frame.new.reel c.in-Err-run_frame.ensures.reel.unfinished;
  stays_open = λ other. c.in-Err-run_frame.ensures.reel.stays_open (λ is. other (err_same _ _ is));
  failed = λ told failed k other.
      let inv = c.loop-i.invariant in
      let lt : c.loop-i.i < c.args.task.now.range.high = c.loop-i-test.true in
      let unfinished = c.in-Err-run_frame.ensures.reel.unfinished in
      let shut = sym (gate_still c.args.task.now.range.low c.args.reel.now c.loop-i.reel c.loop-i.i inv.late inv.past) ∙ c.in-Err-run_frame.ensures.reel.fresh in
      let next = is_next c.args.reel.now.ledger.gates c.args.task.now.range.low c.args.task.now.range.high c.loop-i.i (length c.run_frame.new.reel.acks) inv.late (omega (arith, lt)) shut (ap length (acks_then c.args.task.now.range.low c.args.reel.now c.loop-i.reel c.loop-i.i inv.late c.requires.opened.unfinished inv.past c.run_frame.new.reel unfinished)) in
      acked_then c.args.task.now.range.low c.args.reel.now c.loop-i.reel c.loop-i.i inv.late c.requires.opened.unfinished inv.past c.run_frame.new.reel unfinished _ k
      (c.in-Err-run_frame.ensures.reel.failed told (ap Err failed) k (λ is. other (subst (λ n. IsNext c.args.reel.now.ledger.gates c.args.task.now.range.low c.args.task.now.range.high (length c.run_frame.new.reel.acks) n) (sym is) next)));
  run = λ told. reel_run_along g.N.Work.job g.N.Work.files _ _ _ (c.loop-i.invariant.run told) (c.run_frame.ensures.reel.run told) (c.run_frame.ensures.reel.none_lost told);
  spares = λ told.
      spares_along _ _ _ (IsRangeFile g.N.Work.job c.args.task.now.range.low c.args.task.now.range.high c.args.reel.now.ledger.gates) (c.loop-i.invariant.run told).extends (c.run_frame.ensures.reel.run told).extends (c.loop-i.invariant.spares told)
      (spares_wider _ _ (IsWrittenFile (file_of g.N.Work.job c.loop-i.i)) (IsRangeFile g.N.Work.job c.args.task.now.range.low c.args.task.now.range.high c.args.reel.now.ledger.gates) (range_file g.N.Work.job c.args.task.now.range.low c.args.task.now.range.high c.args.reel.now.ledger.gates c.loop-i.i c.loop-i.invariant.late c.loop-i-test.true (sym (gate_still c.args.task.now.range.low c.args.reel.now c.loop-i.reel c.loop-i.i c.loop-i.invariant.late c.loop-i.invariant.past) ∙ c.run_frame.ensures.reel.fresh)) (c.run_frame.ensures.reel.spares told));
  own = writing_then c.loop-i.invariant.own (writing_wider (frame_of_run g.N.Work.job c.args.task.now.range.low c.args.task.now.range.high c.loop-i.i c.loop-i.invariant.late c.loop-i-test.true) c.run_frame.ensures.reel.own);
  disk = disk_then (λ never. never) c.loop-i.invariant.disk (disk_as (λ is. ap Err is) (λ is. err_same _ _ is) c.in-Err-run_frame.ensures.reel.disk);
}

pub returns-in-Err-run_frame-clause-scan : goal.returns-in-Err-run_frame-clause-scan
returns-in-Err-run_frame-clause-scan g c =
    alone_along _ _ _ c.loop-i.loader.loads (c.run_frame.new.loader.loads - c.loop-i.loader.loads) c.run_frame.new.loader.loads ⊥ _ (let later = c.run_frame.ensures.loaded.loaded.later in omega (arith, later)) (λ never. never) c.loop-i.invariant.scan
    (alone_as _ _ _ _ _ _ refl (λ is. ap Err is) (λ is. err_same _ _ is)
    (let loaded = c.in-Err-run_frame.ensures.loaded in record { scanned = loaded.scan; ends = loaded.ends }))

-- every frame is finished
pub returns-clause-reel : goal.returns-clause-reel
returns-clause-reel g c = record {
  is_end = tt;
  acks =
      let inv = c.loop-i.invariant in
      let within = inv.within in
      let late = inv.late in
      let acks = acks_are c.args.task.now.range.low c.args.reel.now c.loop-i.reel c.loop-i.i inv.late c.requires.opened.unfinished inv.past in
      acks ∙ sym (taken c.args.reel.now.ledger.gates c.args.task.now.range.low c.args.task.now.range.high c.loop-i.i late within) ∙ ap (λ (l : List ℕ). take (length l) (closed_frames c.args.reel.now.ledger.gates c.args.task.now.range.low c.args.task.now.range.high)) (sym acks);
  gates = gates_are c.args.task.now.range.low c.args.reel.now c.loop-i.reel c.loop-i.i c.loop-i.invariant.late c.requires.opened.unfinished c.loop-i.invariant.past;
  kept = c.loop-i.invariant.past.kept;
  stays_open = λ other. c.loop-i.invariant.past.is_open;
  failed = λ told failed. cc;
  run = c.loop-i.invariant.run;
  spares = c.loop-i.invariant.spares;
  own = c.loop-i.invariant.own;
  disk = disk_done (λ never. never) (λ same. cc) c.loop-i.invariant.disk;
}

pub returns-clause-finished : goal.returns-clause-finished
returns-clause-finished g c =
    let inv = c.loop-i.invariant in
    let past = c.loop-i-test.false in
    let within = inv.within in
    let all : c.loop-i.i ≡ c.args.task.now.range.high = omega (arith, past, within) in
    all_finished g.N.Work.job c.args.task.now.range.low c.args.task.now.range.high c.args.reel.now.ledger.gates (length c.loop-i.reel.acks) c.loop-i.share.steps
    (ap length (acks_are c.args.task.now.range.low c.args.reel.now c.loop-i.reel c.loop-i.i inv.late c.requires.opened.unfinished inv.past) ∙ ap (λ (n : ℕ). length (closed_frames c.args.reel.now.ledger.gates c.args.task.now.range.low n)) all)
    (inv.asked ∙ ap (λ (n : ℕ). asks_of_frames g.N.Work.job (closed_frames c.args.reel.now.ledger.gates c.args.task.now.range.low n)) all) inv.paired c.requires.task.ordered
