use Rattle.std.proofs.Common.{rules, ◌≡◌, ◌∙◌, cond, arith, refl, subst}
use Rattle.std.specs.Prelude.{is_some, Ok, Err}
use Rattle.reel_disk.specs.Disk.{Moment, view_of}
use Rattle.resume_ledger.specs.Look.{hash_at}
use Rattle.resume_ledger.proofs.Reading.{reads_along, reads_none}
use Rattle.reel_writer.specs.Damage.{IsRecordedFile}
use Rattle.reel_writer.specs.inside.Damage.{HasCheckedOne}
use Rattle.reel_writer.proofs.Checking.{counted_more, one_at_most, intact_more, first_fault, kept_more, says_fault}
use Rattle.reel_writer.proofs.ReadCalls.{made_none, made_along}
use Rattle.reel_writer.proofs.damage.check_all.Goals as goal

pub returns-in-Err-clause-answer : goal.returns-in-Err-clause-answer
returns-in-Err-clause-answer g c told =
    first_fault c.args.job.now c.args.view.now (view_of (g.D.Disk.state c.args.disk.now).history) c.loop-i.i (c.loop-i.invariant.intact told) c.in-Err.fault
    (subst (λ (m : Moment). HasCheckedOne c.args.job.now c.args.view.now m.view c.loop-i.i (Err c.in-Err.fault)) (c.loop-i.invariant.reads.still told).same (c.in-Err.ensures.answer told))

pub returns-in-Err-clause-read : goal.returns-in-Err-clause-read
returns-in-Err-clause-read g c =
    let made = c.in-Err.ensures.read in
    let first = (g.D.Disk.state c.args.disk.now).calls in
    let before = (g.D.Disk.state c.loop-i.disk).calls in
    let after = (g.D.Disk.state c.check_one.new.disk).calls in
    record {
      on = made_along (IsRecordedFile c.args.job.now c.args.view.now) first before after c.loop-i.invariant.on made.on;
      once = c.in-Err.ensures.once first c.loop-i.invariant.once;
      says = says_fault c.args.job.now c.args.view.now (IsRecordedFile c.args.job.now c.args.view.now) before after made.on c.loop-i.i c.loop-i.invariant.kept c.in-Err.fault made.says;
    }

pub returns-clause-read : goal.returns-clause-read
returns-clause-read g c = record { on = c.loop-i.invariant.on; once = c.loop-i.invariant.once.once; says = search rules }

pub loop-i-init : goal.loop-i-init
loop-i-init g c = record {
  reads = reads_none;
  intact = search rules;
  counted = refl;
  few = search rules;
  on = made_none (IsRecordedFile c.args.job.now c.args.view.now) (g.D.Disk.state c.args.disk.now).calls;
  kept = λ i lt. absurd (omega (arith, lt));
  ahead = c.requires.ahead;
  once = c.requires.once;
  piece = c.requires.piece;
  same = refl;
  faults = refl;
}

pub loop-i-preserved : goal.loop-i-preserved
loop-i-preserved g c =
    let made = c.in-Ok.ensures.read in
    let first = (g.D.Disk.state c.args.disk.now).calls in
    let before = (g.D.Disk.state c.loop-i.disk).calls in
    let after = (g.D.Disk.state c.check_one.new.disk).calls in
    let more : c.in-Ok.more ≡ cond (is_some (hash_at c.args.view.now c.loop-i.i)) 1 0 = c.in-Ok.ensures.known in
    record {
      reads = reads_along c.loop-i.invariant.reads c.in-Ok.ensures.reads;
      intact = λ told. intact_more c.args.job.now c.args.view.now (view_of (g.D.Disk.state c.args.disk.now).history) c.loop-i.i (c.loop-i.invariant.intact told)
          (subst (λ (m : Moment). HasCheckedOne c.args.job.now c.args.view.now m.view c.loop-i.i (Ok c.in-Ok.more)) (c.loop-i.invariant.reads.still told).same (c.in-Ok.ensures.answer told));
      counted = omega (arith, c.loop-i.invariant.counted, more, counted_more c.args.view.now c.loop-i.i);
      few = omega (arith, c.loop-i.invariant.few, more, one_at_most (is_some (hash_at c.args.view.now c.loop-i.i)));
      on = made_along (IsRecordedFile c.args.job.now c.args.view.now) first before after c.loop-i.invariant.on made.on;
      kept = kept_more c.args.job.now c.args.view.now (IsRecordedFile c.args.job.now c.args.view.now) before after made.on c.loop-i.i c.loop-i.invariant.kept made.says;
      ahead = c.in-Ok.ensures.ahead;
      once = c.in-Ok.ensures.once first c.loop-i.invariant.once;
      piece = c.check_one.auto.piece ∙ c.loop-i.invariant.piece;
      same = search rules;
      faults = search rules;
    }
