use Rattle.std.proofs.Common.{rules, ◌≡◌, ◌∙◌, ◌+◌, ℕ, suc, false, get_or, sym, subst, arith, inl, inr}
use Rattle.std.proofs.lemmas.Bool.{cases_eq}
use Rattle.reel_disk.specs.Disk.{Moment, view_of}
use Rattle.resume_ledger.specs.Sound.{file_at}
use Rattle.resume_ledger.specs.OpeningCalls.{TakesFrames}
use Rattle.resume_ledger.specs.inside.Steps.{IsRecorded}
use Rattle.resume_ledger.proofs.Reading.{reads_along}
use Rattle.resume_ledger.proofs.Recording.{recorded_on}
use Rattle.resume_ledger.proofs.older.record_all.Goals as goal

pub loop-i-preserved : goal.loop-i-preserved
loop-i-preserved g c =
    let kept = c.loop-i.invariant in
    let others = c.in-Ok.ensures.others in
    record {
      reads = reads_along kept.reads c.in-Ok.ensures.reads;
      size = others.size ∙ kept.size;
      head = others.head ∙ kept.head;
      done = λ told k lt.
          let Recorded : ℕ → Type 0 = λ n. IsRecorded (get_or c.args.gates.now n false) (view_of (g.D.Disk.state c.args.disk.now).history (file_at c.args.files.now n)) c.args.size c.record_one.new.body n in
          elim (cases_eq k c.loop-i.i) [
            | inl is ↦
                let here : Recorded c.loop-i.i = subst (λ (m : Moment). IsRecorded (get_or c.args.gates.now c.loop-i.i false) (m.view (file_at c.args.files.now c.loop-i.i)) c.args.size c.record_one.new.body c.loop-i.i) (kept.reads.still told).same (c.in-Ok.ensures.recorded told) in
                subst Recorded (sym is) here
            | inr other ↦ recorded_on _ _ _ c.loop-i.body c.record_one.new.body c.loop-i.i k others other (kept.done told k (let le = lt in omega (arith, le, other)))
          ];
      taken =
          let one : suc c.loop-i.i ≡ c.loop-i.i + 1 = omega arith in
          let Taken : ℕ → Type 0 = λ n. TakesFrames c.args.gates.now (file_at c.args.files.now) c.args.size n c.args.body.now c.record_one.new.body (g.D.Disk.state c.args.disk.now).calls (g.D.Disk.state c.record_one.new.disk).calls in
          let more : Taken (suc c.loop-i.i) = (c.loop-i.body, (g.D.Disk.state c.loop-i.disk).calls, kept.taken, c.in-Ok.ensures.calls) in
          subst Taken one more;
      closed = λ k le lt is. kept.closed k (omega (arith, le)) lt (sym (others.gates k (λ e. omega (arith, le, e))) ∙ is);
      piece = search rules;
      same = search rules;
      faults = search rules;
    }
