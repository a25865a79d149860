-- One event after another.
use Rattle.std.proofs.Common.{◌∙◌, ◌-◌, ◌<◌, ◌≤◌, ℕ, [], ◌∷◌, ◌++◌, ap, subst, sym}
use Rattle.std.specs.Prelude.{Vec}
use Rattle.std.specs.List.{All}
use Rattle.std.specs.declared.alloc.Global.{Global}
use Rattle.std.proofs.lemmas.List.Elements.{All-push}
use Rattle.record_timeline.specs.Accepted.{first_frame, frame_count}
use Rattle.reel_qc.proofs.Begins.{frame_more, frame_same, in_reel, not_before}
use Rattle.reel_qc.proofs.sheet.cells.frames_from.Goals as goal
use Rattle.reel_qc.proofs.sheet.cells.frames_from.Goals.{then-event+in_ok-push, else-event}

pub overflow_sub-event : goal.overflow_sub-event
overflow_sub-event c =
    subst (λ n. n ≤ c.event-item.result.rec_in) (sym c.requires.first)
    (not_before c.args.events.now c.loop-event.event-index c.event-item.result c.loop-event-test.true c.event-item.is c.if-event.true)

pub loop-event-preserved : goal.loop-event-preserved
loop-event-preserved c = elim c.if-event.branch [
  | then-event+in_ok-push w ↦
      let events = c.args.events.now in
      let e = c.event-item.result in
      let before = c.loop-event.frames.items in
      let now = ap (λ (v : Vec ℕ Global). v.items) w.frames-is in
      let within = subst (λ n. e.rec_in - n < frame_count events) (sym c.requires.first)
      (in_reel events c.loop-event.event-index e c.loop-event-test.true c.event-item.is w.if-event.true) in
      record {
        frames = now ∙ frame_more events (first_frame events) c.loop-event.event-index e before _ c.loop-event-test.true c.event-item.is w.if-event.true c.loop-event.invariant.frames
            (w.in_ok-push.ensures.items ∙ ap (λ n. before ++ (e.rec_in - n) ∷ []) c.requires.first);
        within = subst (All (λ i. i < frame_count events)) (sym (now ∙ w.in_ok-push.ensures.items))
            (All-push (λ i. i < frame_count events) before (e.rec_in - c.args.first) c.loop-event.invariant.within within);
      }
  | else-event w ↦
      let events = c.args.events.now in
      let now = ap (λ (v : Vec ℕ Global). v.items) w.frames-is in
      record {
        frames = now ∙ frame_same events (first_frame events) c.loop-event.event-index c.event-item.result c.loop-event.frames.items c.loop-event-test.true c.event-item.is w.if-event.false c.loop-event.invariant.frames;
        within = subst (All (λ i. i < frame_count events)) (sym now) c.loop-event.invariant.within;
      }
]
