use Rattle.std.proofs.Common.{◌≡◌, ◌-◌, ◌<◌, map, filter, take}
use Rattle.std.specs.Prelude.{nat_lt}
use Rattle.std.specs.List.{All}
use Rattle.cf_base.specs.declared.event.EventRec.{EventRec}
use Rattle.cf_base.specs.Events.{record_length}
use Rattle.record_timeline.specs.Accepted.{first_frame, frame_count}
use Rattle.reel_qc.proofs.sheet.cells.frames_from.Given as goal

-- the frames of the first events
abbrev pub invariant-loop-event : goal.invariant-loop-event
invariant-loop-event l = record {
  frames : l.frames.items ≡ map (λ (e : EventRec). e.rec_in - first_frame l.events) (filter (λ (e : EventRec). nat_lt 0 (record_length e)) (take l.event-index l.events));
  within : All (λ i. i < frame_count l.events) l.frames.items;
}
