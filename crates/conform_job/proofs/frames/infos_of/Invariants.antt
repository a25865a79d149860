use Rattle.std.proofs.Common.{◌≡◌, ◌-◌, length, ◌≤◌, [], IfSome}
use Rattle.scan_source.specs.State.{LeavesScan}
use Rattle.scan_source.specs.World.{file_at}
use Rattle.record_timeline.specs.Accepted.{frame_count}
use Rattle.conform_job.specs.Asks.{asks_of, asks_from}
use Rattle.conform_job.specs.Refusals.{asks_refusal}
use Rattle.conform_job.specs.Answers.{Grows, HeadsGrow}
use Rattle.conform_job.proofs.frames.infos_of.Given as goal

-- the first refusal of all asks is that of those that are left, and the infos have the keys of those that were
abbrev pub invariant-loop-i : goal.invariant-loop-i
invariant-loop-i g l = record {
  within : l.i ≤ frame_count l.parts.timeline.events;
  scan : LeavesScan ⊥ (g.S.Scans.state l.fn.scans) (g.S.Scans.state l.scans);
  heads : HeadsGrow (g.S.Scans.state l.fn.scans).heads (g.S.Scans.state l.scans).heads 0 (length l.infos);
  loads : (g.S.Scans.state l.scans).loads ≡ (g.S.Scans.state l.fn.scans).loads;
  rest : IfSome (g.S.Scans.state l.fn.scans).world (λ world. asks_refusal l.parts (file_at world) (asks_of l.parts.timeline) ≡ asks_refusal l.parts (file_at world) (asks_from l.parts.timeline l.i (frame_count l.parts.timeline.events - l.i)));
  grows : Grows l.parts (g.S.Scans.state l.fn.scans).world (asks_from l.parts.timeline 0 l.i) [] l.infos;
}
