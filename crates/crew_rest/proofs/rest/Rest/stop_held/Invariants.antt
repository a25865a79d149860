use Rattle.std.proofs.Common.{◌≡◌, ℕ, ◌<◌, ◌≤◌}
use Rattle.render_board.specs.Board.{IsLegal, turn_of}
use Rattle.render_board.specs.declared.board.Turn.TheVariants as turns
use Rattle.crew_rest.proofs.rest.Rest.stop_held.Given as goal

-- the workers so far are idle
abbrev pub invariant-loop-worker : goal.invariant-loop-worker
invariant-loop-worker g l = record {
  within : l.worker ≤ l.worker-end;
  ending : l.worker-end ≡ l.self.station.log.workers;
  legal : IsLegal l.self.station.log;
  idle : (w : ℕ) → w < l.worker → turn_of l.self.station.log w ≡ turns.Idle;
  marks : l.marks ≡ l.fn.marks;
}
