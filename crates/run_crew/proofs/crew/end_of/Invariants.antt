use Rattle.std.proofs.Common.{◌≡◌, drop}
use Rattle.render_board.specs.History.{first_why}
use Rattle.run_crew.proofs.crew.end_of.Given as goal

abbrev pub invariant-loop-step : goal.invariant-loop-step
invariant-loop-step l = first_why (drop l.step-index l.history) ≡ first_why l.history
