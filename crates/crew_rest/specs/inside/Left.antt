-- What is left when all workers have returned: words of private clauses.
use Rattle.std.specs.Prelude.{◌≡◌, ℕ, Option, Some, None}
use Rattle.conform_job.specs.Job.{JobData}
use Rattle.frame_fetch.specs.Asks.{needs_of}
use Rattle.render_board.specs.Board.{Log, IsNext, with_step}
use Rattle.render_board.specs.declared.step.Step.TheVariants.{Claim, Finish}

-- worker 0 has claimed this frame, as it might
abbrev pub HasClaimed : (old : Log) → (frame : ℕ) → (new : Log) → Type 0
HasClaimed old frame new = (new ≡ with_step old (Claim 0 frame)) × IsNext old (Claim 0 frame)

-- the frame of this worker is done
abbrev pub HasDone : (old : Log) → (worker frame : ℕ) → (new : Log) → Type 0
HasDone old worker frame new = new ≡ with_step old (Finish worker frame)

-- what the frame needs that was claimed, if one was
abbrev pub claimed_needs : JobData → Option ℕ → ℕ
claimed_needs job (Some i) = needs_of job i
claimed_needs job None = 0
