-- How many source frames the frames need that were claimed. All of it is this project's own rule.
-- * needs of claimed frames: how many source frames each record frame needs that a step claims, added up
--     needed_by job steps      what the frames need that these steps claim
--     needed_for job answer      what the frame needs that a claim gave
--     with_needs more marks      marks that count so many more
use Rattle.std.specs.Prelude.{ℕ, ◌+◌, List}
use Rattle.std.specs.List.{sum_by}
use Rattle.conform_job.specs.Job.{JobData}
use Rattle.frame_fetch.specs.Asks.{needs_of}
use Rattle.render_board.specs.declared.board.Claim.{Claim as Answer}
use Rattle.render_board.specs.declared.board.Claim.TheVariants as answers
use Rattle.render_board.specs.declared.step.Step.{Step}
use Rattle.render_board.specs.declared.step.Step.TheVariants.{Claim, Finish, Stop}
use Rattle.station.specs.Marks.{Tallies}

abbrev pub needed_at : JobData → Step → ℕ
needed_at job (Claim w i) = needs_of job i
needed_at job (Finish w i) = 0
needed_at job (Stop w why) = 0

abbrev pub needed_by : JobData → List Step → ℕ
needed_by job steps = sum_by (needed_at job) steps

abbrev pub needed_for : JobData → Answer → ℕ
needed_for job (answers.Take i) = needs_of job i
needed_for job answers.NoneLeft = 0
needed_for job answers.Stopped = 0

abbrev pub with_needs : ℕ → Tallies → Tallies
with_needs more marks = record marks { claims = record { parts = marks.claims.parts; amount = marks.claims.amount + more } }
