-- What the claimed frames need, after one more step.
use Rattle.std.proofs.Common.{◌≡◌, ℕ, ◌+◌, List, [], ◌∷◌, ◌++◌, ◌∙◌, ap, arith}
use Rattle.std.proofs.lemmas.List.Sums.{sum_by_push}
use Rattle.conform_job.specs.Job.{JobData}
use Rattle.render_board.specs.Board.{Log, after_claim, with_step}
use Rattle.render_board.specs.declared.board.Claim.{Claim as Answer}
use Rattle.render_board.specs.declared.board.Claim.TheVariants.{Take, NoneLeft, Stopped}
use Rattle.render_board.specs.declared.step.Step.{Step}
use Rattle.render_board.specs.declared.step.Step.TheVariants.{Claim, Finish, Stop}
use Rattle.render_board.specs.declared.step.Why.{Why}
use Rattle.station.specs.Needed.{needed_at, needed_by, needed_for}

by_step : (job : JobData) (log after : Log) (step : Step) → after ≡ with_step log step → needed_by job after.steps ≡ needed_by job log.steps + needed_at job step
by_step job log after step is = ap (λ (l : Log). needed_by job l.steps) is ∙ sum_by_push (needed_at job) log.steps step

no_step : (job : JobData) (log after : Log) → after ≡ log → needed_by job after.steps ≡ needed_by job log.steps + 0
no_step job log after is = let same = ap (λ (l : Log). needed_by job l.steps) is in omega (arith, same)

pub needed_claimed : (job : JobData) (log after : Log) (worker : ℕ) (answer : Answer) → after ≡ after_claim log worker answer
    → needed_by job after.steps ≡ needed_by job log.steps + needed_for job answer
needed_claimed job log after worker (Take i) is = by_step job log after (Claim worker i) is
needed_claimed job log after worker NoneLeft is = no_step job log after is
needed_claimed job log after worker Stopped is = no_step job log after is

pub needed_finished : (job : JobData) (log after : Log) (worker i : ℕ) → after ≡ with_step log (Finish worker i) → needed_by job after.steps ≡ needed_by job log.steps
needed_finished job log after worker i is = let more = by_step job log after (Finish worker i) is in omega (arith, more)

pub needed_stopped : (job : JobData) (log after : Log) (worker : ℕ) (why : Why) → after ≡ with_step log (Stop worker why) → needed_by job after.steps ≡ needed_by job log.steps
needed_stopped job log after worker why is = let more = by_step job log after (Stop worker why) is in omega (arith, more)
