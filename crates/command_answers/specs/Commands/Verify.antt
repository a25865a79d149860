-- The command `verify PROJECT`: it looks at the folder, and puts whether what is rendered of the project's reel is still whole.
use Rattle.std.specs.Prelude.{true, ℕ, List}
use Rattle.project_run.specs.Verify.{IsVerifyReply}
use Rattle.outcome.specs.declared.Outcome.{Outcome}
use Rattle.outcome.specs.declared.Outcome.TheVariants.{Damaged}
use Rattle.command_answers.specs.ByFolder.{reel_meaning}
use Rattle.command_answers.specs.Meaning.{IsThrough, Meaning, reel_calls}

-- A check may find a frame that is damaged besides.
abbrev pub IsThroughOrDamaged : Outcome → Type 0
IsThroughOrDamaged (Damaged frame kept found) = Unit {0}
IsThroughOrDamaged result = IsThrough result

abbrev pub verify_meaning : List ℕ → Meaning
verify_meaning path = reel_meaning path (record reel_calls { checks_frames = true }) (λ house. IsVerifyReply path) IsThroughOrDamaged
