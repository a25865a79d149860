-- The command `status PROJECT`: it looks at the folder, and puts how much of the project's reel is rendered.
use Rattle.std.specs.Prelude.{ℕ, List}
use Rattle.project_run.specs.Status.{IsStatusReply}
use Rattle.command_answers.specs.ByFolder.{reel_meaning}
use Rattle.command_answers.specs.Meaning.{IsThrough, Meaning, reel_calls}

abbrev pub status_meaning : List ℕ → Meaning
status_meaning path = reel_meaning path reel_calls (λ house. IsStatusReply path) IsThrough
