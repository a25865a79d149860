-- The command `sums PROJECT`: it looks at the folder, and puts the digests of the files of what is rendered.
use Rattle.std.specs.Prelude.{ℕ, List}
use Rattle.project_run.specs.Sums.{IsSumsReply}
use Rattle.command_answers.specs.ByFolder.{reel_meaning}
use Rattle.command_answers.specs.Meaning.{IsThrough, Meaning, reel_calls}

abbrev pub sums_meaning : List ℕ → Meaning
sums_meaning path = reel_meaning path reel_calls (λ house. IsSumsReply path) IsThrough
