-- The command `qc PROJECT`: it looks at the folder, and puts counts over what is rendered, by the functions of the house.
use Rattle.std.specs.Prelude.{ℕ, List}
use Rattle.project_run.specs.Quality.{IsQcReply}
use Rattle.command_answers.specs.ByFolder.{reel_meaning}
use Rattle.command_answers.specs.Meaning.{IsThrough, Meaning, reel_calls}

abbrev pub qc_meaning : List ℕ → Meaning
qc_meaning path = reel_meaning path reel_calls (λ house. IsQcReply house.kinds path) IsThrough
