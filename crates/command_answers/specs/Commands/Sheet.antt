-- The command `sheet PROJECT`: it writes a contact sheet of what is rendered into the folder, in the tone of the house.
use Rattle.std.specs.Prelude.{ℕ, List}
use Rattle.project_run.specs.Sheet.{IsSheetReply}
use Rattle.command_answers.specs.ByFolder.{reel_meaning}
use Rattle.command_answers.specs.Meaning.{IsThrough, Meaning, reel_calls}

abbrev pub sheet_meaning : List ℕ → Meaning
sheet_meaning path = reel_meaning path reel_calls (λ house. IsSheetReply house.tone path) IsThrough
