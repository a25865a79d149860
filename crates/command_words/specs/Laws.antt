-- What follows from the definitions of the command line.
use Rattle.std.specs.Prelude.{◌≡◌, List}
use Rattle.clap.specs.Walk.{Text}
use Rattle.command_words.specs.Commands.{HasCounts, Spells}
use Rattle.command_words.specs.declared.command.Command.{Command}

-- words spell one command at most
abbrev pub SpellsOne : Type 0
SpellsOne = (words : List Text) (a b : Command) → Spells words a → Spells words b → a ≡ b

-- and its numbers are in their ranges
abbrev pub SpellsInRange : Type 0
SpellsInRange = (words : List Text) (command : Command) → Spells words command → HasCounts command
