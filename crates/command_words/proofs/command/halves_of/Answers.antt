-- What the first slash parts.
use Rattle.std.proofs.Common.{arith}
use Rattle.std.proofs.lemmas.Str.Pattern.{split_once_first}
use Rattle.command_words.proofs.command.halves_of.Goals as goal

pub returns : goal.returns
returns c = split_once_first 47 c.args.text.now _ c.split_once.ensures.cases (omega arith)
