use Rattle.command_words.proofs.Commands.{counts_spelled, one_spelled}
use Rattle.command_words.proofs.laws.command_laws.Goals as goal

pub returns : goal.returns
returns c = record { one = one_spelled; in_range = counts_spelled }
