use Rattle.std.proofs.Common.{rules}
use Rattle.command_words.proofs.Commands.{from_digits, to_digits}
use Rattle.command_words.proofs.command.is_digits.Goals as goal

pub returns : goal.returns
returns c = search (rules, from_digits, to_digits)
