use Rattle.clap.specs.Words.{found_of, one_of, rows_of}
use Rattle.command_words.proofs.Lines.{no_numeral}
use Rattle.command_words.proofs.line.number_of.Goals as goal

pub returns-in_default : goal.returns-in_default
returns-in_default c = record { number = no_numeral (one_of c.args.id.now (rows_of (found_of c.args.matches.now))) c.in_default.ensures.numeral }
