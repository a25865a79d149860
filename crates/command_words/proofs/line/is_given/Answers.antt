use Rattle.std.proofs.Common.{◌∙◌, ap}
use Rattle.clap.specs.Words.{found_of}
use Rattle.command_words.specs.Lines.{from_words}
use Rattle.command_words.proofs.Lines.{source-rows}
use Rattle.command_words.proofs.line.is_given.Goals as goal

pub returns : goal.returns
returns c = record { given = c.comes_from_words.ensures ∙ ap from_words (c.value_source.ensures ∙ source-rows (found_of c.args.matches.now) c.args.id.now) }
