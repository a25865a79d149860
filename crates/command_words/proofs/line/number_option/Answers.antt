-- The option's number is one from 1 to 16.
use Rattle.std.proofs.Common.{◌≡◌, rules, pos}
use Rattle.clap.specs.declared.builder.value_parser.ValueParser.TheVariants as parsers
use Rattle.command_words.proofs.line.number_option.Goals as goal

pub returns-clause-rule : goal.returns-clause-rule
returns-clause-rule c =
    let parser_is : c.range.result ≡ parsers.Signed (pos 1) (pos 16) = rw (c.value_parser.ensures, c.new-2.ensures.start, c.new-2.ensures.end) at c.range.ensures in
    search rules
