use Rattle.std.proofs.Common.{map}
use Rattle.command_words.specs.inside.Lines.{text_of_line}
use Rattle.command_words.proofs.Commands.{all_counted, one_found, spelled}
use Rattle.command_words.proofs.command.command_of.Goals as goal

pub returns : goal.returns
returns c =
    let words = map (λ w. w.now) c.args.words.now in
    let makes = one_found words c.in-Ok.found c.in-Some.line c.in-Some.is c.in-Ok.ensures.line in
    let command = spelled words (text_of_line c.in-Some.line) c.command_on.result makes c.command_on.ensures in
    record { command = command; counts = all_counted words c.command_on.result command }
