use Rattle.command_words.specs.inside.Lines.{text_of_line}
use Rattle.command_words.proofs.Commands.{none_given}
use Rattle.command_words.proofs.command.command_on.Goals as goal

pub returns-in_default-count_after : goal.returns-in_default-count_after
returns-in_default-count_after c =
    none_given (text_of_line c.args.line.now) c.in_default.ensures c.in_default-list_on.ensures c.in_default-path_after.ensures
    c.in_default-run_on.ensures c.in_default-part_on.ensures c.in_default-path_after-2.ensures c.in_default-path_after-3.ensures c.in_default-path_after-4.ensures c.in_default-path_after-5.ensures c.in_default-path_after-6.ensures c.in_default-adopt_on.ensures c.in_default-pull_on.ensures c.in_default-count_after.ensures
