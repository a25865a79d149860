use Rattle.std.proofs.Common.{◌∙◌, ap₂}
use Rattle.std.proofs.lemmas.Result.{IfOk-weaker}
use Rattle.clap.specs.Words.{with_rule}
use Rattle.command_words.specs.Lines.{simple_command}
use Rattle.command_words.proofs.line.simple_command.Goals as goal

pub returns : goal.returns
unfolding simple_command
returns c =
    let workers = c.in_ok-arg.ensures.shape c.number_option.ensures.global ∙ ap₂ with_rule c.in_ok-positional_command.ensures.app c.number_option.ensures.rule in
    record {
      app = IfOk-weaker c.arg-2.result _ _ (λ r added. added.shape c.number_option-2.ensures.global ∙ ap₂ with_rule workers c.number_option-2.ensures.rule) c.arg-2.ensures;
    }
