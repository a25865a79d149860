use Rattle.std.proofs.Common.{◌∙◌, ◌≡◌, rules, ap, ap₂, codes, true}
use Rattle.std.proofs.lemmas.Result.{IfOk-weaker}
use Rattle.clap.specs.Simple.{on_top}
use Rattle.clap.specs.Words.{app_of, new_rule, rule_of, with_rule}
use Rattle.command_words.specs.Lines.{bare_command, required_rule}
use Rattle.command_words.proofs.Lines.{set_help, set_name, set_version}
use Rattle.command_words.proofs.line.positional_command.Goals as goal

pub returns : goal.returns
returns c =
    let named = set_name c.new.result c.no_binary_name.result c.no_binary_name.ensures in
    let helpless = set_help c.no_binary_name.result c.disable_help_flag.result c.disable_help_flag.ensures in
    let versionless = set_version c.disable_help_flag.result c.disable_version_flag.result c.disable_version_flag.ensures in
    let bare_is : app_of c.disable_version_flag.result ≡ bare_command =
    versionless ∙ ap (on_top (λ s. record s { disable_version_flag = true })) (helpless
    ∙ ap (on_top (λ s. record s { disable_help_flag = true })) (named
    ∙ ap (on_top (λ s. record s { no_binary_name = true })) c.new.ensures.app)) in
    let command_is : rule_of c.required.result ≡ required_rule (codes "command") = search rules in
    let subject_is : rule_of c.required-2.result ≡ required_rule (codes "subject") = search rules in
    let extra_is : rule_of c.new-4.result ≡ new_rule (codes "extra") = search rules in
    let one = c.in_ok-arg.ensures.shape (search rules) ∙ ap₂ with_rule bare_is command_is in
    let two = c.in_ok-arg-2.ensures.shape (search rules) ∙ ap₂ with_rule one subject_is in
    record { app = IfOk-weaker c.arg-3.result _ _ (λ r added. added.shape (search rules) ∙ ap₂ with_rule two extra_is) c.arg-3.ensures }
