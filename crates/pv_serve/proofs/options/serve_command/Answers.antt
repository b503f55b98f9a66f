use Rattle.std.proofs.Common.{◌≡◌, codes, ◌∙◌, ap, ap₂, rules}
use Rattle.std.proofs.lemmas.Result.{IfOk-weaker}
use Rattle.clap.specs.Words.{App, rule_of, with_rule}
use Rattle.pv_serve.specs.Options.{folder_rule, option_rule, serve_command}
use Rattle.pv_serve.proofs.options.serve_command.Goals as goal

-- the arguments are those of the command, one after the other
pub returns : goal.returns
unfolding serve_command
returns c =
    let rule_is : rule_of c.required-folder.result ≡ folder_rule = search rules in
    let folder = c.in_ok-command.ensures.shape (search rules) ∙ ap₂ with_rule c.new-2.ensures.app rule_is in
    let centres = c.in_ok-command-2.ensures ∙ ap (λ (a : App). with_rule a (option_rule (codes "centres"))) folder in
    let ports = c.in_ok-command-3.ensures ∙ ap (λ (a : App). with_rule a (option_rule (codes "ports"))) centres in
    let editors = c.in_ok-command-4.ensures ∙ ap (λ (a : App). with_rule a (option_rule (codes "editors"))) ports in
    let calls = c.in_ok-command-5.ensures ∙ ap (λ (a : App). with_rule a (option_rule (codes "calls"))) editors in
    let port = c.in_ok-command-6.ensures ∙ ap (λ (a : App). with_rule a (option_rule (codes "port"))) calls in
    IfOk-weaker c.with_option-6.result _ _
    (λ command is. is ∙ ap (λ (a : App). with_rule a (option_rule (codes "editor-port"))) port) c.with_option-6.ensures
