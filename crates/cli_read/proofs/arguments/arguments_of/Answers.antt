use Rattle.std.proofs.Common.{◌≡◌, IfOk, List, fold, map, ap, ap₂, subst, ◌∙◌}
use Rattle.clap.specs.Simple.{App, app_of, app_of_fields, new_app, new_rule, with_rule}
use Rattle.clap.specs.Walk.{Rule}
use Rattle.cli_words.specs.declared.switch.Switch.{Switch}
use Rattle.cli_read.specs.ClapWords.Forms.{app_of as app_of_form, option_rule, options_of}
use Rattle.cli_read.specs.Matched.{program_name}
use Rattle.cli_read.proofs.Folding.{by_name, whole, without_help}
use Rattle.cli_read.proofs.arguments.arguments_of.Goals as goal

pub returns : goal.returns
returns c =
    let start : app_of c.disable_help_flag-command.result ≡ without_help (new_app program_name) = ap app_of_fields c.disable_help_flag-command.ensures ∙ ap without_help c.new.ensures.app in
    let first : app_of c.in_ok-command.command ≡ fold with_rule (without_help (new_app program_name)) (map option_rule (options_of c.args.form)) =
    c.in_ok-command.ensures ∙ ap₂ (λ (a : App) (cs : List Switch). fold with_rule a (map option_rule cs)) start c.options_of.ensures in
    let all : fold with_rule (app_of c.in_ok-command.command) (map (λ n. new_rule n.now) c.names_of.result.now) ≡ app_of_form program_name c.args.form =
    ap₂ (λ (a : App) (rs : List Rule). fold with_rule a rs) first (by_name c.names_of.result.now ∙ ap (map new_rule) c.names_of.ensures) ∙ whole program_name c.args.form in
    subst (λ (a : App). IfOk c.with_words.result (λ made. app_of made ≡ a)) all c.with_words.ensures
