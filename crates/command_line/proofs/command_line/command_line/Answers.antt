use Rattle.std.proofs.Common.{ap, ◌∙◌, true}
use Rattle.std.proofs.lemmas.Result.{IfOk-weaker}
use Rattle.clap.specs.Simple.{App, app_of_fields}
use Rattle.command_line.proofs.KnownLemmas.{known_app}
use Rattle.command_line.proofs.command_line.command_line.Goals as goal

pub returns : goal.returns
returns c =
    IfOk-weaker c.subcommands.result _ _ (λ line chain.
    known_app c.args.program.now c.args.highest c.args.table.now c.subcommand_required.result line
    c.in_ok-commands.commands.items chain c.in_ok-commands.ensures
    (ap app_of_fields c.subcommand_required.ensures
    ∙ ap (λ (app : App). record app { top = record app.top { subcommand_required = true } })
    (ap app_of_fields c.version.ensures
    ∙ ap (λ (app : App). record app { top = record app.top { has_version = true } })
    (ap app_of_fields c.about.ensures ∙ c.new.ensures.app)))) c.subcommands.ensures
