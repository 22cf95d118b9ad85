use Rattle.std.proofs.Common.{ap, ◌∙◌}
use Rattle.std.proofs.lemmas.Result.{IfOk-weaker}
use Rattle.clap.specs.Simple.{app_of_fields}
use Rattle.command_line.proofs.KnownLemmas.{known_shape, known_own}
use Rattle.command_line.proofs.command_line.known_command.Goals as goal

pub returns-clause-shape : goal.returns-clause-shape
returns-clause-shape c =
    IfOk-weaker c.args-2.result _ _ (λ line chain.
    known_shape c.args.highest c.args.known.now c.about.result line c.in_ok-args.args.items chain
    c.in_ok-args.ensures (ap app_of_fields c.about.ensures ∙ c.new.ensures.app)) c.args-2.ensures

pub returns-clause-own : goal.returns-clause-own
returns-clause-own c =
    IfOk-weaker c.args-2.result _ _ (λ line chain.
    known_own c.args.highest c.args.known.now.words.now c.about.result line c.in_ok-args.args.items
    chain c.in_ok-args.ensures
    (ap (λ fields. fields.has_globals) c.about.ensures ∙ c.new.ensures.local)) c.args-2.ensures
