use Rattle.std.proofs.Common.{All, sym, subst}
use Rattle.std.proofs.lemmas.List.Elements.{All-push}
use Rattle.office.specs.Runs.{IsAskableWithoutReader}
use Rattle.tests_ledgers.proofs.request_lists.requests.Goals as goal

pub loop-line-preserved : goal.loop-line-preserved
loop-line-preserved c =
    subst (All IsAskableWithoutReader) (sym c.in_ok-push.ensures.items)
    (All-push IsAskableWithoutReader c.loop-line.list.items c.in_ok-request_of.field-0
    c.loop-line.invariant c.in_ok-request_of.ensures)
