use Rattle.std.proofs.Common.{[], ◌∙◌, ◌++◌, ◌∷◌, ap, sym, take, take_all}
use Rattle.std.proofs.lemmas.List.{take_more}
use Rattle.plain_ledger.specs.Journals.{said_after, said_from}
use Rattle.plain_ledger.proofs.JournalLemmas.{said_more}
use Rattle.plain_ledger.proofs.made_entries.make_entries.Goals as goal

-- one call more
pub loop-one-preserved : goal.loop-one-preserved
loop-one-preserved c =
    let said = c.args.said.now in
    let i = c.loop-one.one-index in
    let one = c.one-item.result in
    c.in_ok-join.ensures
    ∙ ap (said_after one) c.loop-one.invariant
    ∙ sym (said_more [] (take i said) one)
    ∙ sym (ap (said_from []) (take_more said i one c.loop-one-test.true
    ∙ ap (λ own. take i said ++ own ∷ []) (sym c.one-item.is)))

-- all of them
pub returns : goal.returns
returns c =
    c.loop-one.invariant
    ∙ ap (said_from []) (take_all c.loop-one.one-index c.args.said.now c.loop-one-test.false)
