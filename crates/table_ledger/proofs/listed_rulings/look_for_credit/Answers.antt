use Rattle.std.proofs.Common.{◌∙◌, ◌+◌, Some, ap, option_map, sym}
use Rattle.book_model.specs.Words.{credit_seen}
use Rattle.table_ledger.proofs.TryLemmas.{looks_known, saw_found}
use Rattle.table_ledger.proofs.listed_rulings.look_for_credit.Goals as goal

-- it is shown by its number
pub returns-clause-looks : goal.returns-clause-looks
returns-clause-looks g c =
    looks_known (saw_found c.in_ok-credit.ensures) (λ tables known.
    ap (option_map (credit_seen (c.args.place + 1))) known ∙ ap Some (sym c.listed_credit.ensures.shown))
