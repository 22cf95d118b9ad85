use Rattle.std.proofs.Common.{◌∙◌, ap, rules, unwrap_or}
use Rattle.book_core.proofs.KeyedRowLemmas.{price_joined}
use Rattle.book_reports.proofs.bill_work.add_price.Goals as goal

pub returns-clause-joined : goal.returns-clause-joined
returns-clause-joined c = λ prices kept.
    let found = c.or_insert-row.ensures.value
    ∙ ap (λ o. unwrap_or o c.empty_row.result) c.in_ok-rows.ensures.value in
    let written = c.in_ok-rows.ensures.update.1 c.in-Some.more in
    let more =
    price_joined prices c.args.priced.now c.args.rows.now.entries c.key_of-key.result
    c.empty_row.result c.or_insert-row.result.now c.in-Some.more kept c.key_of-key.ensures
    c.empty_row.ensures found c.in-Some.ensures.value in
    search (rules, written, more)
