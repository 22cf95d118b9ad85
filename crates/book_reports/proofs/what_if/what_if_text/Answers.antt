use Rattle.std.proofs.Common.{◌∙◌, ap, refl}
use Rattle.book_reports.proofs.WhatIfLemmas.{table_read, text_read, text_refused}
use Rattle.book_reports.proofs.Words.{sha256, call_failed}
use Rattle.book_reports.proofs.what_if.what_if_text.Goals as goal

-- the books did not say through which day the period was closed
pub returns-in_err-through : goal.returns-in_err-through
returns-in_err-through g c =
    call_failed c.from_residual.result c.from_residual.ensures.1 (λ book. refl) (λ book. refl)
    (λ book is. cc is) c.in_err-through.ensures.through

-- the text is no tariff
pub returns-in_err-terms : goal.returns-in_err-terms
returns-in_err-terms g c =
    let exit = c.from_residual-in_err-terms in
    text_refused c.args.asked c.args.tariff.now _ exit.result exit.ensures.1
    c.in_err-terms.ensures.refused (λ book. refl) c.in_ok-through.ensures.through

pub returns-in-Text : goal.returns-in-Text
returns-in-Text g c =
    text_read c.args.asked c.args.tariff.now c.digest-digest.result c.in_ok-terms.terms c.in-Text.is
    c.in_ok-terms.ensures.ok (c.digest-digest.ensures ∙ ap sha256 c.as_bytes.ensures.value)
    c.in_ok-through.ensures.through c.text_under.ensures

pub returns : goal.returns
returns g c =
    table_read c.args.asked c.args.tariff.now c.in_ok-terms.terms c.in-Table.is
    c.in_ok-terms.ensures.ok c.in_ok-through.ensures.through c.table_under.ensures
