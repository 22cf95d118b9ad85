use Rattle.std.proofs.Common.{refl, subst, sym, IfSome}
use Rattle.command_line.proofs.Shared.{HasWordsOf, rows_in}
use Rattle.command_line.specs.Known.{known_table}
use Rattle.command_line.specs.Requests.{IsOfBooks}
use Rattle.command_line.proofs.matched_request.change_in.Goals as goal

pub returns-in-init-clause-some : goal.returns-in-init-clause-some
unfolding known_table
returns-in-init-clause-some c =
    λ has others.
    let words = subst (λ n. HasWordsOf n (rows_in c.args.found.now)) c.in-init.is has in
    c.at_once_in.ensures.some words.0 refl

pub returns-in-tariff-clause-request : goal.returns-in-tariff-clause-request
returns-in-tariff-clause-request c =
    c.of_books_in.ensures.request c.args.name.now
    (subst (λ n. IfSome c.tariff_in.result (IsOfBooks n (rows_in c.args.found.now)))
    (sym c.in-tariff.is) c.tariff_in.ensures.asked)

pub returns-in-tariff-clause-some : goal.returns-in-tariff-clause-some
unfolding known_table
returns-in-tariff-clause-some c =
    λ has others.
    let words = subst (λ n. HasWordsOf n (rows_in c.args.found.now)) c.in-tariff.is has in
    c.of_books_in.ensures.some words.0 words.1.1.1.1.1.1.1.0
    (c.tariff_in.ensures.some words.1.0 words.1.1.0 words.1.1.1.0 words.1.1.1.1.0)

pub returns-in-import-clause-request : goal.returns-in-import-clause-request
returns-in-import-clause-request c =
    c.of_books_in-in-import.ensures.request c.args.name.now
    (subst (λ n. IfSome c.import_in.result (IsOfBooks n (rows_in c.args.found.now)))
    (sym c.in-import.is) c.import_in.ensures.asked)

pub returns-in-import-clause-some : goal.returns-in-import-clause-some
unfolding known_table
returns-in-import-clause-some c =
    λ has others.
    let words = subst (λ n. HasWordsOf n (rows_in c.args.found.now)) c.in-import.is has in
    c.of_books_in-in-import.ensures.some words.0 words.1.1.1.1.1.1.1.0
    (c.import_in.ensures.some words.1.0 words.1.1.0 words.1.1.1.0 words.1.1.1.1.0)

pub returns-in-close-clause-request : goal.returns-in-close-clause-request
returns-in-close-clause-request c =
    c.of_books_in-in-close.ensures.request c.args.name.now
    (subst (λ n. IfSome c.close_in.result (IsOfBooks n (rows_in c.args.found.now)))
    (sym c.in-close.is) c.close_in.ensures.asked)

pub returns-in-close-clause-some : goal.returns-in-close-clause-some
unfolding known_table
returns-in-close-clause-some c =
    λ has others.
    let words = subst (λ n. HasWordsOf n (rows_in c.args.found.now)) c.in-close.is has in
    c.of_books_in-in-close.ensures.some words.0 words.1.1.1.1.1.1.1.0
    (c.close_in.ensures.some words.1.0 words.1.1.0 words.1.1.1.0 words.1.1.1.1.0)

pub returns-in-choose-clause-some : goal.returns-in-choose-clause-some
unfolding known_table
returns-in-choose-clause-some c =
    λ has others.
    let words = subst (λ n. HasWordsOf n (rows_in c.args.found.now)) c.in-choose.is has in
    c.choice_in.ensures.some words.0 words.1.1.1.1.0 words.1.1.1.1.1.1.0 words.1.1.1.1.1.1.1.0
    words.1.1.1.1.1.1.1.1.1.1.0

pub returns-in-adopt-clause-request : goal.returns-in-adopt-clause-request
returns-in-adopt-clause-request c =
    c.of_books_in-in-adopt.ensures.request c.args.name.now
    (c.ruling_in.ensures.asked c.args.name.now c.in-adopt.is refl)

pub returns-in-adopt-clause-some : goal.returns-in-adopt-clause-some
unfolding known_table
returns-in-adopt-clause-some c =
    λ has others.
    let words = subst (λ n. HasWordsOf n (rows_in c.args.found.now)) c.in-adopt.is has in
    c.of_books_in-in-adopt.ensures.some words.0 words.1.1.1.1.0
    (c.ruling_in.ensures.some words.1.0)

pub returns-in-credit-clause-request : goal.returns-in-credit-clause-request
returns-in-credit-clause-request c =
    c.of_books_in-in-credit.ensures.request c.args.name.now
    (subst (λ n. IfSome c.credit_in.result (IsOfBooks n (rows_in c.args.found.now)))
    (sym c.in-credit.is) c.credit_in.ensures.asked)

pub returns-in-credit-clause-some : goal.returns-in-credit-clause-some
unfolding known_table
returns-in-credit-clause-some c =
    λ has others.
    let words = subst (λ n. HasWordsOf n (rows_in c.args.found.now)) c.in-credit.is has in
    c.of_books_in-in-credit.ensures.some words.0 words.1.1.1.1.1.1.1.1.0
    (c.credit_in.ensures.some words.1.0 words.1.1.0 words.1.1.1.0 words.1.1.1.1.0
    words.1.1.1.1.1.0)
