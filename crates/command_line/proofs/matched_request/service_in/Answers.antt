use Rattle.std.proofs.Common.{inr, refl, subst, sym, IfSome}
use Rattle.report_rows.specs.ReportRows.{row_of}
use Rattle.command_line.proofs.Shared.{HasWordsOf, rows_in}
use Rattle.command_line.specs.Known.{known_table}
use Rattle.command_line.specs.Requests.{IsOfBooks}
use Rattle.command_line.proofs.matched_request.service_in.Goals as goal

pub returns-in-statement-clause-request : goal.returns-in-statement-clause-request
returns-in-statement-clause-request c =
    c.of_books_in.ensures.request c.args.name.now
    (subst (λ n. IfSome c.statement_in.result (IsOfBooks n (rows_in c.args.found.now)))
    (sym c.in-statement.is) c.statement_in.ensures.asked)

pub returns-in-statement-clause-some : goal.returns-in-statement-clause-some
unfolding known_table row_of
returns-in-statement-clause-some c =
    λ has others.
    let words = subst (λ n. HasWordsOf n (rows_in c.args.found.now)) c.in-statement.is has in
    c.of_books_in.ensures.some words.0 words.1.1.1.1.1.0
    (c.statement_in.ensures.some words.1.0 words.1.1.0)

pub returns-in-upgrade-clause-some : goal.returns-in-upgrade-clause-some
unfolding known_table row_of
returns-in-upgrade-clause-some c =
    λ has others.
    let words = subst (λ n. HasWordsOf n (rows_in c.args.found.now)) c.in-upgrade.is has in
    c.of_books_in-in-upgrade.ensures.some words.0 words.1.0 refl

pub returns-in-audit-clause-request : goal.returns-in-audit-clause-request
returns-in-audit-clause-request c =
    c.of_books_in-in-audit.ensures.request c.args.name.now
    (subst (λ n. IfSome c.audit_in.result (IsOfBooks n (rows_in c.args.found.now)))
    (sym c.in-audit.is) c.audit_in.ensures.asked)

pub returns-in-audit-clause-some : goal.returns-in-audit-clause-some
unfolding known_table row_of
returns-in-audit-clause-some c =
    λ has others.
    let words = subst (λ n. HasWordsOf n (rows_in c.args.found.now)) c.in-audit.is has in
    c.of_books_in-in-audit.ensures.some words.0 words.1.1.0 (c.audit_in.ensures.some words.1.0)

pub returns-in-backup-clause-request : goal.returns-in-backup-clause-request
returns-in-backup-clause-request c =
    c.of_books_in-in-backup.ensures.request c.args.name.now
    (subst (λ n. IfSome c.back_up_in.result (IsOfBooks n (rows_in c.args.found.now)))
    (sym c.in-backup.is) c.back_up_in.ensures.asked)

pub returns-in-backup-clause-some : goal.returns-in-backup-clause-some
unfolding known_table row_of
returns-in-backup-clause-some c =
    λ has others.
    let words = subst (λ n. HasWordsOf n (rows_in c.args.found.now)) c.in-backup.is has in
    c.of_books_in-in-backup.ensures.some words.0 words.1.1.1.0
    (c.back_up_in.ensures.some words.1.0 words.1.1.0)

pub returns-in-serve-clause-request : goal.returns-in-serve-clause-request
returns-in-serve-clause-request c =
    c.at_once_in.ensures.request c.args.name.now (inr c.in-serve.is)
    (subst (λ n. IfSome c.serve_in.result (IsOfBooks n (rows_in c.args.found.now)))
    (sym c.in-serve.is) c.serve_in.ensures.asked)

pub returns-in-serve-clause-some : goal.returns-in-serve-clause-some
unfolding known_table row_of
returns-in-serve-clause-some c =
    λ has others.
    let words = subst (λ n. HasWordsOf n (rows_in c.args.found.now)) c.in-serve.is has in
    c.at_once_in.ensures.some words.0 (c.serve_in.ensures.some words.1.0 words.1.1.0)
