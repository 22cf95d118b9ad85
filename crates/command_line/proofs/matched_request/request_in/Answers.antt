use Rattle.std.proofs.Common.{subst}
use Rattle.report_rows.specs.ReportRows.{row_of}
use Rattle.command_line.proofs.Shared.{HasWordsOf, rows_in}
use Rattle.command_line.specs.Known.{known_table}
use Rattle.command_line.proofs.matched_request.request_in.Goals as goal

pub returns-in-trial-clause-some : goal.returns-in-trial-clause-some
unfolding known_table
returns-in-trial-clause-some c =
    λ has.
    let words = subst (λ n. HasWordsOf n (rows_in c.args.found.now)) c.in-trial.is has in
    c.trial_in.ensures.some words

pub returns-in-check-clause-some : goal.returns-in-check-clause-some
unfolding known_table
returns-in-check-clause-some c =
    λ has.
    let words = subst (λ n. HasWordsOf n (rows_in c.args.found.now)) c.in-check.is has in
    c.check_in.ensures.some words.1.1.1.1.0 words.0 words.1.0 words.1.1.0 words.1.1.1.0

pub returns-in-explain-clause-some : goal.returns-in-explain-clause-some
unfolding known_table row_of
returns-in-explain-clause-some c =
    λ has.
    let words = subst (λ n. HasWordsOf n (rows_in c.args.found.now)) c.in-explain.is has in
    c.explain_in.ensures.some words.0 words.1.0
