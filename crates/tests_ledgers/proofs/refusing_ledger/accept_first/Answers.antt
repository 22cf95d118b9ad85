use Rattle.std.proofs.Common.{None}
use Rattle.book_core.specs.Submissions.{TakesOf, records_in}
use Rattle.book_core.proofs.SubmissionLemmas.{of_no_import, takes_part, without_import}
use Rattle.book_core.proofs.TransitionLemmas.{work_as}
use Rattle.tests_ledgers.proofs.refusing_ledger.accept_first.Goals as goal

pub returns-clause-takes : goal.returns-clause-takes
returns-clause-takes g c =
    let naming = (g.L.Ledger.seen c.args.ledger.now).naming in
    let part = c.first_alone-first.result.now in
    let all = records_in c.args.records.now in
    let result = c.accept_many.result in
    work_as _ _ (TakesOf naming None (records_in part) result) (TakesOf naming None all result)
    (λ was before events is takes. without_import naming all result was before events is
    (takes_part naming c.args.records.now 1 part result c.first_alone-first.ensures.first
    c.first_alone-first.ensures.some was before events is
    (of_no_import naming (records_in part) result was before events is takes)))
    c.accept_many.ensures.takes
