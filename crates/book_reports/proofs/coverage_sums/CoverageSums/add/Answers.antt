use Rattle.book_reports.proofs.CoverageLemmas.{record_joined}
use Rattle.book_reports.proofs.coverage_sums.CoverageSums.add.Goals as goal

pub returns-clause-added : goal.returns-clause-added
returns-clause-added c = λ details is.
    record_joined c.args.self.now _ details c.args.one.now c.requires is
    (c.in_ok-add_record.ensures.joined details is.rows) c.in_ok-add_system.ensures
    c.first_with-self.ensures c.day_of-self.ensures
