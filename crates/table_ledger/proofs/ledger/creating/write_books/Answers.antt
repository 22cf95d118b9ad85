use Rattle.std.proofs.Common.{◌∙◌, sym}
use Rattle.table_ledger.proofs.StepLemmas.{makes_all}
use Rattle.table_ledger.proofs.TryLemmas.{saw_found}
use Rattle.table_ledger.proofs.ledger.creating.write_books.Goals as goal

pub returns : goal.returns
returns g c = record {
  makes = makes_all c.commit.result (saw_found c.in_ok-find_book.ensures.looks)
      (λ clean. sym (c.in_ok-find_book.ensures.row clean) ∙ sym c.is_some.ensures
      ∙ c.if-is_some.false)
      c.in_ok-make_book.ensures.makes c.commit.ensures.committed c.commit.ensures.survives;
}
