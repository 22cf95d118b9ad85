use Rattle.std.proofs.Common.{ap, refl, subst}
use Rattle.named_books.specs.Shelves.{IsTried}
use Rattle.chargectl.specs.DryRuns.{TriesOnceBy}
use Rattle.chargectl.proofs.DryRunLemmas.{form_told}
use Rattle.chargectl.proofs.dry_runs.try_books.Goals as goal

pub returns : goal.returns
returns g c =
    let shelf = g.S.Repository.shelf in
    let old = shelf c.args.repository.now in
    let told = c.try_out-answer.result.answer in
    record {
      told = told;
      tried = subst (λ today. IsTried (TriesOnceBy old.naming today c.args.asked) c.args.book.now old
          (shelf c.try_out-answer.new.self) told) c.today-today.ensures c.try_out-answer.ensures.tried;
      form = form_told _ told c.try_out-answer.ensures.came;
      there = c.try_out-answer.ensures.there;
      says = ap (λ both. both.0) c.told_in-answer.ensures;
      notice = ap (λ both. both.1) c.told_in-answer.ensures;
      log = c.try_out-answer.ensures.log;
      change = refl;
    }
