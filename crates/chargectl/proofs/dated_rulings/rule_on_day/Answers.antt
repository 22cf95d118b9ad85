use Rattle.std.proofs.Common.{ap, subst}
use Rattle.named_books.specs.Shelves.{IsOpened}
use Rattle.chargectl.specs.Commands.{AsksDatedBy, answer_told}
use Rattle.chargectl.proofs.FarLemmas.{once_opened, there_told}
use Rattle.chargectl.proofs.dated_rulings.rule_on_day.Goals as goal

pub returns-clause-answered : goal.returns-clause-answered
returns-clause-answered g c = record {
  told = answer_told c.open-answer.result.answer;
  done = once_opened c.today-today.result c.args.asked c.args.book.now
      (g.S.Repository.shelf c.args.repository.now) (g.S.Repository.shelf c.open-answer.new.self)
      c.open-answer.result.answer c.open-answer.ensures.opened;
  there = there_told c.args.book.now (g.S.Repository.shelf c.args.repository.now)
      (g.S.Repository.shelf c.open-answer.new.self) c.open-answer.result.answer
      c.open-answer.ensures.there;
  says = ap (λ both. both.0) c.told_in-answer.ensures;
  log = c.open-answer.ensures.log;
  change = c.may_change-is_change.ensures;
}

-- the day is that of the clock
pub returns-clause-dated : goal.returns-clause-dated
returns-clause-dated g c =
    let shelf = g.S.Repository.shelf in
    let old = shelf c.args.repository.now in
    let told = c.open-answer.result.answer in
    record {
      told = told;
      done = subst (λ today. IsOpened (AsksDatedBy old.naming today c.args.asked) c.args.book.now old
          (shelf c.open-answer.new.self) told) c.today-today.ensures c.open-answer.ensures.opened;
      says = ap (λ both. both.0) c.told_in-answer.ensures;
      notice = ap (λ both. both.1) c.told_in-answer.ensures;
    }
