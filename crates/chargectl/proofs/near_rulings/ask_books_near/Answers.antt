use Rattle.std.proofs.Common.{refl, subst}
use Rattle.named_books.specs.Shelves.{IsOpened}
use Rattle.chargectl.specs.NearRulings.{AsksNear}
use Rattle.chargectl.proofs.near_rulings.ask_books_near.Goals as goal

pub returns : goal.returns
returns g c =
    let shelf = g.S.Repository.shelf in
    let old = shelf c.args.repository.now in
    let told = c.open-answer.result.answer in
    record {
      told = told;
      done = subst (λ today. IsOpened (AsksNear old.naming today c.args.asked) c.args.book.now old
          (shelf c.open-answer.new.self) told) c.today-today.ensures c.open-answer.ensures.opened;
      there = c.open-answer.ensures.there;
      says = c.near_answer.ensures;
      notice = refl;
      log = c.open-answer.ensures.log;
      change = refl;
    }
