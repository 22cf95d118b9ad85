use Rattle.std.proofs.Common.{subst, sym}
use Rattle.chargectl.specs.Choices.{IsListBy}
use Rattle.chargectl.proofs.choices.answer_names.Goals as goal

pub returns-then-tried-clause-came : goal.returns-then-tried-clause-came
returns-then-tried-clause-came g c =
    let shelf = g.S.Repository.shelf in
    subst (λ tried. IsListBy tried c.args.withheld c.args.listed.names.items c.args.book.now
    (shelf c.args.repository.now) (shelf c.try_names.new.repository) c.try_names.result)
    (sym c.if-tried.true) c.try_names.ensures.came

pub returns-clause-came : goal.returns-clause-came
returns-clause-came g c =
    let shelf = g.S.Repository.shelf in
    subst (λ tried. IsListBy tried c.args.withheld c.args.listed.names.items c.args.book.now
    (shelf c.args.repository.now) (shelf c.choose_names.new.repository) c.choose_names.result)
    (sym c.if-tried.false) c.choose_names.ensures.came
