use Rattle.std.proofs.Common.{◌∙◌, ◌++◌, ◌∷◌, [], refl, sym, ap}
use Rattle.book_import.proofs.GatheringLemmas.{group_with_other, group_with_usage}
use Rattle.book_import.proofs.group.Group.add.Goals as goal

pub returns-in_default-clause-more : goal.returns-in_default-clause-more
returns-in_default-clause-more c =
    group_with_other c.args.bytes.now c.class-class.result (sym c.class-class.ensures.class)
    c.in_default.not-Usage c.in_ok-push.ensures.items refl

pub returns-clause-more : goal.returns-clause-more
returns-clause-more c =
    group_with_usage c.args.bytes.now c.in_ok-own.own
    (sym c.class-class.ensures.class ∙ c.in-Usage.is) c.in_ok-own.ensures.items
    (c.in_ok-push.ensures.items ∙ ap (λ class. c.args.self.now.classes.items ++ class ∷ []) c.in-Usage.is)
    c.in_ok-push-2.ensures.items
