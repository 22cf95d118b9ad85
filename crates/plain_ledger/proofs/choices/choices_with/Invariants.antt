use Rattle.std.proofs.Common.{◌≡◌, [], map, take, filter}
use Rattle.book_model.specs.Words.{choice_named}
use Rattle.plain_ledger.specs.Choices.{choice_of, is_of}
use Rattle.plain_ledger.specs.Plain.{rulings_of}
use Rattle.plain_ledger.proofs.choices.choices_with.Given as goal

-- the choices so far
abbrev pub invariant-loop-choice : goal.invariant-loop-choice
invariant-loop-choice g l =
    l.named.items ≡ map (λ choice. choice_named (g.N.Naming.name_of l.naming) (choice_of choice))
    (filter (is_of (rulings_of [] l.adopted) l.identity) (take l.choice-index l.choices))
