use Rattle.std.proofs.Common.{rules}
use Rattle.std.proofs.lemmas.List.Sorted.{answers_always}
use Rattle.book_model.proofs.LineOrder.{sorted_lines}
use Rattle.book_core.proofs.lines.sort_lines.Goals as goal

pub returns-clause-sorted : goal.returns-clause-sorted
returns-clause-sorted c =
    let in_order =
    c.sort_unstable_by_key.ensures.sorted (λ line. (line.priced.day, line.name))
    (answers_always _ _ _ (λ f a r g h. search rules)) in
    sorted_lines c.args.lines.now c.sort_unstable_by_key.new.self c.requires
    c.sort_unstable_by_key.ensures.permutation in_order
