use Rattle.std.proofs.Common.{rules}
use Rattle.std.proofs.lemmas.List.Sorted.{answers_always}
use Rattle.book_model.specs.Words.{key_of}
use Rattle.book_model.proofs.DetailLemmas.{sorted_details}
use Rattle.book_core.proofs.details.sort_details.Goals as goal

pub returns-clause-sorted : goal.returns-clause-sorted
returns-clause-sorted c =
    let in_order =
    c.sort_unstable_by_key.ensures.sorted
    (λ detail. (key_of detail.priced, (detail.time, detail.name)))
    (answers_always _ _ _ (λ f a r g h. search rules)) in
    sorted_details c.args.details.now c.sort_unstable_by_key.new.self c.requires
    c.sort_unstable_by_key.ensures.permutation in_order
