use Rattle.std.proofs.Common.{◌≡◌}
use Rattle.std.specs.BTreeMap.{keys}
use Rattle.std.specs.BTreeSet.{insert_key}
use Rattle.std.specs.List.{fold}
use Rattle.book_model.specs.Words.{by_bytes}
use Rattle.page_texts.proofs.centres.join_centres.Given as goal

-- with the keys that are left they are all that are to be joined
abbrev pub invariant-loop-centre : goal.invariant-loop-centre
invariant-loop-centre l =
    fold (insert_key by_bytes) l.centres.keys l.centre-iterator
    ≡ fold (insert_key by_bytes) l.initial.centres.keys (keys l.figures.costs)
