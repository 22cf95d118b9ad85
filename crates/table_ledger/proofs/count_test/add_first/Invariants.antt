use Rattle.std.proofs.Common.{◌≡◌, ℕ, List, map, take}
use Rattle.std.specs.BTreeMap.{get}
use Rattle.book_model.proofs.Std.{option_or}
use Rattle.book_model.specs.Words.{by_bytes}
use Rattle.table_ledger.proofs.Words.{find, signed_name}
use Rattle.table_ledger.proofs.count_test.add_first.Given as goal

-- those of the lines so far have joined that are the first of their records
abbrev pub invariant-loop-line : goal.invariant-loop-line
invariant-loop-line l =
    (name : List ℕ) → get by_bytes l.lines name
    ≡ option_or (get by_bytes l.fn.lines name)
    (find by_bytes name (map signed_name (take l.line-index l.found)))
