use Rattle.std.proofs.Common.{All, List, Vec, Global, sym, subst, ℕ}
use Rattle.book_model.specs.Words.{IsFramed, texts}
use Rattle.tests_ledgers.proofs.DumpLemmas.{framed_at}
use Rattle.tests_ledgers.proofs.groups.usage_records.Goals as goal

pub add-requires : goal.add-requires
add-requires c =
    let records = c.deref-bytes-items.result.now in
    let framed : All IsFramed (texts records) =
    subst (λ vectors. All IsFramed (texts vectors)) (sym c.deref-bytes-items.ensures.value)
    c.in_ok-dump.ensures.framed in
    subst IsFramed (sym c.deref.ensures.value)
    (framed_at records c.loop-bytes.bytes-index c.bytes-item.result c.loop-bytes-test.true c.bytes-item.is
    framed)
