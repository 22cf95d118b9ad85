use Rattle.std.proofs.Common.{◌≡◌, ◌∙◌, [], Option, List, ℕ, Some, ap, subst, sym}
use Rattle.book_core.specs.Words.{IsTransition}
use Rattle.book_reports.proofs.Words.{writer_of, WritesRulings}
use Rattle.book_reports.proofs.RulingLemmas.{list_in_memory}
use Rattle.book_reports.proofs.ruling_texts.ruling_list.Goals as goal

pub returns : goal.returns
returns g c =
    let old = g.L.Ledger.seen c.args.ledger.now in
    let new = g.L.Ledger.seen c.write_rulings-told.new.ledger in
    let told = c.write_rulings-told.result in
    let Made = λ (held holds : Option (List ℕ)). WritesRulings old.naming held holds told in
    let none : Some (writer_of c.new-sink.result).items ≡ Some [] =
    ap (λ vec. Some vec.items) c.new-sink.ensures.writer ∙ ap Some c.new.ensures.items in
    let whole : Some (writer_of c.write_rulings-told.new.sink).items ≡ Some c.into_inner.result.items =
    ap (λ vec. Some vec.items) (sym c.into_inner.ensures.writer) in
    rw c.written.ensures
    (list_in_memory c.into_inner.result told
    (subst (λ holds. IsTransition old new (Made (Some []) holds)) whole
    (subst (λ held. IsTransition old new
    (Made held (Some (writer_of c.write_rulings-told.new.sink).items))) none
    c.write_rulings-told.ensures.written))
    c.write_rulings-told.ensures.reopens)
