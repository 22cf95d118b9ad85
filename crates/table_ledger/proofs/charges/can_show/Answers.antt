use Rattle.std.proofs.Common.{◌∙◌, ◌+◌, ℕ, sym, ap, subst}
use Rattle.std.proofs.lemmas.List.Elements.{All-more}
use Rattle.std.proofs.lemmas.List.Sums.{sum_by_more}
use Rattle.book_model.specs.Words.{IsDay}
use Rattle.book_model.specs.declared.row.ChargeRow.{ChargeRow}
use Rattle.table_ledger.proofs.charges.can_show.Goals as goal

pub loop-row-preserved : goal.loop-row-preserved
loop-row-preserved c =
    let rows = c.args.rows.now in
    let at = c.loop-row.row-index in
    let row = c.row-item.result in
    let before = c.loop-row.invariant in
    let more = c.in-Some.ensures in
    let day : IsDay row.day = c.is_dated.ensures.day c.if-not-is_dated.false in
    let sums = λ (f : ChargeRow → ℕ). sum_by_more f rows at row c.loop-row-test.true in
    let is = λ (f : ChargeRow → ℕ). ap f c.row-item.is in
    record {
      days = All-more (λ (one : ChargeRow). IsDay one.day) rows at row c.loop-row-test.true
          before.days (subst (λ (one : ChargeRow). IsDay one.day) c.row-item.is day);
      fits = more.fits;
      count = more.count ∙ (λ i. before.count i + is (λ one. one.count) i)
          ∙ sym (sums (λ one. one.count));
      cpu = more.cpu ∙ (λ i. before.cpu i + is (λ one. one.cpu) i) ∙ sym (sums (λ one. one.cpu));
      blocks = more.blocks ∙ (λ i. before.blocks i + is (λ one. one.blocks) i)
          ∙ sym (sums (λ one. one.blocks));
      amount = more.amount ∙ (λ i. before.amount i + is (λ one. one.amount) i)
          ∙ sym (sums (λ one. one.amount));
    }
