use Rattle.std.proofs.Common.{◌∙◌, ap, sym}
use Rattle.book_model.specs.Words.{price_by, record_with}
use Rattle.table_model.specs.Words.{RecordRow}
use Rattle.table_ledger.proofs.LineReadings.{found_there}
use Rattle.table_ledger.proofs.TryLemmas.{looks_known, saw_found}
use Rattle.table_ledger.proofs.Words.{some_is, stored_entry}
use Rattle.table_ledger.proofs.detail_prices.price_named.Goals as goal

-- of which it is the price
pub returns : goal.returns
returns g c = record {
  looks =
      let name = c.args.name.now in
      let stored = c.in-Some.stored in
      looks_known (saw_found (rw c.in-Some.is at c.in_ok-stored.ensures.looks))
      (λ tables finds row there.
      let own = some_is (stored_entry stored).1 row
      (sym (found_there name tables stored finds) ∙ there) in
      c.price.ensures.value
      ∙ ap (price_by c.args.tariff.now) (c.of_usage.ensures ∙ c.deref-2.ensures.value
      ∙ c.in_ok-bytes.ensures.bytes ∙ ap record_with (c.deref.ensures.value
      ∙ ap (λ (row : RecordRow). row.data_bytes) own)));
}
