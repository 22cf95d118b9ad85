use Rattle.std.proofs.Common.{◌∙◌, [], ap, refl, rules, sym, unwrap_or, is_some}
use Rattle.book_model.specs.Words.{row_at}
use Rattle.book_core.specs.Words.{with_price}
use Rattle.book_core.proofs.KeyedRowLemmas.{price_joined}
use Rattle.table_ledger.proofs.OtherPriceLemmas.{row_at_found}
use Rattle.table_ledger.proofs.row_sums.add_price.Goals as goal

-- a price joins the row that was found
pub returns-in-Some : goal.returns-in-Some
returns-in-Some c = record {
  joined =
      λ costs kept.
      let key = c.key_of-key.result in
      let rows = c.args.rows.now.entries in
      let row = c.join_price.new.row in
      let found = c.in-Some.ensures.value in
      (c.get_mut.follows.holds row).0
      ∙ row_at_found key row rows c.in-Some.ensures.ordered (ap is_some (sym found))
      ∙ price_joined costs c.args.priced.now rows key (row_at [] key) c.in-Some.row.now row kept
      c.key_of-key.ensures refl (ap (λ row. unwrap_or row (row_at [] key)) found)
      c.in-Some-join_price.ensures.more;
}

-- the first price of a key makes its row
pub returns : goal.returns
returns c = record {
  joined =
      λ costs kept.
      let key = c.key_of-key.result in
      let none = ap (λ row. unwrap_or row (row_at [] key))
      (rw c.in_default.is at c.get_mut.ensures.value) in
      let more =
      price_joined costs c.args.priced.now c.args.rows.now.entries key (row_at [] key)
      (row_at [] key) c.first_row.result kept c.key_of-key.ensures refl none
      (c.first_row.ensures ∙ ap (λ key. with_price (row_at [] key) c.args.priced.now)
      (sym c.key_of-key.ensures)) in
      search (rules, c.in_ok-insert.ensures.entries, c.get_mut.follows.holds-at-none, more);
}
