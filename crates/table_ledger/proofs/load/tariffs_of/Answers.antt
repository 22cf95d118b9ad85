use Rattle.std.proofs.Common.{◌≡◌, ◌∙◌, ap, rules, subst, true}
use Rattle.std.specs.Prelude.{int_lt}
use Rattle.std.specs.List.{list_all}
use Rattle.book_model.specs.Words.{are_rising}
use Rattle.book_model.proofs.LatestLemmas.{rising-behind}
use Rattle.tree_rows.proofs.RunsRead.{zipped_next}
use Rattle.table_ledger.specs.Loaded.{SaysTariff}
use Rattle.table_ledger.proofs.load.tariffs_of.Goals as goal

pub loop-row-preserved : goal.loop-row-preserved
loop-row-preserved c =
    let rows = c.args.rows.now in
    let at = c.loop-row.row-index in
    let tariff = c.in_ok-tariff.tariff in
    let so_far = c.loop-row.tariffs.items in
    let before : list_all (λ one. int_lt one.terms.effective tariff.terms.effective) so_far ≡ true =
    search rules in
    record {
      say = zipped_next SaysTariff rows at c.row-item.result so_far c.push.new.self.items tariff
          c.loop-row-test.true c.in_ok-push.ensures.items c.loop-row.invariant.say
          (subst (λ row. SaysTariff row tariff) c.row-item.is c.in_ok-tariff.ensures.says);
      rising = ap are_rising c.in_ok-push.ensures.items
          ∙ rising-behind so_far tariff c.loop-row.invariant.rising before;
    }
