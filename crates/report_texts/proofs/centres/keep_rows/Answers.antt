use Rattle.std.proofs.Common.{◌≡◌, rules, subst, sym}
use Rattle.std.proofs.lemmas.Fn.{filter_same}
use Rattle.book_model.specs.Words.{AreRows, same_bytes}
use Rattle.report_texts.specs.Centres.{rows_of_centre}
use Rattle.report_texts.proofs.CentreLemmas.{filtered_rows}
use Rattle.report_texts.proofs.centres.keep_rows.Goals as goal

pub returns : goal.returns
returns c =
    let all = c.args.rows.now.items in
    let kept : c.retain.new.self.items ≡ rows_of_centre c.args.centre all =
    filter_same _ _ _ (λ x b f' k. search rules) _ _ c.retain.ensures.filtered in
    record {
      kept = kept;
      rows = subst AreRows (sym kept)
          (filtered_rows (λ row. same_bytes row.centre c.args.centre) all c.requires);
    }
