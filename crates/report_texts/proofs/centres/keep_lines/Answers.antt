use Rattle.std.proofs.Common.{◌≡◌, rules, subst, sym}
use Rattle.std.proofs.lemmas.Fn.{filter_same}
use Rattle.book_model.specs.Words.{AreLines, same_bytes}
use Rattle.report_texts.specs.Centres.{lines_of_centre}
use Rattle.report_texts.proofs.CentreLemmas.{filtered_lines}
use Rattle.report_texts.proofs.centres.keep_lines.Goals as goal

pub returns : goal.returns
returns c =
    let all = c.args.lines.now.items in
    let kept : c.retain.new.self.items ≡ lines_of_centre c.args.centre all =
    filter_same _ _ _ (λ x b f' k. search rules) _ _ c.retain.ensures.filtered in
    record {
      kept = kept;
      lines = subst AreLines (sym kept)
          (filtered_lines (λ line. same_bytes line.priced.centre c.args.centre) all c.requires);
    }
