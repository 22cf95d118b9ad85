use Rattle.std.proofs.Common.{◌≡◌, rules, subst, sym, All, not}
use Rattle.book_model.proofs.Std.{All-filter}
use Rattle.book_model.specs.declared.dispute.Variant.{Variant}
use Rattle.book_model.specs.Words.{IsDay, same_bytes}
use Rattle.report_texts.specs.RecordTexts.{rivals_of}
use Rattle.report_texts.proofs.Words.{filter_same}
use Rattle.report_texts.proofs.record_texts.keep_rivals.Goals as goal

pub returns : goal.returns
returns c =
    let all = c.args.members.now.items in
    let kept : c.retain.new.self.items ≡ rivals_of c.args.name.now all =
    filter_same _ _ _ (λ x b f' k. search rules) _ _ c.retain.ensures.filtered in
    record {
      kept = kept;
      days = subst (All (λ (member : Variant). IsDay member.priced.day)) (sym kept)
          (All-filter (λ member. not (same_bytes member.name c.args.name.now))
          (λ member. IsDay member.priced.day) all c.requires);
    }
