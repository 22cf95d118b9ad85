use Rattle.std.proofs.Common.{◌≡◌, ◌∙◌, FitsSigned, ap, rules, sym, w64}
use Rattle.book_model.proofs.Std.{to_z-of_z}
use Rattle.book_model.specs.Words.{is_credit_amount, is_reason}
use Rattle.book_audit.proofs.kept_credits.may_be_given.Goals as goal

pub returns : goal.returns
returns c is =
    let amount = c.args.credit.now.amount in
    let fits : FitsSigned w64 amount = search rules in
    record {
      begun = c.has_begun.ensures c.if-not-has_begun.false;
      said = record {
        named = rw c.text-centre.ensures.value at c.text-centre.ensures.name;
        limited = sym (ap is_credit_amount (to_z-of_z w64 amount fits))
            ∙ sym c.is_credit_amount.ensures ∙ c.if-not-is_credit_amount.false;
        reasoned = sym (c.is_reason.ensures ∙ ap is_reason c.as_str.ensures.value) ∙ is;
      };
    }
