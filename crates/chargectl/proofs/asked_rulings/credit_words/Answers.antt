use Rattle.std.proofs.Common.{◌∙◌, FitsSigned, IsTrue, rules, subst, sym, w64, ℤ}
use Rattle.book_model.proofs.Std.{to_z-of_z}
use Rattle.book_model.specs.Words.{is_credit_amount}
use Rattle.chargectl.proofs.CommandLemmas.{named_centre}
use Rattle.chargectl.proofs.asked_rulings.credit_words.Goals as goal

-- a name, an amount and a reason are within the limits
pub returns-clause-limits : goal.returns-clause-limits
returns-clause-limits c =
    let amount = c.in-Some-amount_of_text.amount in
    let fits : FitsSigned w64 amount = search rules in
    record {
      named = named_centre c.args.centre.now c.in-Some.centre (sym c.centre_named.ensures ∙ c.in-Some.is);
      limited = subst (λ (amount : ℤ). IsTrue (is_credit_amount amount))
          (sym (to_z-of_z w64 amount fits)) c.in-Some-amount_of_text.ensures.limited;
      reasoned = sym c.is_reason.ensures ∙ c.if-not-is_reason.false;
    }
