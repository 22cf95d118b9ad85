use Rattle.std.proofs.Common.{◌∙◌, sym}
use Rattle.tests_ledgers.proofs.asked.credit_words.Goals as goal

-- the words of a credit are within the limits
pub returns : goal.returns
returns c = record {
  named = c.in_ok-named.ensures;
  limited = sym c.is_credit_amount.ensures ∙ c.if-not-is_credit_amount.false;
  reasoned = sym c.is_reason.ensures ∙ c.if-not-is_reason.false;
}
