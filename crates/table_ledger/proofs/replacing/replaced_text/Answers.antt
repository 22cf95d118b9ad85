use Rattle.std.proofs.Common.{◌∙◌, ap, option_and_then, option_copied, sym}
use Rattle.book_model.specs.Words.{AcceptedTerms}
use Rattle.table_ledger.proofs.replacing.replaced_text.Goals as goal

-- that of the tariff that was found
pub returns : goal.returns
returns c =
    ap (option_and_then (λ (tariff : AcceptedTerms). tariff.text))
    (sym (ap option_copied (sym c.in-Some.is) ∙ c.begun_on.ensures))
    ∙ c.in_ok-text.ensures
