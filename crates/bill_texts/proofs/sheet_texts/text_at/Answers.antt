use Rattle.std.proofs.Common.{ℕ, List, [], Option, ap, unwrap_or}
use Rattle.bill_texts.specs.Sheets.{text_at}
use Rattle.bill_texts.proofs.sheet_texts.text_at.Goals as goal

-- the text that is found is the one at the place
pub returns-in-Some : goal.returns-in-Some
unfolding text_at
returns-in-Some c =
    ap (λ (found : Option (List ℕ)). unwrap_or found []) (rw c.in-Some.is at c.get.ensures.value)

-- where there is none it is none
pub returns-in-None : goal.returns-in-None
unfolding text_at
returns-in-None c =
    ap (λ (found : Option (List ℕ)). unwrap_or found []) (rw c.in-None.is at c.get.ensures.value)
