use Rattle.std.proofs.Common.{◌∙◌, sym, ap, option_copied}
use Rattle.book_model.specs.Words.{same_bytes}
use Rattle.plain_ledger.proofs.ChoiceLemmas.{is_chosen-by}
use Rattle.plain_ledger.proofs.choices.is_chosen.Goals as goal

pub returns-in-Some : goal.returns-in-Some
returns-in-Some c =
    c.eq.ensures
    ∙ (λ i. same_bytes (c.as_slice.ensures.value i) (c.as_slice-in-Some.ensures.value i))
    ∙ is_chosen-by c.args.adopted c.args.choices.now c.args.held.now _ _ c.identity_by.ensures
    (ap option_copied (sym c.in-Some.is) ∙ c.last_of.ensures)

pub returns-in-None : goal.returns-in-None
returns-in-None c =
    is_chosen-by c.args.adopted c.args.choices.now c.args.held.now _ _ c.identity_by.ensures
    (ap option_copied (sym c.in-None.is) ∙ c.last_of.ensures)
