use Rattle.std.proofs.Common.{◌∙◌, Err, Global, List, Ok, Option, String, Vec, ap, ok_or, option_map, refl}
use Rattle.std.proofs.Common.{string_bytes, sym, w32, ℕ}
use Rattle.book_model.proofs.Std.{to_z-of_z}
use Rattle.book_lists.proofs.ShownLemmas.{answers, answers_as, shown}
use Rattle.book_model.specs.declared.fault.LedgerFault.TheVariants.{NoSuchTariff}
use Rattle.book_reports.proofs.Words.{call_failed, same_value}
use Rattle.book_reports.proofs.replaced_texts.replaced_text.Goals as goal

-- the list of rulings is refused
pub returns-in_err-found : goal.returns-in_err-found
returns-in_err-found g c =
    call_failed c.from_residual.result c.from_residual.ensures.1 (λ book. refl) (λ book. refl)
    (λ book is. cc is) c.in_err-found.ensures

-- there is such a text
pub returns-in-Some : goal.returns-in-Some
returns-in-Some g c =
    let call = rw (to_z-of_z w32 c.args.day c.ranges.day) at c.in_ok-found.ensures in
    answers c.into_bytes.result (λ book. refl)
    (λ book known. ap (λ (found : Option (List ℕ)). ok_or found NoSuchTariff)
    (same_value known
    ∙ ap (option_map (λ (text : String Global). string_bytes text)) c.in-Some.is)
    ∙ ap (λ (vec : Vec ℕ Global). Ok vec.items) (sym c.into_bytes.ensures.value))
    (shown (λ book. refl) call)

-- or there is none
pub returns-in-None : goal.returns-in-None
returns-in-None g c =
    let call = rw (to_z-of_z w32 c.args.day c.ranges.day) at c.in_ok-found.ensures in
    answers_as (Err NoSuchTariff) (record { reopen = refl; store = refl }) (λ book. refl)
    (λ book known. ap (λ (found : Option (List ℕ)). ok_or found NoSuchTariff)
    (same_value known
    ∙ ap (option_map (λ (text : String Global). string_bytes text)) c.in-None.is))
    (shown (λ book. refl) call)
