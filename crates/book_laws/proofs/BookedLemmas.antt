-- What the office books is what its centres' bills book.
use Rattle.std.proofs.Common.{◌≡◌, ◌∙◌, ℕ, List, [], ◌∷◌, None, ap, map, refl, sym}
use Rattle.book_model.specs.Words.{BillSeen, bill_of}
use Rattle.report_texts.specs.Charges.{centres_on, charges_on}
use Rattle.report_texts.specs.declared.charges.CentreCharges.{CentreCharges}
use Rattle.bill_texts.specs.Booked.{booked_of_all, owed_by, owed_of}
use Rattle.book_laws.specs.BookedLaws.{BookedAddUp}
use Rattle.book_laws.proofs.BillLemmas.{bills_add_up}

-- what each centre owes, by its charges
owed_each : (of_centre : List ℕ → CentreCharges) (centres : List (List ℕ))
    → map owed_by (map of_centre centres) ≡ map (λ centre. owed_of (of_centre centre).charges) centres
owed_each of_centre [] = refl
owed_each of_centre (centre ∷ centres) =
    ap (λ others. owed_of (of_centre centre).charges ∷ others) (owed_each of_centre centres)

-- the law
pub booked_add_up : BookedAddUp
booked_add_up naming book number period unit =
    let shares = bills_add_up naming book number period in
    let office : BillSeen = bill_of naming book number None period in
    let centres : List (List ℕ) = centres_on office in
    ap (booked_of_all unit) (owed_each (charges_on office) centres)
    ∙ (λ i. booked_of_all unit
    (map (λ (centre : List ℕ). owed_of (sym (shares.each centre) i)) centres))
