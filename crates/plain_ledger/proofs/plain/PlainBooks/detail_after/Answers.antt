use Rattle.std.proofs.Common.{◌≡◌, ◌∙◌, List, length, sym, ap, subst, map, Bool, Ok, Option}
use Rattle.std.specs.List.{IsDistinct}
use Rattle.book_model.specs.declared.detail.Detail.{Detail}
use Rattle.book_model.specs.Words.{Period, ShowsDetail, by_detail, details_asked, details_of}
use Rattle.book_model.specs.Words.{members, next_after, period_of, same_bytes, set_of}
use Rattle.book_model.proofs.DetailOrder.{next_asked}
use Rattle.plain_ledger.specs.Plain.{Entry}
use Rattle.plain_ledger.specs.PlainBook.{book_in, naming_in}
use Rattle.plain_ledger.specs.PlainDetails.{is_sought, next_among}
use Rattle.plain_ledger.specs.Treatments.{is_counted, treatment_in}
use Rattle.plain_ledger.proofs.BookLemmas.{read_of}
use Rattle.plain_ledger.proofs.LineLemmas.{written_over}
use Rattle.plain_ledger.proofs.PlainDetailLemmas.{all_dated, details_for-where, found_dated}
use Rattle.plain_ledger.proofs.PlainDetailLemmas.{names_apart, own_details}
use Rattle.plain_ledger.proofs.plain.PlainBooks.detail_after.Given.{Over}
use Rattle.plain_ledger.proofs.plain.PlainBooks.detail_after.Goals.{After-next_of}
use Rattle.plain_ledger.proofs.plain.PlainBooks.detail_after.Goals as goal

pub sort_details-requires : goal.sort_details-requires
sort_details-requires g c =
    let ledger = c.args.self.now in
    let counted : Entry → Bool = λ entry.
    is_counted (treatment_in c.in_ok-period.period ledger.posted entry) in
    subst (λ details. IsDistinct same_bytes (map (λ (detail : Detail). detail.name) details))
    (sym (c.deref_mut.ensures.value ∙ c.in_ok-details.ensures))
    (names_apart ledger.kept ledger.rising counted)

-- the entries that the period counts
abbrev counts : (g : Over) (c : After-next_of g) → Entry → Bool
counts g c entry = is_counted (treatment_in c.in_ok-period.period c.args.self.now.posted entry)

-- the details are in order
sorted : (g : Over) (c : After-next_of g)
    → c.deref.result.now
    ≡ members (set_of by_detail
    (own_details c.args.self.now.kept c.args.self.now.rising (counts g c)))
sorted g c =
    let items = c.in_ok-details.details.items in
    c.deref.ensures.value
    ∙ written_over c.in_ok-details.details.len c.sort_details.new.details items
    c.in_ok-details.details.ok.0
    (c.sort_details.ensures.len ∙ ap length c.deref_mut.ensures.value)
    ∙ c.sort_details.ensures.sorted
    ∙ ap (λ details. members (set_of by_detail details))
    (c.deref_mut.ensures.value ∙ c.in_ok-details.ensures)

pub returns-clause-detail : goal.returns-clause-detail
returns-clause-detail g c =
    let ledger = c.args.self.now in
    let names = g.N.Naming.name_of (naming_in ledger) in
    let it = (goal.at.returns-clause-detail g c).After-next_of in
    let next : List Detail → Option Detail = λ details.
    next_after c.args.last (details_asked c.args.centre details) in
    read_of (λ (period : Period). next (details_of names (book_in ledger).rulings period))
    (period_of (book_in ledger) c.args.number) _ c.in_ok-period.ensures
    ∙ ap Ok (ap next (details_for-where ledger.kept ledger.rising (counts g it) ∙ sym (sorted g it))
    ∙ sym (next_asked c.args.centre c.args.last c.deref.result.now)
    ∙ sym c.next_of.ensures)

pub returns-clause-shown : goal.returns-clause-shown
returns-clause-shown g c =
    let ledger = c.args.self.now in
    let it = (goal.at.returns-clause-shown g c).After-next_of in
    let details = own_details ledger.kept ledger.rising (counts g it) in
    subst ShowsDetail
    (ap (next_among c.args.centre c.args.last) (sym (sorted g it)) ∙ sym c.next_of.ensures)
    (found_dated
    (is_sought c.args.centre c.args.last)
    (members (set_of by_detail details))
    (all_dated ledger.kept ledger.rising (counts g it)))
