use Rattle.std.proofs.Common.{◌≡◌, ◌∙◌, ◌<◌, Ok, Some, ap, arith, length, map, option_map, slice_get}
use Rattle.std.proofs.Common.{subst, sym}
use Rattle.std.proofs.lemmas.List.{length-map}
use Rattle.std.proofs.lemmas.Option.{slice_get-get_or, slice_get-map}
use Rattle.book_model.specs.Words.{all_replaced_seen, ruling_shown}
use Rattle.book_core.specs.ListedRulings.{StandsAt}
use Rattle.book_core.specs.OfficeRulings.{ruled_in}
use Rattle.book_core.specs.declared.listed_rulings.ListedAt.{ListedAt}
use Rattle.plain_ledger.specs.Plain.{replaced_of}
use Rattle.plain_ledger.specs.PlainBook.{book_in, naming_in}
use Rattle.plain_ledger.proofs.plain.PlainBooks.ruling_listed.Given.{Over}
use Rattle.plain_ledger.proofs.plain.PlainBooks.ruling_listed.Goals.{After-ruling_counts-counts}
use Rattle.plain_ledger.proofs.plain.PlainBooks.ruling_listed.Goals as goal

-- no more are listed than were replaced
pub ruling_counts-counts-requires : goal.ruling_counts-counts-requires
ruling_counts-counts-requires g c =
    let kept = c.args.self.now.few_replaced in
    let few = c.in_ok-replaced.ensures.few in
    let all = ap length c.deref.ensures.value in
    let listed = ap length c.deref-2.ensures.value in
    omega (arith, kept, few, all, listed)

-- those that are listed
listed_is : (g : Over) (c : After-ruling_counts-counts g)
    → all_replaced_seen (book_in c.args.self.now).rulings.replaced
    ≡ map ruling_shown c.in_ok-replaced.replaced.items
listed_is g c =
    ap (λ replaced. all_replaced_seen (map replaced_of replaced)) (sym c.deref.ensures.value)
    ∙ sym c.in_ok-replaced.ensures.listed

-- as many as were counted
replaced_is : (g : Over) (c : After-ruling_counts-counts g)
    → length (all_replaced_seen (book_in c.args.self.now).rulings.replaced)
    ≡ c.ruling_counts-counts.result.replaced
replaced_is g c =
    ap length (listed_is g c)
    ∙ length-map c.in_ok-replaced.replaced.items ruling_shown
    ∙ ap length (sym c.deref-2.ensures.value)
    ∙ sym c.ruling_counts-counts.ensures.replaced

pub returns-in-Choice-clause-ruling : goal.returns-in-Choice-clause-ruling
returns-in-Choice-clause-ruling g c =
    let at = (goal.at.returns-in-Choice-clause-ruling g c).After-ruling_counts-counts in
    let ledger = c.args.self.now in
    let rulings = (book_in ledger).rulings in
    let names = g.N.Naming.name_of (naming_in ledger) in
    let counts = c.ruling_counts-counts.result in
    let stands = subst (λ (found : ListedAt).
    StandsAt (ruled_in ledger.rulings) counts c.args.number found)
    c.in-Choice.is c.in_ok-listed.ensures.stands in
    ap Ok (stands.1 names rulings.choices rulings.replaced rulings.credits
    (sym c.ruling_counts-counts.ensures.choices) (replaced_is g at)
    (sym c.ruling_counts-counts.ensures.credits)
    ∙ sym c.choice_listed.ensures.listed)

pub returns-in-Replaced-clause-ruling : goal.returns-in-Replaced-clause-ruling
returns-in-Replaced-clause-ruling g c =
    let at = (goal.at.returns-in-Replaced-clause-ruling g c).After-ruling_counts-counts in
    let ledger = c.args.self.now in
    let rulings = (book_in ledger).rulings in
    let names = g.N.Naming.name_of (naming_in ledger) in
    let counts = c.ruling_counts-counts.result in
    let place = c.in-Replaced.place in
    let all = c.in_ok-replaced.replaced.items in
    let stands = subst (λ (found : ListedAt).
    StandsAt (ruled_in ledger.rulings) counts c.args.number found)
    c.in-Replaced.is c.in_ok-listed.ensures.stands in
    let many = sym (replaced_is g at) ∙ ap length (listed_is g at) ∙ length-map all ruling_shown in
    let before = stands.0 in
    let within : place < length all = omega (arith, many, before) in
    ap Ok (stands.1 names rulings.choices rulings.replaced rulings.credits
    (sym c.ruling_counts-counts.ensures.choices) (replaced_is g at)
    (sym c.ruling_counts-counts.ensures.credits)
    ∙ ap (λ list. slice_get list place) (listed_is g at)
    ∙ slice_get-map ruling_shown all place
    ∙ ap (option_map ruling_shown) (slice_get-get_or all place c.swap_remove.result within
    ∙ ap Some (sym c.swap_remove.ensures.value)))

pub returns-in-Credit-clause-ruling : goal.returns-in-Credit-clause-ruling
returns-in-Credit-clause-ruling g c =
    let at = (goal.at.returns-in-Credit-clause-ruling g c).After-ruling_counts-counts in
    let ledger = c.args.self.now in
    let rulings = (book_in ledger).rulings in
    let names = g.N.Naming.name_of (naming_in ledger) in
    let counts = c.ruling_counts-counts.result in
    let stands = subst (λ (found : ListedAt).
    StandsAt (ruled_in ledger.rulings) counts c.args.number found)
    c.in-Credit.is c.in_ok-listed.ensures.stands in
    ap Ok (stands.1 names rulings.choices rulings.replaced rulings.credits
    (sym c.ruling_counts-counts.ensures.choices) (replaced_is g at)
    (sym c.ruling_counts-counts.ensures.credits)
    ∙ sym c.in_ok-credit_listed-in-Credit.ensures.listed)

pub returns-clause-ruling : goal.returns-clause-ruling
returns-clause-ruling g c =
    let at = (goal.at.returns-clause-ruling g c).After-ruling_counts-counts in
    let ledger = c.args.self.now in
    let rulings = (book_in ledger).rulings in
    let names = g.N.Naming.name_of (naming_in ledger) in
    let counts = c.ruling_counts-counts.result in
    let stands = subst (λ (found : ListedAt).
    StandsAt (ruled_in ledger.rulings) counts c.args.number found)
    c.in-Other.is c.in_ok-listed.ensures.stands in
    ap Ok (stands names rulings.choices rulings.replaced rulings.credits
    (sym c.ruling_counts-counts.ensures.choices) (replaced_is g at)
    (sym c.ruling_counts-counts.ensures.credits))
