use Rattle.std.proofs.Common.{◌∙◌, [], ℕ, List, Some, None, Ok, map, sym, subst, option_map, All}
use Rattle.std.proofs.Common.{filter}
use Rattle.book_model.specs.declared.dispute.Variant.{Variant}
use Rattle.book_model.specs.declared.trail.NamedChoice.{NamedChoice}
use Rattle.book_model.specs.declared.trail.Turn.{Turn}
use Rattle.book_model.specs.Words.{IsDay, IsUsage, TrailSeen, choice_named, day_of, identity_by}
use Rattle.book_model.specs.Words.{in_force, reckoning_by}
use Rattle.plain_ledger.specs.Choices.{choice_of, is_of}
use Rattle.plain_ledger.specs.Plain.{entry_has_identity, record_of, ruled_beside, rulings_of}
use Rattle.plain_ledger.specs.Plain.{variant_at}
use Rattle.plain_ledger.specs.PlainBook.{naming_in}
use Rattle.plain_ledger.proofs.TrailLemmas.{members_dated, trail-answered, trail-missing}
use Rattle.plain_ledger.proofs.plain.PlainBooks.trail_held.Goals as goal

pub returns-in_default-clause-trail : goal.returns-in_default-clause-trail
returns-in_default-clause-trail g c =
    let ledger = c.args.self.now in
    trail-missing (ruled_beside ledger.rulings ledger.replaced.items ledger.credits.items)
    ledger.choices.items ledger.kept ledger.rising ledger.posted
    ledger.closed.items c.args.name.now (sym c.in_default.ensures.value)

pub returns-in_default-reckon_in-clause-trail : goal.returns-in_default-reckon_in-clause-trail
returns-in_default-reckon_in-clause-trail g c =
    let ledger = c.args.self.now in
    trail-answered (ruled_beside ledger.rulings ledger.replaced.items ledger.credits.items)
    ledger.choices.items ledger.kept ledger.rising ledger.posted
    ledger.closed.items c.args.name.now c.in-Some.held.now (sym c.in-Some.ensures.value) None
    (c.in_default-reckon_in.ensures.value
    ∙ (λ i. option_map (λ terms. reckoning_by terms (c.usage.ensures i))
    (in_force (day_of (c.usage.ensures i)) (c.tariffs.ensures i))))

pub returns-clause-trail : goal.returns-clause-trail
returns-clause-trail g c =
    let ledger = c.args.self.now in
    let held = c.in-Some.held.now in
    let reckoning = c.in-Some-reckon_in.reckoning in
    let adopted = c.adopted-adopted.ensures in
    let own = c.identity_by-identity.ensures
    ∙ (λ i. identity_by (rulings_of [] (adopted i)) (record_of held)) in
    let bytes = c.in_ok-from_slice.ensures.items ∙ c.deref.ensures.value in
    let members = c.in_ok-members_with.ensures
    ∙ (λ i. map variant_at (filter (entry_has_identity (rulings_of [] (adopted i)) (own i))
    ledger.held.entries)) in
    let choices = c.in_ok-choices_with.ensures
    ∙ (λ i. map (λ choice. choice_named (g.N.Naming.name_of (naming_in ledger)) (choice_of choice))
    (filter (is_of (rulings_of [] (adopted i)) (own i)) (c.deref-2.ensures.value i))) in
    let seen : List ℕ → ℕ → List Variant → List NamedChoice → List Turn → TrailSeen =
    λ bytes period members choices life. record {
      bytes = bytes;
      period = period;
      reckoning = reckoning;
      members = members;
      choices = choices;
      life = life;
    } in
    trail-answered (ruled_beside ledger.rulings ledger.replaced.items ledger.credits.items)
    ledger.choices.items ledger.kept ledger.rising ledger.posted
    ledger.closed.items c.args.name.now held (sym c.in-Some.ensures.value) (Some reckoning)
    (c.in-Some-reckon_in.ensures.value
    ∙ (λ i. option_map (λ terms. reckoning_by terms (c.usage.ensures i))
    (in_force (day_of (c.usage.ensures i)) (c.tariffs.ensures i))))
    ∙ (λ i. Ok (seen (sym bytes i) (sym c.period_of_day.ensures.number i) (sym members i)
    (sym choices i) (sym c.in_ok-life.ensures i)))

pub returns-clause-shown : goal.returns-clause-shown
returns-clause-shown g c =
    let ledger = c.args.self.now in
    let held = c.in-Some.held.now in
    let adopted = c.adopted-adopted.result in
    let own = c.identity_by-identity.result in
    record {
      usage = subst IsUsage
          (sym (c.in_ok-from_slice.ensures.items ∙ c.deref.ensures.value)) held.is_usage.usage;
      tariff = c.in-Some-reckon_in.ensures.day;
      days = subst (All (λ (member : Variant). IsDay member.priced.day))
          (sym c.in_ok-members_with.ensures)
          (members_dated (entry_has_identity (rulings_of [] adopted) own) ledger.held.entries);
    }
