use Rattle.std.proofs.Common.{◌≡◌, ◌∙◌, [], ◌∷◌, sym, subst, map, None, rules}
use Rattle.std.specs.Map.Iter.{deref_pair}
use Rattle.std.proofs.lemmas.List.{map-append}
use Rattle.std.proofs.lemmas.Map.Iter.{iter_end}
use Rattle.plain_ledger.specs.Plain.{Entry}
use Rattle.plain_ledger.specs.Treatments.{NamesOf, charges, under_name}
use Rattle.plain_ledger.proofs.NameLemmas.{missing_next, names-more, names-skip}
use Rattle.plain_ledger.proofs.period_end.PeriodEnd.charged_names.Goals as goal
use Rattle.plain_ledger.proofs.period_end.PeriodEnd.charged_names.Goals.{After-charges}

-- the name of a record is that of none before it
missing : (c : After-charges)
    → under_name c.in-Some.name.now (map deref_pair c.loop-name.yielded) ≡ None
missing c =
    let held = c.into_iter-name-iterator.ensures.into_iter_gives in
    missing_next deref_pair _ _ _ _ _ _ (c.in-Some.name, c.in-Some.kept) held.0
    c.loop-name.yielded_by c.in-Some.is c.next.ensures.steps held.5

pub loop-name-preserved-in_ok-insert : goal.loop-name-preserved-in_ok-insert
loop-name-preserved-in_ok-insert c =
    let done = map deref_pair c.loop-name.yielded in
    let entry : Entry = (c.in-Some.name.now, c.in-Some.kept.now) in
    let test : Entry → _ = λ entry. charges c.args.self.now entry.1 in
    subst (λ entries. NamesOf test entries c.insert.new.self)
    (sym (map-append deref_pair c.loop-name.yielded ((c.in-Some.name, c.in-Some.kept) ∷ [])))
    (names-more test done entry c.loop-name.names c.insert.new.self
    (missing (goal.at.loop-name-preserved-in_ok-insert c).After-charges)
    c.loop-name.invariant (sym c.charges.ensures ∙ c.if-charges.true)
    c.in_ok-insert.ensures.updates.0)

pub loop-name-preserved : goal.loop-name-preserved
loop-name-preserved c =
    let done = map deref_pair c.loop-name.yielded in
    let entry : Entry = (c.in-Some.name.now, c.in-Some.kept.now) in
    let test : Entry → _ = λ entry. charges c.args.self.now entry.1 in
    subst (λ entries. NamesOf test entries c.loop-name.names)
    (sym (map-append deref_pair c.loop-name.yielded ((c.in-Some.name, c.in-Some.kept) ∷ [])))
    (names-skip test done entry c.loop-name.names
    (missing (goal.at.loop-name-preserved c).After-charges)
    c.loop-name.invariant (sym c.charges.ensures ∙ c.if-charges.false))

pub returns : goal.returns
returns c =
    let test : Entry → _ = λ entry. charges c.args.self.now entry.1 in
    let ended : map deref_pair c.loop-name.yielded ≡ c.args.held.now.entries =
    search (rules, iter_end) in
    subst (λ entries. NamesOf test entries c.loop-name.names) ended c.loop-name.invariant
