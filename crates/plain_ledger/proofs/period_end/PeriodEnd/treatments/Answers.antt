use Rattle.std.proofs.Common.{◌≡◌, ◌∙◌, [], ◌∷◌, sym, ap, subst, map, None, rules}
use Rattle.std.specs.BTreeSet.{contains}
use Rattle.std.specs.Map.Iter.{deref_pair}
use Rattle.std.proofs.lemmas.List.{map-append}
use Rattle.std.proofs.lemmas.Map.Iter.{iter_end}
use Rattle.book_model.specs.Words.{by_bytes}
use Rattle.plain_ledger.specs.Plain.{Entry}
use Rattle.plain_ledger.specs.Treatments.{TreatmentsOf, treatment_at, under_name}
use Rattle.plain_ledger.proofs.NameLemmas.{missing_next, treatments-more, treatments-skip}
use Rattle.plain_ledger.proofs.period_end.PeriodEnd.treatments.Goals as goal
use Rattle.plain_ledger.proofs.period_end.PeriodEnd.treatments.Goals.{After-treatment}

-- the name of a record is that of none before it
missing : (c : After-treatment)
    → under_name c.in-Some.name.now (map deref_pair c.loop-name.yielded) ≡ None
missing c =
    let held = c.into_iter-name-iterator.ensures.into_iter_gives in
    missing_next deref_pair _ _ _ _ _ _ (c.in-Some.name, c.in-Some.kept) held.0
    c.loop-name.yielded_by c.in-Some.is c.next.ensures.steps held.5

-- its share, by whether its name is posted
share_is : (c : After-treatment)
    → treatment_at c.args.self.now (contains by_bytes c.args.posted.now c.in-Some.name.now)
    c.in-Some.kept.now ≡ c.treatment.result
share_is c =
    ap (λ posted. treatment_at c.args.self.now posted c.in-Some.kept.now) (sym c.contains.ensures)
    ∙ sym c.treatment.ensures

pub loop-name-preserved-in_ok-insert : goal.loop-name-preserved-in_ok-insert
loop-name-preserved-in_ok-insert c =
    let at = (goal.at.loop-name-preserved-in_ok-insert c).After-treatment in
    let done = map deref_pair c.loop-name.yielded in
    let entry : Entry = (c.in-Some.name.now, c.in-Some.kept.now) in
    let treatment : Entry → _ = λ entry.
    treatment_at c.args.self.now (contains by_bytes c.args.posted.now entry.0) entry.1 in
    subst (λ entries. TreatmentsOf treatment entries c.insert.new.self)
    (sym (map-append deref_pair c.loop-name.yielded ((c.in-Some.name, c.in-Some.kept) ∷ [])))
    (treatments-more treatment done entry c.in-Some-treatment.treatment c.loop-name.treatments c.insert.new.self
    (missing at) c.loop-name.invariant (share_is at ∙ c.in-Some-treatment.is)
    c.in_ok-insert.ensures.updates.0)

pub loop-name-preserved : goal.loop-name-preserved
loop-name-preserved c =
    let at = (goal.at.loop-name-preserved c).After-treatment in
    let done = map deref_pair c.loop-name.yielded in
    let entry : Entry = (c.in-Some.name.now, c.in-Some.kept.now) in
    let treatment : Entry → _ = λ entry.
    treatment_at c.args.self.now (contains by_bytes c.args.posted.now entry.0) entry.1 in
    subst (λ entries. TreatmentsOf treatment entries c.loop-name.treatments)
    (sym (map-append deref_pair c.loop-name.yielded ((c.in-Some.name, c.in-Some.kept) ∷ [])))
    (treatments-skip treatment done entry c.loop-name.treatments
    (missing at) c.loop-name.invariant (share_is at ∙ c.in_default.is))

pub returns : goal.returns
returns c =
    let treatment : Entry → _ = λ entry.
    treatment_at c.args.self.now (contains by_bytes c.args.posted.now entry.0) entry.1 in
    let ended : map deref_pair c.loop-name.yielded ≡ c.args.held.now.entries =
    search (rules, iter_end) in
    subst (λ entries. TreatmentsOf treatment entries c.loop-name.treatments) ended c.loop-name.invariant
