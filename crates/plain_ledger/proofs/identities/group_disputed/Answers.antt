use Rattle.std.proofs.Common.{◌≡◌, ◌∙◌, ◌++◌, [], ◌∷◌, sym, ap, map, rules, filter}
use Rattle.std.specs.BTreeSet.{contains}
use Rattle.std.specs.Map.Iter.{deref_pair}
use Rattle.std.specs.BTreeMap.Entry.{entry_value, map_with_value}
use Rattle.std.proofs.lemmas.List.{map-append}
use Rattle.std.proofs.lemmas.Map.Iter.{iter_end}
use Rattle.book_model.specs.Words.{by_bytes}
use Rattle.plain_ledger.specs.Plain.{Entry, is_disputed, rulings_of}
use Rattle.book_model.proofs.ListLemmas.{filter-agree}
use Rattle.plain_ledger.proofs.IdentityLemmas.{shown_groups, groups_of, groups_of-none, is_among}
use Rattle.plain_ledger.proofs.IdentityLemmas.{among-disputed, shown_groups-more}
use Rattle.plain_ledger.proofs.IdentityLemmas.{disputes_among-groups}
use Rattle.plain_ledger.proofs.identities.group_disputed.Goals as goal

pub loop-name-init : goal.loop-name-init
loop-name-init c =
    ap shown_groups c.new-groups.ensures.empty
    ∙ sym (groups_of-none (rulings_of c.args.choices.now c.args.adopted))

pub loop-name-preserved-in_ok-push : goal.loop-name-preserved-in_ok-push
loop-name-preserved-in_ok-push c =
    let done = map deref_pair c.loop-name.yielded in
    let rulings = rulings_of c.args.choices.now c.args.adopted in
    let test = is_among rulings c.in_ok-disputed.disputed in
    let entry : Entry = (c.in-Some.name.now, c.in-Some.kept.now) in
    let own = c.identity_by-identity.ensures in
    let passes = ap (contains by_bytes c.in_ok-disputed.disputed) (sym own)
    ∙ sym c.contains.ensures ∙ c.if-contains.true in
    let pushed = c.in_ok-push.ensures.items
    ∙ ap (λ v. c.or_default.result.now.items ++ v ∷ []) c.variant.ensures in
    let written = c.in_ok-groups.ensures.update.1 c.push.new.self in
    let more = shown_groups-more rulings test done entry _ c.loop-name.groups.entries
    (map_with_value c.in_ok-groups.field-0 c.push.new.self).entries
    (entry_value c.in_ok-groups.field-0)
    c.or_default.result.now c.push.new.self own passes c.loop-name.invariant
    c.in_ok-groups.ensures.value c.or_default.ensures.value pushed written
    ∙ ap (λ es. groups_of rulings (filter test es))
    (sym (map-append deref_pair c.loop-name.yielded ((c.in-Some.name, c.in-Some.kept) ∷ []))) in
    search (rules, more)

pub returns : goal.returns
returns c =
    let all = c.args.held.now.entries in
    let rulings = rulings_of c.args.choices.now c.args.adopted in
    let disputed = c.in_ok-disputed.disputed in
    let ended : map deref_pair c.loop-name.yielded ≡ all = search (rules, iter_end) in
    disputes_among-groups rulings all c.loop-name.groups.entries (c.loop-name.invariant
    ∙ ap (λ es. groups_of rulings (filter (is_among rulings disputed) es)) ended
    ∙ ap (groups_of rulings)
    (filter-agree (is_among rulings disputed) (is_disputed rulings all) all
    (among-disputed rulings disputed all c.in_ok-disputed.ensures)))
