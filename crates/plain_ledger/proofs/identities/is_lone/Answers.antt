use Rattle.std.proofs.Common.{◌∙◌, [], ap, Bool, rules, tests, nat_eq}
use Rattle.std.specs.BTreeMap.{values}
use Rattle.std.proofs.lemmas.Iterator.Consumers.{YieldsList-from_filter, YieldsList-from_rest}
use Rattle.std.proofs.lemmas.Iterator.Consumers.{YieldsList-at, count_from_yields_List}
use Rattle.std.proofs.lemmas.List.Sums.{length-filter}
use Rattle.book_model.specs.Words.{identity_by, same_bytes}
use Rattle.book_model.proofs.ListLemmas.{count_by-map}
use Rattle.plain_ledger.specs.declared.held.HeldRecord.{HeldRecord}
use Rattle.plain_ledger.specs.Plain.{Entry, record_of, rulings_of}
use Rattle.plain_ledger.proofs.identities.is_lone.Goals as goal

pub returns : goal.returns
returns c =
    let held = c.args.held.now in
    let has_it : HeldRecord → Bool = λ kept.
    same_bytes (identity_by (rulings_of [] c.args.adopted) (record_of kept))
    c.args.identity.now in
    ap (λ n. nat_eq n 1)
    (count_from_yields_List c.filter.result c.count.result c.count.ensures.ran
    (YieldsList-from_filter _ has_it
    (YieldsList-at c.filter.ensures.source
    (YieldsList-from_rest (values held) c.values.ensures.rest))
    c.filter.ensures.closure (λ x r q k. search (rules, tests)))
    ∙ length-filter has_it (values held)
    ∙ count_by-map has_it (λ (entry : Entry). entry.1) held.entries)
