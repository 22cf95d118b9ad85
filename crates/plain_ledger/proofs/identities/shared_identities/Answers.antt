use Rattle.std.proofs.Common.{◌∙◌, List, ℕ, [], ap, nat_le}
use Rattle.std.specs.BTreeMap.{values}
use Rattle.std.proofs.lemmas.Result.{IfOk-weaker}
use Rattle.plain_ledger.specs.Plain.{Entry, record_of, rulings_of}
use Rattle.book_model.specs.Words.{identity_by, same_bytes}
use Rattle.plain_ledger.specs.declared.held.HeldRecord.{HeldRecord}
use Rattle.book_model.proofs.ListLemmas.{count_by-map}
use Rattle.plain_ledger.proofs.RepeatLemmas.{times, times-permuted}
use Rattle.plain_ledger.proofs.identities.shared_identities.Goals as goal

pub returns : goal.returns
returns c =
    let held = c.args.held.now in
    let own : HeldRecord → List ℕ = λ kept.
    identity_by (rulings_of [] c.args.adopted) (record_of kept) in
    IfOk-weaker c.repeated.result _ _ (λ shared has identity. has identity ∙ ap (nat_le 2)
    (ap (times identity) c.deref.ensures.value
    ∙ times-permuted identity _ _ c.sort_unstable.ensures.permutation
    ∙ ap (times identity) c.in_ok-identities.ensures
    ∙ count_by-map (λ one. same_bytes one identity) own
    (values held)
    ∙ count_by-map (λ kept. same_bytes (own kept) identity)
    (λ (entry : Entry). entry.1) held.entries))
    c.repeated.ensures
