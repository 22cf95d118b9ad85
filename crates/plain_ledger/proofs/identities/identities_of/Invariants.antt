use Rattle.std.proofs.Common.{◌≡◌, ◌++◌, [], map}
use Rattle.std.specs.BTreeMap.{values}
use Rattle.book_model.specs.Words.{identity_by}
use Rattle.plain_ledger.specs.Plain.{record_of, rulings_of}
use Rattle.plain_ledger.proofs.identities.identities_of.Given as goal

-- the identities so far, and those of the records that are left, make the whole
abbrev pub invariant-loop-kept : goal.invariant-loop-kept
invariant-loop-kept l =
    l.identities.items
    ++ map (λ kept. identity_by (rulings_of [] l.adopted) (record_of kept)) l.kept-iterator
    ≡ map (λ kept. identity_by (rulings_of [] l.adopted) (record_of kept)) (values l.held)
