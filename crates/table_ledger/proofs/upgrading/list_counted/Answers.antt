use Rattle.std.proofs.Common.{refl}
use Rattle.std.specs.BTreeMap.{get}
use Rattle.book_model.specs.Words.{by_bytes}
use Rattle.tree_rows.proofs.Calls.{schema_both}
use Rattle.table_ledger.proofs.CountedList.{listed_all, listed_on}
use Rattle.table_ledger.proofs.LooksRefused.{look_given_up, look_refused}
use Rattle.table_ledger.proofs.TryLemmas.{looks_known, saw_found, saw_none, saw_so, saw_then}
use Rattle.table_ledger.proofs.upgrading.list_counted.Goals as goal

-- none is left
pub returns-then-not-there-clause-looks : goal.returns-then-not-there-clause-looks
returns-then-not-there-clause-looks g c =
    looks_known (saw_then c.records.invariant.seen
    (saw_found (rw c.if-not-there.true at c.in_ok-there.ensures.looks)))
    (λ tables known. listed_all (λ name. get by_bytes c.args.lines.now name)
    (g.S.Store.view c.records.store) (g.S.Store.view c.next_record_in.new.store)
    c.records.all.items c.by_day.result.items tables c.next_record_in.new.row known.0 known.1
    c.by_day.ensures)

-- the pass goes on
pub records-preserved : goal.records-preserved
records-preserved g c = record {
  passing = c.in_ok-there.ensures.passing;
  seen = saw_so (saw_then c.records.invariant.seen
      (saw_found (rw c.if-not-there.false at c.in_ok-there.ensures.looks)))
      (λ tables known. listed_on (λ name. get by_bytes c.args.lines.now name)
      (g.S.Store.view c.records.store) (g.S.Store.view c.next_record_in.new.store)
      c.records.all.items c.add_counted.new.all.items tables c.next_record_in.new.row known.0
      known.1 c.in_ok-add_counted.ensures);
  schema = schema_both c.records.invariant.schema c.next_record_in.ensures.schema;
}

-- ---- a look that fails leaves all as it was

pub returns-in_err-start_records-clause-looks : goal.returns-in_err-start_records-clause-looks
returns-in_err-start_records-clause-looks g c =
    look_refused _ c.from_residual.ensures.0 saw_none c.in_err-start_records.ensures.looks

pub returns-in_err-there-clause-looks : goal.returns-in_err-there-clause-looks
returns-in_err-there-clause-looks g c =
    look_refused _ c.from_residual-in_err-there.ensures.0 c.records.invariant.seen
    c.in_err-there.ensures.looks

pub returns-in_err-add_counted-clause-looks : goal.returns-in_err-add_counted-clause-looks
returns-in_err-add_counted-clause-looks g c =
    look_given_up _ c.from_residual-in_err-add_counted.ensures.0
    (saw_then c.records.invariant.seen (saw_found c.in_ok-there.ensures.looks))

pub returns-clause-looks : goal.returns-clause-looks
returns-clause-looks g c = look_given_up _ refl c.records.invariant.seen
