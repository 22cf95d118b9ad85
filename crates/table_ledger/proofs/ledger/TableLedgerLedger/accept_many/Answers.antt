use Rattle.std.proofs.Common.{sym, subst, length, take, Vec, Global, ℕ, All}
use Rattle.std.proofs.lemmas.List.Elements.{All-take}
use Rattle.book_model.specs.Words.{IsUsageRecord}
use Rattle.book_core.specs.Words.{TakesOf, records_in}
use Rattle.book_core.proofs.TransitionLemmas.{work_as}
use Rattle.table_ledger.specs.LedgerState.{ledger_state}
use Rattle.table_ledger.specs.Stages.{TakesFew, most_in_commit}
use Rattle.table_ledger.proofs.GroupCalls.{group_comes, group_reopen, takes_all}
use Rattle.table_ledger.proofs.OneCall.{call_reopen, stays_closed}
use Rattle.table_ledger.proofs.ServedWork.{work_settled}
use Rattle.table_ledger.proofs.ledger.TableLedgerLedger.accept_many.Goals as goal

pub returns-then-self-clause-takes : goal.returns-then-self-clause-takes
returns-then-self-clause-takes g c =
    group_reopen (ledger_state g.N.Naming.name_of c.args.self.now)
    (g.N.Naming.name_of c.args.self.now.naming) c.args.import.now (length c.args.records.now)
    (records_in c.args.records.now) c.if-self.true

pub returns-then-self-clause-reopens : goal.returns-then-self-clause-reopens
returns-then-self-clause-reopens g c = stays_closed c.if-self.true

pub returns-then-self-clause-few : goal.returns-then-self-clause-few
returns-then-self-clause-few g c =
    group_reopen (ledger_state g.N.Naming.name_of c.args.self.now)
    (g.N.Naming.name_of c.args.self.now.naming) c.args.import.now (length c.args.records.now)
    (records_in (take most_in_commit c.args.records.now)) c.if-self.true

pub try_accept_many-tried-requires-clause-usage : goal.try_accept_many-tried-requires-clause-usage
try_accept_many-tried-requires-clause-usage g c =
    subst (λ records. All (λ (one : Vec ℕ Global). IsUsageRecord one.items) records)
    (sym c.first_records-first.ensures.first)
    (All-take (λ (one : Vec ℕ Global). IsUsageRecord one.items) most_in_commit c.args.records.now
    c.requires.usage)

pub returns-clause-takes : goal.returns-clause-takes
returns-clause-takes g c =
    let names = g.N.Naming.name_of c.args.self.now.naming in
    let import = c.args.import.now in
    let records = c.args.records.now in
    let part = c.first_records-first.result.now in
    let result = c.finish.result in
    work_as _ _ (TakesFew names import (length records) (records_in part) result)
    (TakesOf names import (records_in records) result)
    (takes_all names import records most_in_commit part c.first_records-first.ensures.first
    (c.first_records-first.ensures.some c.requires.some) result)
    (work_settled (group_comes names import (length records) (records_in part)) g.S.Store
    c.args.self.now.tables.store c.if-self.false g.met.S.Store.settled c.finish.ensures.settles
    c.try_accept_many-tried.ensures.tries).0

pub returns-clause-reopens : goal.returns-clause-reopens
returns-clause-reopens g c =
    let names = g.N.Naming.name_of c.args.self.now.naming in
    let part = c.first_records-first.result.now in
    (work_settled
    (group_comes names c.args.import.now (length c.args.records.now) (records_in part)) g.S.Store
    c.args.self.now.tables.store c.if-self.false g.met.S.Store.settled c.finish.ensures.settles
    c.try_accept_many-tried.ensures.tries).1

pub returns-clause-few : goal.returns-clause-few
returns-clause-few g c =
    let names = g.N.Naming.name_of c.args.self.now.naming in
    let import = c.args.import.now in
    let count = length c.args.records.now in
    let part = c.first_records-first.result.now in
    let result = c.finish.result in
    work_as _ _ (TakesFew names import count (records_in part) result)
    (TakesFew names import count (records_in (take most_in_commit c.args.records.now)) result)
    (λ was before events is takes.
    subst (λ part. TakesFew names import count (records_in part) result was before events is)
    c.first_records-first.ensures.first takes)
    (work_settled (group_comes names import count (records_in part)) g.S.Store
    c.args.self.now.tables.store c.if-self.false g.met.S.Store.settled c.finish.ensures.settles
    c.try_accept_many-tried.ensures.tries).0
