use Rattle.std.proofs.Common.{length}
use Rattle.book_model.specs.Words.{note_given}
use Rattle.book_core.specs.Words.{TakesWorks}
use Rattle.book_core.proofs.TransitionLemmas.{work_as}
use Rattle.book_core.proofs.WithholdingLemmas.{works_part}
use Rattle.table_ledger.specs.LedgerState.{ledger_state}
use Rattle.table_ledger.specs.Stages.{most_in_commit}
use Rattle.table_ledger.proofs.ServedWork.{work_settled}
use Rattle.table_ledger.proofs.WithheldStages.{few_taken, works_come, works_reopen}
use Rattle.table_ledger.proofs.ledger.TableLedgerLedger.withhold_many.Goals as goal

pub returns-then-self-clause-takes : goal.returns-then-self-clause-takes
returns-then-self-clause-takes g c =
    works_reopen (ledger_state g.N.Naming.name_of c.args.self.now)
    (g.N.Naming.name_of c.args.self.now.naming) (note_given c.args.note.now) c.args.names.now
    c.if-self.true

pub try_withhold_many-tried-requires-clause-some : goal.try_withhold_many-tried-requires-clause-some
try_withhold_many-tried-requires-clause-some g c = c.first_names-first.ensures.some c.requires

pub returns-clause-takes : goal.returns-clause-takes
returns-clause-takes g c =
    let names = g.N.Naming.name_of c.args.self.now.naming in
    let noted = note_given c.args.note.now in
    let part = c.first_names-first.result.now in
    let result = c.finish.result in
    work_as _ _ (TakesWorks names noted part result)
    (TakesWorks names noted c.args.names.now result)
    (works_part names noted c.args.names.now most_in_commit part result
    c.first_names-first.ensures.first
    (c.first_names-first.ensures.some c.requires))
    (work_settled (works_come names noted part) g.S.Store c.args.self.now.tables.store
    c.if-self.false g.met.S.Store.settled c.finish.ensures.settles
    (c.try_withhold_many-tried.ensures.tries names)).0

pub returns-clause-few : goal.returns-clause-few
returns-clause-few g c =
    few_taken c.try_withhold_many-tried.result c.finish.result _ _ _ _
    (length c.first_names-first.result.now) (length c.args.names.now)
    c.finish.ensures.settles.ends c.first_names-first.ensures.within
    c.try_withhold_many-tried.ensures.few
