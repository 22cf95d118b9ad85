use Rattle.std.proofs.Common.{◌∙◌, sym, Ok, Err}
use Rattle.book_import.specs.EntryWork.{note_of}
use Rattle.book_import.proofs.EndLemmas.{ends_plain, ends_refused, is_ended, stays_so}
use Rattle.book_import.proofs.ending.end_import.Goals as goal

pub returns-then-not-is_to_end-clause-ends : goal.returns-then-not-is_to_end-clause-ends
returns-then-not-is_to_end-clause-ends g c =
    stays_so (g.L.Ledger.seen c.args.ledger.now) c.args.entry.now c.args.receipt c.args.stop
    c.stopped_by.result (sym c.is_to_end.ensures ∙ c.if-not-is_to_end.true) c.stopped_by.ensures

pub returns-then-not-is_to_end-clause-told : goal.returns-then-not-is_to_end-clause-told
returns-then-not-is_to_end-clause-told g c =
    ends_plain (note_of c.args.entry.now) _ c.stopped_by.result c.stopped_by.ensures

pub returns-in-Ok-clause-ends : goal.returns-in-Ok-clause-ends
returns-in-Ok-clause-ends g c =
    is_ended (g.L.Ledger.seen c.args.ledger.now) (g.L.Ledger.seen c.end_import.new.self)
    c.args.entry.now c.args.receipt c.args.stop c.stopped_by-in-Ok.result (Ok tt)
    (sym c.is_to_end.ensures ∙ c.if-not-is_to_end.false) c.stopped_by-in-Ok.ensures
    c.in-Ok.ensures.work

pub returns-in-Ok-clause-told : goal.returns-in-Ok-clause-told
returns-in-Ok-clause-told g c =
    ends_plain (note_of c.args.entry.now) _ c.stopped_by-in-Ok.result c.stopped_by-in-Ok.ensures

pub returns-in-Err-clause-ends : goal.returns-in-Err-clause-ends
returns-in-Err-clause-ends g c =
    is_ended (g.L.Ledger.seen c.args.ledger.now) (g.L.Ledger.seen c.end_import.new.self)
    c.args.entry.now c.args.receipt c.args.stop c.stopped_by-in-Err.result (Err c.in-Err.fault)
    (sym c.is_to_end.ensures ∙ c.if-not-is_to_end.false) c.stopped_by-in-Err.ensures
    c.in-Err.ensures.work

pub returns-in-Err-clause-told : goal.returns-in-Err-clause-told
returns-in-Err-clause-told g c =
    ends_refused c.args.entry.now c.args.stop _ c.stopped_by-in-Err.result c.in-Err.fault
    (sym c.is_to_end.ensures ∙ c.if-not-is_to_end.false) c.stopped_by-in-Err.ensures
