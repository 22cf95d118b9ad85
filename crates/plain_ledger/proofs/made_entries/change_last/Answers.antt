use Rattle.std.proofs.Common.{ap}
use Rattle.book_model.specs.Words.{Entry, note_shown}
use Rattle.plain_ledger.proofs.MadeLemmas.{changes, none_of, stays}
use Rattle.plain_ledger.proofs.made_entries.change_last.Goals as goal

-- there is none
pub returns-in_default : goal.returns-in_default
returns-in_default c =
    let old = c.args.made.now in
    let new = c.pop.new.self in
    let none = c.in_default.ensures.cases in
    stays c.args.said.now old.items new.items c.requires (none_of old.items old.len old.ok.0 none.0)
    (none_of new.items new.len new.ok.0 none.1)

-- it is about more
pub returns : goal.returns
returns c =
    changes c.args.said.now c.args.made.now.items c.pop.new.self.items c.push.new.self.items
    c.in-Some.last _ c.requires c.in-Some.ensures.items c.in_ok-push.ensures.items
    (ap {B = Entry} (λ act. record { note = note_shown c.in-Some.last.note; act = act })
    c.in_ok-act.ensures)
