use Rattle.std.proofs.Common.{◌∙◌, ◌+◌, ◌<◌, ◌≤◌, Ok, Option, Some, ap, arith, length, option_map, sym}
use Rattle.std.proofs.lemmas.Option.{slice_get-get_or, slice_get_past}
use Rattle.book_model.specs.Words.{ActSeen, EntrySeen, entry_seen, note_shown}
use Rattle.plain_ledger.specs.declared.made_entries.MadeEntry.{MadeEntry}
use Rattle.plain_ledger.specs.Journals.{entries_in}
use Rattle.plain_ledger.specs.MadeEntries.{entry_of}
use Rattle.plain_ledger.specs.PlainBook.{book_in, naming_in}
use Rattle.plain_ledger.proofs.MadeLemmas.{made_at}
use Rattle.plain_ledger.proofs.ledger.PlainLedger.entry_listed.Goals as goal

-- there are no more
pub returns-then-number-len-clause-entry : goal.returns-then-number-len-clause-entry
returns-then-number-len-clause-entry g c =
    let ledger = c.args.self.now in
    let made = c.in_ok-made.made in
    let names = g.N.Naming.name_of (naming_in ledger.books) in
    let number = c.args.number in
    let rulings = (book_in ledger.books).rulings in
    let long = made.ok.0 in
    let count = c.len.ensures in
    let past : length made.items ≤ number = omega (arith, count, long, c.if-number-len.true) in
    ap Ok (made_at names rulings (entries_in ledger.journal) made.items number c.in_ok-made.ensures
    ∙ ap (option_map (λ (one : MadeEntry). entry_seen names rulings (number + 1) (entry_of one)))
    (slice_get_past made.items number past))

-- it is that of its place
pub returns-clause-entry : goal.returns-clause-entry
returns-clause-entry g c =
    let ledger = c.args.self.now in
    let made = c.in_ok-made.made in
    let names = g.N.Naming.name_of (naming_in ledger.books) in
    let number = c.args.number in
    let rulings = (book_in ledger.books).rulings in
    let entry = c.swap_remove-entry.result in
    let long = made.ok.0 in
    let count = c.len.ensures in
    let within : number < length made.items = omega (arith, count, long, c.if-number-len.false) in
    ap Ok (made_at names rulings (entries_in ledger.journal) made.items number c.in_ok-made.ensures
    ∙ ap (option_map (λ (one : MadeEntry). entry_seen names rulings (number + 1) (entry_of one)))
    (slice_get-get_or made.items number entry within
    ∙ ap Some (sym c.swap_remove-entry.ensures.value))
    ∙ ap {B = Option EntrySeen} (λ (act : ActSeen). Some (record {
      number = number + 1;
      note = note_shown entry.note;
      act = act;
    })) (sym c.in_ok-act.ensures.shown))
