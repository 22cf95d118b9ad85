use Rattle.std.proofs.Common.{◌≡◌, ◌∙◌, ◌++◌, length, take, drop, sym, ap, subst, map, Option, Ok}
use Rattle.std.specs.List.{IsDistinct}
use Rattle.book_model.specs.declared.line.Line.{Line}
use Rattle.book_model.specs.Words.{period_of, AreLines, by_line, lines_of, same_bytes, members}
use Rattle.book_model.specs.Words.{set_of}
use Rattle.plain_ledger.specs.declared.treatment.Treatment.{Treatment}
use Rattle.plain_ledger.specs.Plain.{Entry}
use Rattle.plain_ledger.specs.PlainBook.{book_in, naming_in}
use Rattle.plain_ledger.specs.Treatments.{treatment_in}
use Rattle.plain_ledger.proofs.BookLemmas.{read_of}
use Rattle.plain_ledger.proofs.LineLemmas.{lines_at, names_apart, lines_of-treatments, are_lines}
use Rattle.plain_ledger.proofs.LineLemmas.{written_over}
use Rattle.plain_ledger.proofs.plain.PlainBooks.lines.Given.{Over}
use Rattle.plain_ledger.proofs.plain.PlainBooks.lines.Goals.{After-sort_lines}
use Rattle.plain_ledger.proofs.plain.PlainBooks.lines.Goals as goal

pub sort_lines-requires : goal.sort_lines-requires
sort_lines-requires g c =
    let ledger = c.args.self.now in
    let treatment : Entry → Option Treatment = treatment_in c.in_ok-period.period ledger.posted in
    subst (λ lines. IsDistinct same_bytes (map (λ (line : Line). line.name) lines))
    (sym (c.deref_mut.ensures.value ∙ c.in_ok-lines.ensures))
    (names_apart ledger.kept ledger.rising treatment)

-- so the lines are sorted
sorted : (g : Over) (c : After-sort_lines g)
    → take c.in_ok-lines.lines.len
    (c.sort_lines.new.lines ++ drop (length c.sort_lines.new.lines) c.in_ok-lines.lines.items)
    ≡ members (set_of by_line (lines_at (treatment_in c.in_ok-period.period c.args.self.now.posted)
    c.args.self.now.held.entries))
sorted g c =
    let items = c.in_ok-lines.lines.items in
    written_over c.in_ok-lines.lines.len c.sort_lines.new.lines items
    c.in_ok-lines.lines.ok.0
    (c.sort_lines.ensures.len ∙ ap length c.deref_mut.ensures.value)
    ∙ c.sort_lines.ensures.sorted
    ∙ ap (λ lines. members (set_of by_line lines))
    (c.deref_mut.ensures.value ∙ c.in_ok-lines.ensures)

pub returns-clause-lines : goal.returns-clause-lines
returns-clause-lines g c =
    let ledger = c.args.self.now in
    let names = g.N.Naming.name_of (naming_in ledger) in
    let treatment : Entry → Option Treatment = treatment_in c.in_ok-period.period ledger.posted in
    read_of (lines_of names (book_in ledger).rulings) (period_of (book_in ledger) c.args.number) _
    c.in_ok-period.ensures
    ∙ ap Ok (lines_of-treatments ledger.kept ledger.rising treatment
    ∙ sym (sorted g (goal.at.returns-clause-lines g c).After-sort_lines))

pub returns-clause-shown : goal.returns-clause-shown
returns-clause-shown g c =
    let ledger = c.args.self.now in
    let treatment : Entry → Option Treatment = treatment_in c.in_ok-period.period ledger.posted in
    subst AreLines (sym (sorted g (goal.at.returns-clause-shown g c).After-sort_lines))
    (are_lines ledger.kept ledger.rising treatment)
