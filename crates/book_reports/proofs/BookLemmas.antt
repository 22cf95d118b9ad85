-- The statement of books that were never closed.
use Rattle.std.proofs.Common.{◌≡◌, List, [], refl, sym, subst, Ok, ℤ}
use Rattle.book_model.specs.Words.{Book, charges_outcome}
use Rattle.report_texts.specs.Statements.{statement_text}
use Rattle.book_reports.specs.BookTexts.{open_statement, shown_by, closed_through}

-- the statement of their period 1 is the open one's
pub first_statement : (book : Book) → book.rulings.closes ≡ []
    → shown_by (statement_text 1 (closed_through book 1)) (charges_outcome 1 book).answer
    ≡ Ok (open_statement book)
first_statement book never =
    let closed_by : List ℤ → Book = λ days.
    record book { rulings = record book.rulings { closes = days } } in
    subst (λ days.
    let book = closed_by days in
    shown_by (statement_text 1 (closed_through book 1)) (charges_outcome 1 book).answer
    ≡ Ok (open_statement book))
    (sym never) refl
