-- Each event leaves a book with lines that can be read.
use Rattle.std.proofs.Common.{ℕ, List, [], ◌∷◌, sym, ◌∙◌, subst, true≢false, ℤ}
use Rattle.book_model.proofs.Std.{All-append, All-cons, All-nil}
use Rattle.book_model.specs.Words.{IsFramed, Terms, Book, new_book, flat_book, keep, close, Period}
use Rattle.book_model.specs.Words.{last_close}
use Rattle.book_model.proofs.Lemmas.{one_or, none_in}
use Rattle.table_model.specs.Words.{IsApart, HasLines}
use Rattle.table_model.specs.PeriodLaws.{LinesStay}
use Rattle.table_model.proofs.CloseDays.{posted_by, ended_by}
use Rattle.table_model.proofs.HeldPeriods.{period_apart}

-- new books hold nothing, and have closed no period
start_lines : HasLines new_book
start_lines = record {
  framed = λ bytes there. absurd (true≢false (sym there ∙ none_in bytes));
  apart = All-nil IsApart;
}

-- so it is under a tariff
flat_lines : (terms : Terms) → HasLines (flat_book terms)
flat_lines terms = record {
  framed = λ bytes there. absurd (true≢false (sym there ∙ none_in bytes));
  apart = All-nil IsApart;
}

-- a record that is kept has the descriptor of its data
keep_lines : (book : Book) (bytes : List ℕ) → HasLines book → IsFramed bytes
    → HasLines (keep bytes book)
keep_lines book bytes lines framed = record {
  framed = λ other there.
      one_or book.held bytes other there (λ same. subst IsFramed (sym same) framed)
      (λ held. lines.framed other held);
  apart = lines.apart;
}

-- a period that is closed reverses nothing that it adds
close_lines : (book : Book) (day : ℤ) → HasLines book → HasLines (close day book)
close_lines book day lines =
    let ended : Period = ended_by day book in
    record {
      framed = lines.framed;
      apart =
          All-append IsApart book.past (ended ∷ []) lines.apart
          (All-cons IsApart ended []
          (period_apart (last_close book.rulings) book.posted (posted_by day book))
          (All-nil IsApart));
    }

-- the law
pub lines_stay : LinesStay
lines_stay = record {
  start = start_lines;
  flat = flat_lines;
  keep = keep_lines;
  close = close_lines;
  ruling = λ book ruling lines. record { framed = lines.framed; apart = lines.apart };
}
