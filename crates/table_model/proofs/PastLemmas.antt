-- No tariff changes the rows and lines of a closed period.
use Rattle.std.proofs.Common.{◌≡◌, ℕ, List, Option, Some, false}
use Rattle.std.specs.Prelude.{ℤ}
use Rattle.book_model.specs.Words.{is_dated_after, Rulings, with_tariff, last_close, AreAllDatedThrough}
use Rattle.book_model.proofs.CallLemmas.{closed_prices_stay}
use Rattle.book_model.proofs.SamePriceLemmas.{same_rows, same_lines}
use Rattle.table_model.specs.PeriodLaws.{PastStays}
use Rattle.table_model.proofs.HeldPeriods.{one_of}

-- the law
pub past_stays : PastStays
past_stays naming book text terms place period sound done there =
    let last : Option ℤ = last_close book.rulings in
    let ruled : Rulings = with_tariff (Some text) terms book.rulings in
    let prices = λ (bytes : List ℕ) (early : is_dated_after last bytes ≡ false).
    closed_prices_stay book text terms bytes done early in
    let dated = one_of (AreAllDatedThrough last) book.past place period sound.settled there in
    record {
      rows = same_rows ruled book.rulings last prices period.counted dated.counted;
      lines = same_lines ruled book.rulings last prices naming period dated;
    }
