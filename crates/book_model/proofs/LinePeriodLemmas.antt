-- The period that a line speaks of, by the record that it is of.
use Rattle.std.proofs.Common.{◌≡◌, ◌∙◌, ℕ, List, Option, Some, None, ap, refl, sym, true}
use Rattle.std.proofs.Common.{true≢false, if◌then◌else◌, is_some, ok_or, option_and_then, option_map}
use Rattle.book_model.proofs.Std.{result_ok}
use Rattle.book_model.specs.declared.fault.LedgerFault.TheVariants.{NoSuchRecord}
use Rattle.book_model.specs.declared.line.Line.{Line}
use Rattle.book_model.specs.Words.{Book, Naming, Terms, charged_before, day_of, in_force, life_of}
use Rattle.book_model.specs.Words.{period_by_trail, period_of_line, period_on, price_by, price_in}
use Rattle.book_model.specs.Words.{reckoning_by, record_named, trail_by, trail_of}

module _ (naming : Naming) (book : Book) (number : ℕ) (line : Line) (bytes : List ℕ) where
  -- a plus line speaks of the one that the record's day belongs to, a minus line of the last before
  -- this one that charged it
  abbrev pub told : Option ℕ
  told =
      if line.plus then Some (period_on book.rulings.closes (day_of bytes))
      else charged_before number (life_of book bytes)

  by_terms : (terms : Option Terms)
      → is_some (option_map (λ terms. price_by terms bytes) terms) ≡ true
      → option_and_then (period_by_trail number line)
      (result_ok (ok_or
      (option_map (trail_by naming book bytes) (option_map (λ terms. reckoning_by terms bytes) terms))
      NoSuchRecord))
      ≡ told
  by_terms None never = absurd (true≢false (sym never))
  by_terms (Some terms) some = refl

  -- where a record of its name is held, and has a price
  pub line_told : record_named naming book.held line.name ≡ Some bytes
      → is_some (price_in book.rulings bytes) ≡ true → period_of_line naming book number line ≡ told
  line_told named priced =
      ap (λ found. option_and_then (period_by_trail number line)
      (result_ok (ok_or (option_and_then (trail_of naming book) found) NoSuchRecord))) named
      ∙ by_terms (in_force (day_of bytes) book.rulings.tariffs) priced
