use Rattle.std.proofs.Common.{◌≡◌, ℤ, ℕ, List, Some, Ok, Err, Result, IfOk, string_bytes, subst, sym}
use Rattle.std.proofs.lemmas.Str.{IsUtf8-string_bytes}
use Rattle.std.specs.Str.{IsUtf8}
use Rattle.sqlite_value.specs.Order.{Row}
use Rattle.book_model.specs.Words.{IsDay, Terms, terms_in}
use Rattle.tree_tables.specs.Columns.{tariff_columns}
use Rattle.book_audit.specs.Rulings.{IsTariffIn}
use Rattle.book_audit.specs.declared.stop.Stop.{Stop}
use Rattle.book_audit.proofs.rulings.read_tariff.Goals as goal

-- a text that says the terms of a tariff with the row's day
tariff_told : (row : Row) (day : ℤ) (text : List ℕ) (result : Result Terms Stop)
    → row ≡ tariff_columns (day, Some text) → IsUtf8 text
    → IfOk result (λ terms. terms_in text ≡ Ok terms) → IfOk result (λ terms. terms.effective ≡ day)
    → IfOk result (λ terms. IsDay terms.effective) → IfOk result (IsTariffIn row)
tariff_told row day text (Err stop) is characters said same valid = tt
tariff_told row day text (Ok terms) is characters said same valid = record {
  text = text;
  is = subst (λ (d : ℤ). row ≡ tariff_columns (d, Some text)) (sym same) is;
  characters = characters;
  said = said;
  day = valid;
}

pub returns-in-Ok : goal.returns-in-Ok
returns-in-Ok c =
    let stored = c.in-Ok.stored in
    tariff_told c.args.row.now stored.day (string_bytes stored.body) c.parsed.result
    c.in-Ok.ensures.read (IsUtf8-string_bytes stored.body) c.parsed.ensures.says c.parsed.ensures.day
    c.parsed.ensures.valid
