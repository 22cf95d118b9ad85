use Rattle.std.proofs.Common.{◌≡◌, flat_map, take}
use Rattle.bill_texts.specs.TermsRows.{tariff_rows}
use Rattle.bill_texts.proofs.terms_rows.price_rows.Given as goal

-- the rows of the tariffs so far are there
abbrev pub invariant-loop-tariff : goal.invariant-loop-tariff
invariant-loop-tariff l = l.rows.items ≡ flat_map tariff_rows (take l.tariff-index l.tariffs)
