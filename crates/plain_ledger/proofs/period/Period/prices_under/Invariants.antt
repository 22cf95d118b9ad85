use Rattle.std.proofs.Common.{◌≡◌, ◌++◌, map, All, filter}
use Rattle.book_model.specs.Words.{IsPriced, price_by}
use Rattle.plain_ledger.specs.Plain.{Entry, record_of}
use Rattle.plain_ledger.specs.Treatments.{is_counted, treatment_in}
use Rattle.plain_ledger.proofs.period.Period.prices_under.Given as goal

-- the prices so far, and those of the records that are left, make the whole
abbrev pub invariant-loop-name : goal.invariant-loop-name
invariant-loop-name l = record {
  whole : l.prices.items ++ map (λ (entry : Entry). price_by l.tariff (record_of entry.1))
      (filter (λ entry. is_counted (treatment_in l.self l.posted entry)) l.name-iterator)
      ≡ map (λ entry. price_by l.tariff (record_of entry.1))
      (filter (λ entry. is_counted (treatment_in l.self l.posted entry)) l.held.entries);
  priced : All IsPriced l.prices.items;
}
