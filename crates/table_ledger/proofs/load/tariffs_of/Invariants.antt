use Rattle.std.proofs.Common.{◌≡◌, take, true}
use Rattle.std.specs.List.{AllZip}
use Rattle.book_model.specs.Words.{are_rising}
use Rattle.table_ledger.specs.Loaded.{SaysTariff}
use Rattle.table_ledger.proofs.load.tariffs_of.Given as goal

-- the tariffs so far are those that the rows give, and they rise
abbrev pub invariant-loop-row : goal.invariant-loop-row
invariant-loop-row l = record {
  say : AllZip SaysTariff (take l.row-index l.rows) l.tariffs.items;
  rising : are_rising l.tariffs.items ≡ true;
}
