use Rattle.std.proofs.Common.{drop}
use Rattle.book_core.proofs.ListedLemmas.{LeadsOn}
use Rattle.book_core.proofs.listed_rulings.tariff_at.Given as goal

-- the number leads to what is left of it in the tariffs that are left
abbrev pub invariant-loop-accepted : goal.invariant-loop-accepted
invariant-loop-accepted l =
    LeadsOn l.tariffs (drop l.accepted-index l.tariffs) l.number l.rest
