use Rattle.std.proofs.Common.{◌≡◌, map, take}
use Rattle.book_model.specs.Words.{AreLines}
use Rattle.book_reports.proofs.BillLineLemmas.{KnowsLines}
use Rattle.book_reports.proofs.Words.{BilledLine, Shows}
use Rattle.book_reports.proofs.bill_lines.centre_lines.Given as goal

-- the lines of the centre can be shown, and of the first of them the periods are known
abbrev pub invariant-loop-line : goal.invariant-loop-line
invariant-loop-line g l =
    let old = g.L.Ledger.seen l.fn.ledger in
    record {
      shown : AreLines l.line-items;
      plain : map (λ (one : BilledLine). one.line) l.billed.items ≡ take l.line-index l.line-items;
      far : Shows old (g.L.Ledger.seen l.ledger)
          (KnowsLines old.naming l.period l.fn.centre l.line-items l.line-index l.billed.items);
    }
