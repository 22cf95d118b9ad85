use Rattle.bill_pages.proofs.GroupedLemmas.{AreCounted}
use Rattle.bill_pages.proofs.grouped.whole_length.Given as goal

abbrev pub invariant-loop-before : goal.invariant-loop-before
invariant-loop-before l = AreCounted l.text l.before
