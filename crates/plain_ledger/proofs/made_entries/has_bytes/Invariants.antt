use Rattle.std.proofs.Common.{Vec, Global, ℕ}
use Rattle.book_model.specs.Words.{same_bytes}
use Rattle.tariff_rules.proofs.SearchLemmas.{AreFailed}
use Rattle.plain_ledger.proofs.made_entries.has_bytes.Given as goal

-- none so far has them
abbrev pub invariant-loop-one : goal.invariant-loop-one
invariant-loop-one l =
    AreFailed (λ (one : Vec ℕ Global). same_bytes one.items l.bytes) l.kept l.one-index
