use Rattle.std.proofs.Common.{[], ◌∷◌, codes}
use Rattle.command_line.proofs.Shared.{first_of, rows_in}
use Rattle.command_line.proofs.ReaderLemmas.{not_given}
use Rattle.command_line.proofs.given_words.kind_in.Goals as goal

pub returns-in_default-clause-some : goal.returns-in_default-clause-some
returns-in_default-clause-some c =
    λ has. absurd (not_given (codes "frame" ∷ codes "ledger" ∷ codes "tariff" ∷ codes "damaged"
    ∷ codes "io" ∷ codes "busy" ∷ codes "exists" ∷ codes "word" ∷ codes "unsound" ∷ codes "log"
    ∷ codes "layout" ∷ codes "far" ∷ codes "torn" ∷ []) (first_of (codes "kind") (rows_in c.args.found.now)) _
    c.in_ok-text_in.ensures.text (assumption c.in_default) has)
