use Rattle.std.proofs.Common.{◌∙◌, ◌++◌, ◌∷◌, [], ap, ℕ, List, Vec, Global}
use Rattle.book_core.specs.Words.{records_in}
use Rattle.table_ledger.proofs.accept.alone.Goals as goal

pub returns : goal.returns
returns c =
    let own = c.in_ok-own.own in
    ap records_in (c.in_ok-push.ensures.items
    ∙ ap (λ (before : List (Vec ℕ Global)). before ++ own ∷ []) c.in_ok-records.ensures.items)
    ∙ ap (λ (bytes : List ℕ). bytes ∷ []) c.in_ok-own.ensures.items
