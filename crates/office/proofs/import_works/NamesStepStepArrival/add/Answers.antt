use Rattle.std.proofs.Common.{◌∙◌, ◌++◌, List, ℕ, ap, sym}
use Rattle.office.specs.ImportWorks.{name_if}
use Rattle.office.proofs.ImportWorkLemmas.{names_more, with_more}
use Rattle.office.proofs.import_works.NamesStepStepArrival.add.Goals as goal

-- with one more record
pub returns-clause-added : goal.returns-clause-added
returns-clause-added c arrivals is =
    let entry = c.args.self.now.entry in
    let arrival = c.args.arrival.now in
    c.in_ok-push_if.ensures ∙ with_more c.args.names.now.items entry arrival
    ∙ ap (λ (names : List (List ℕ)). names ++ name_if entry arrival) is
    ∙ sym (names_more entry arrivals arrival)
