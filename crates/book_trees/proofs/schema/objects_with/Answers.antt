use Rattle.std.proofs.Common.{[], ◌∷◌}
use Rattle.sqlite_store.specs.Catalog.{wanted_of}
use Rattle.book_trees.proofs.schema.objects_with.Goals as goal

-- each is its own
pub returns : goal.returns
returns c = λ i.
    c.book_object.ensures i
    ∷ c.tariff_object.ensures i
    ∷ c.closed_object.ensures i
    ∷ wanted_of c.args.records
    ∷ c.day_sum_object.ensures i
    ∷ c.line_object.ensures i
    ∷ c.identity_object.ensures i
    ∷ c.charged_object.ensures i
    ∷ wanted_of c.args.choices
    ∷ c.choice_name_object.ensures i
    ∷ c.detail_object.ensures i
    ∷ c.credit_object.ensures i
    ∷ c.replaced_object.ensures i
    ∷ c.journal_object.ensures i
    ∷ []
