use Rattle.std.proofs.Common.{◌∙◌}
use Rattle.book_trees.specs.Schema.{books_schema, tables_with}
use Rattle.book_trees.proofs.schema.books_objects.Goals as goal

pub returns : goal.returns
unfolding books_schema
returns c =
    c.objects_with.ensures
    ∙ (λ i. tables_with (c.record_object.ensures i) (c.choice_object.ensures i))
