use Rattle.std.proofs.Common.{◌∙◌}
use Rattle.book_trees.specs.Schema.{tables_with}
use Rattle.book_trees.proofs.schema.with_old_columns.Goals as goal

pub returns : goal.returns
returns c =
    c.objects_with.ensures
    ∙ (λ i. tables_with (c.old_record_object.ensures i) (c.old_choice_object.ensures i))
