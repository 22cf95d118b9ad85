use Rattle.std.proofs.Common.{◌≡◌, ◌≤◌, ◌∙◌, ap, ap₂, arith, length, length-take-le, subst, sym, take, ℕ}
use Rattle.std.proofs.lemmas.List.{length-map, take-map}
use Rattle.sqlite_store.specs.Catalog.{wanted_of}
use Rattle.book_trees.specs.Schema.{old_schema}
use Rattle.book_trees.proofs.Trees.{few_tables}
use Rattle.book_trees.proofs.schema.old_objects.Goals as goal

-- there are more
pub slice_bounds-result-end : goal.slice_bounds-result-end
slice_bounds-result-end c =
    let many : length c.args.objects.now ≡ 14 =
    sym (length-map c.args.objects.now wanted_of) ∙ ap length c.requires in
    let few : c.table_count-count.result ≤ 11 =
    subst (λ (n : ℕ). n ≤ 11) (sym c.table_count-count.ensures) (few_tables c.args.form) in
    sym (length-take-le c.table_count-count.result c.args.objects.now (omega (arith, many, few)))

-- the first of them
pub returns : goal.returns
unfolding old_schema
returns c =
    sym (take-map wanted_of c.table_count-count.result c.args.objects.now)
    ∙ ap₂ take c.table_count-count.ensures c.requires
