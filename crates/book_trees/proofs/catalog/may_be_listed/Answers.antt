use Rattle.std.proofs.Common.{◌||◌, sym, ap, ◌∙◌}
use Rattle.sqlite_store.specs.Catalog.{wanted_of}
use Rattle.book_trees.specs.Listing.{has_no_pages, lists}
use Rattle.book_trees.proofs.ListingLemmas.{any_mapped}
use Rattle.book_trees.proofs.catalog.may_be_listed.Goals as goal

pub returns-then-is_one : goal.returns-then-is_one
returns-then-is_one c =
    let row = c.args.row.now in
    let any = c.is_one_of-is_one.ensures ∙ any_mapped (λ w. lists w row) wanted_of _ in
    c.if-is_one.true
    ∙ ap (λ b. b || has_no_pages row) (sym c.if-is_one.true ∙ any)

pub returns-else-is_one : goal.returns-else-is_one
returns-else-is_one c =
    let row = c.args.row.now in
    let any = c.is_one_of-is_one.ensures ∙ any_mapped (λ w. lists w row) wanted_of _ in
    c.has_no_pages.ensures
    ∙ ap (λ b. b || has_no_pages row) (sym c.if-is_one.false ∙ any)
