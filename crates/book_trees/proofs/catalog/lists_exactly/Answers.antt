use Rattle.std.proofs.Common.{ap₂, ◌&&◌, ◌∙◌}
use Rattle.std.specs.List.{list_any}
use Rattle.sqlite_store.specs.Catalog.{wanted_of}
use Rattle.book_trees.specs.Listing.{lists}
use Rattle.book_trees.proofs.ListingLemmas.{all_mapped}
use Rattle.book_trees.proofs.catalog.lists_exactly.Goals as goal

pub returns : goal.returns
returns c =
    let rows = c.args.rows.now in
    ap₂ (λ a b. a && b)
    (c.are_listed-all.ensures ∙ all_mapped (λ wanted. list_any (lists wanted) rows) wanted_of _)
    c.may_all_be_listed-only.ensures
