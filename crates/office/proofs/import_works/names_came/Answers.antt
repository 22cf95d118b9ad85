use Rattle.std.proofs.Common.{◌∙◌, List, ℕ, ap}
use Rattle.std.specs.Prelude.{Vec}
use Rattle.std.specs.Global.{Global}
use Rattle.book_lists.proofs.CursorLemmas.{folded, map_same}
use Rattle.office.specs.ImportWorks.{names_by}
use Rattle.office.proofs.import_works.names_came.Goals as goal

pub returns : goal.returns
returns g c =
    let entry = c.args.entry in
    folded (λ (names : Vec (List ℕ) Global). names.items) (names_by entry) c.fold.ensures
    (λ names arrivals is. is ∙ ap (names_by entry) (map_same arrivals))
