-- Names in their order, joined one by one or period by period.
use Rattle.std.proofs.Common.{◌≡◌, ◌∙◌, ℕ, List, [], ◌∷◌, ◌++◌, ap, append-nil, append_assoc, sym}
use Rattle.std.specs.BTreeSet.{insert_key}
use Rattle.std.specs.List.{flat_map, fold}
use Rattle.book_model.proofs.SetLemmas.{members-empty}
use Rattle.book_model.specs.Words.{by_bytes, members, set_of}
use Rattle.page_texts.specs.Figures.{FiguresSeen}
use Rattle.page_texts.specs.OfficePage.{all_centres, centres_in, with_centres}
use Rattle.report_texts.proofs.ChargeLemmas.{one_more}

-- some names join others
names_joined : (names more : List (List ℕ))
    → fold (insert_key by_bytes) (members (set_of by_bytes names)) more
    ≡ members (set_of by_bytes (names ++ more))
names_joined names [] = ap (λ all. members (set_of by_bytes all)) (sym (append-nil names))
names_joined names (name ∷ more) =
    ap (λ keys. fold (insert_key by_bytes) keys more) (sym (one_more names name))
    ∙ names_joined (names ++ name ∷ []) more
    ∙ ap (λ all. members (set_of by_bytes all)) (append_assoc names (name ∷ []) more)

-- the centres of periods join others
periods_joined : (names : List (List ℕ)) (periods : List FiguresSeen)
    → fold with_centres (members (set_of by_bytes names)) periods
    ≡ members (set_of by_bytes (names ++ flat_map centres_in periods))
periods_joined names [] = ap (λ all. members (set_of by_bytes all)) (sym (append-nil names))
periods_joined names (figures ∷ periods) =
    ap (λ keys. fold with_centres keys periods) (names_joined names (centres_in figures))
    ∙ periods_joined (names ++ centres_in figures) periods
    ∙ ap (λ all. members (set_of by_bytes all))
    (append_assoc names (centres_in figures) (flat_map centres_in periods))

-- joined from none on, they are all centres
pub centres_joined : (periods : List FiguresSeen)
    → fold with_centres [] periods ≡ all_centres periods
centres_joined periods =
    ap (λ keys. fold with_centres keys periods) (sym (members-empty by_bytes))
    ∙ periods_joined [] periods
