-- The tariffs that were replaced, as the list of rulings shows them, one after another.
use Rattle.std.proofs.Common.{◌≡◌, ◌∙◌, ◌+◌, ◌++◌, ◌<◌, ◌≤◌, ℕ, List, [], ◌∷◌, length, get_or, take}
use Rattle.std.proofs.Common.{refl, sym, ap, arith, map, filter_map, option_map, Option, Some, None}
use Rattle.std.proofs.Common.{All, append-nil, length-append, subst}
use Rattle.book_model.proofs.Std.{All-push, cons_option, filter_map-append, map-append, take_more}
use Rattle.book_model.specs.declared.listed_ruling.ListedRuling.{ListedRuling}
use Rattle.book_model.specs.Words.{HasDays, RulingSeen, ShowsDays, all_replaced_seen, replaced_seen}
use Rattle.book_model.specs.Words.{ruling_shown}
use Rattle.plain_ledger.specs.declared.replaced.ReplacedTariff.{ReplacedTariff}
use Rattle.plain_ledger.specs.Plain.{replaced_of}
use Rattle.plain_ledger.specs.Replacements.{listed_if}

-- what is listed of one, by what it shows
shown_alone : (found : Option ListedRuling) (given : Option RulingSeen)
    → option_map ruling_shown found ≡ given → map ruling_shown (listed_if found) ≡ cons_option given []
shown_alone found given is = by_cases found ∙ ap (λ one. cons_option one []) is
  where
    by_cases : (found : Option ListedRuling)
        → map ruling_shown (listed_if found) ≡ cons_option (option_map ruling_shown found) []
    by_cases None = refl
    by_cases (Some ruling) = refl

-- one more of them is listed behind those so far
pub more_listed : (replaced : List ReplacedTariff) (i : ℕ) (one : ReplacedTariff)
    (all : List ListedRuling) (found : Option ListedRuling) → i < length replaced
    → one ≡ get_or replaced i one
    → map ruling_shown all ≡ all_replaced_seen (map replaced_of (take i replaced))
    → option_map ruling_shown found ≡ replaced_seen (replaced_of one)
    → map ruling_shown (all ++ listed_if found)
    ≡ all_replaced_seen (map replaced_of (take (i + 1) replaced))
more_listed replaced i one all found within at before is =
    let last = shown_alone found (replaced_seen (replaced_of one)) is in
    map-append ruling_shown all (listed_if found)
    ∙ (λ k. before k ++ last k)
    ∙ sym (filter_map-append replaced_seen (map replaced_of (take i replaced))
    (replaced_of one ∷ []))
    ∙ ap all_replaced_seen (sym (map-append replaced_of (take i replaced) (one ∷ [])))
    ∙ ap (λ some. all_replaced_seen (map replaced_of some))
    (sym (take_more replaced i one within
    ∙ ap (λ one. take i replaced ++ one ∷ []) (sym at)))

-- there are no more than those so far, and one
pub more_few : (all : List ListedRuling) (found : Option ListedRuling) (i : ℕ) → length all ≤ i
    → length (all ++ listed_if found) ≤ i + 1
more_few all None i few = let more = length-append all [] in omega (arith, more, few)
more_few all (Some ruling) i few =
    let more = length-append all (ruling ∷ []) in omega (arith, more, few)

-- and all have days
pub more_dated : (all : List ListedRuling) (found : Option ListedRuling)
    → All (λ one. HasDays (ruling_shown one)) all → ShowsDays found
    → All (λ one. HasDays (ruling_shown one)) (all ++ listed_if found)
more_dated all None dated shown =
    All-append-nil all dated
  where
    All-append-nil : (all : List ListedRuling) → All (λ one. HasDays (ruling_shown one)) all
        → All (λ one. HasDays (ruling_shown one)) (all ++ [])
    All-append-nil all dated =
        subst (λ (list : List ListedRuling). All (λ one. HasDays (ruling_shown one)) list)
        (sym (append-nil all)) dated
more_dated all (Some ruling) dated shown =
    All-push (λ one. HasDays (ruling_shown one)) all ruling dated shown
