-- The rulings of an office: the day of the last close, one tariff more, and what is asked for.
use Rattle.std.proofs.Common.{◌≡◌, ◌∙◌, ◌-◌, List, [], ◌∷◌, ◌++◌, length, refl, sym, ap, arith}
use Rattle.std.proofs.Common.{None, slice_get, true, ◌≢◌, ℕ, Bool, false, Option, Some, Ok, Err}
use Rattle.std.proofs.Common.{Result, if◌then◌else◌, option_map, ◌<◌, slice_index_or, slice_set}
use Rattle.std.proofs.Common.{take, take_all, filter, ℤ}
use Rattle.std.proofs.lemmas.List.{get_or_push, length-set, length_push, set-append_left}
use Rattle.std.proofs.lemmas.List.{take-append-le}
use Rattle.std.specs.List.{swap_remove}
use Rattle.std.specs.Ordering.{int_eq}
use Rattle.book_model.proofs.Std.{last_or, option_map_or, result_ok}
use Rattle.book_model.specs.declared.answer.Ruled.TheVariants.{Done}
use Rattle.book_model.specs.declared.fault.LedgerFault.TheVariants.{Full}
use Rattle.book_model.specs.Words.{AcceptedTerms, are_rising, is_later, Note, Terms, Event}
use Rattle.book_model.specs.Words.{RulingGiven, TariffAccepted, TariffReplaced, RecordChosen}
use Rattle.book_model.specs.Words.{TariffFault, WorkWithheld, has_begun, is_effective, is_under}
use Rattle.book_model.specs.Words.{latest}
use Rattle.book_model.proofs.Lemmas.{begun-last, later-before, rising-behind}
use Rattle.book_model.proofs.ListLemmas.{last_or-is}
use Rattle.book_core.specs.declared.rulings.Rulings.{Rulings}
use Rattle.book_core.specs.Words.{is_last_begun, ruled_in}
use Rattle.book_model.proofs.TestLemmas.{by_tests}

-- what is found at the end of a list is its last
pub last_found : {X : Type 0} (xs : List X) → slice_get xs (length xs - 1) ≡ last_or None xs
last_found [] = refl
last_found (x ∷ xs) = ap (slice_get (x ∷ xs)) (omega arith) ∙ sym (last_or-is x xs)

-- the last of some elements comes into the place of one of the others
pub last_into : {X : Type 0} (xs : List X) (x d : X) (i : ℕ) → i < length xs
    → swap_remove (xs ++ x ∷ []) i d ≡ slice_set xs i x
last_into xs x d i within =
    let last : length (xs ++ x ∷ []) - 1 ≡ length xs = omega (arith, length_push xs x) in
    let whole : length xs ≡ length (slice_set xs i x) = sym (length-set xs i x) in
    (λ k. take (last k) (slice_set (xs ++ x ∷ []) i (slice_index_or (xs ++ x ∷ []) (last k) d)))
    ∙ ap (λ end. take (length xs) (slice_set (xs ++ x ∷ []) i end))
    (get_or_push xs x d (length xs) refl)
    ∙ ap (take (length xs)) (set-append_left xs (x ∷ []) i x within)
    ∙ take-append-le (length xs) (slice_set xs i x) (x ∷ []) (omega (arith, whole))
    ∙ take_all (length xs) (slice_set xs i x) (omega (arith, whole))

-- the tariffs are in order with one more that is later than all that was ruled
pub rising_with : (rulings : Rulings) (accepted : AcceptedTerms)
    → is_later accepted.terms.effective (ruled_in rulings) ≡ true
    → are_rising (rulings.tariffs.items ++ accepted ∷ []) ≡ true
rising_with rulings accepted later =
    rising-behind rulings.tariffs.items accepted rulings.rising
    (later-before accepted.terms.effective (ruled_in rulings) later)

-- of tariffs that rise the last that has begun is the one in force
pub last_is_under : (tariffs : List AcceptedTerms) (terms : Terms) (day : ℤ) → are_rising tariffs ≡ true
    → is_last_begun tariffs terms day ≡ is_under tariffs terms day
last_is_under tariffs terms day rising =
    ap (λ found. option_map_or (is_effective terms.effective) found false)
    (sym (begun-last tariffs day rising))
    ∙ by_found (latest (filter (has_begun day) tariffs))
  where
    by_found : (found : Option AcceptedTerms)
        → option_map_or (is_effective terms.effective) found false
        ≡ option_map_or (λ (own : Terms). int_eq terms.effective own.effective)
        (option_map (λ (tariff : AcceptedTerms). tariff.terms) found) false
    by_found None = refl
    by_found (Some tariff) = refl

-- an answer that is not Done depends on no cost
pub other_by : (told there later much : Bool) → by_tests told there later false ≢ Ok Done
    → by_tests told there later much ≡ by_tests told there later false
other_by true there later much other = refl
other_by false true later much other = refl
other_by false false false much other = refl
other_by false false true much other = absurd (other refl)

-- if all is Done but for the cost, the cost decides,
pub done_by : (told there later much : Bool) → by_tests told there later false ≡ Ok Done
    → by_tests told there later much ≡ (if much then Err Full else Ok Done)
done_by true there later much done = cc
done_by false true later much done = cc
done_by false false false much done = cc
done_by false false true much done = refl

-- the tariff that a text says, if it says one
abbrev pub said_by : Option Note → List ℕ → Result Terms TariffFault → Option Event
said_by noted text said =
    option_map (λ terms. RulingGiven noted (TariffAccepted (Some text) terms)) (result_ok said)

-- the choice of the record that is meant, if there is one
abbrev pub meant_by : Option Note → Option (List ℕ) → Option Event
meant_by noted meant = option_map (λ bytes. RulingGiven noted (RecordChosen bytes)) meant

-- the tariff that a text says in the place of another, if it says one
abbrev pub replaced_by : Option Note → List ℕ → Result Terms TariffFault → Option Event
replaced_by noted text said =
    option_map (λ terms. RulingGiven noted (TariffReplaced text terms)) (result_ok said)

-- the choice of none of the work of the record that is meant, if there is one
abbrev pub withheld_by : Option Note → Option (List ℕ) → Option Event
withheld_by noted meant = option_map (λ bytes. RulingGiven noted (WorkWithheld bytes)) meant
