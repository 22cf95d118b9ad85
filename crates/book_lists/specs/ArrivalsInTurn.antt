-- The records of a ledger come in turn, by name.
use Rattle.std.proofs.Common.{◌≡◌, ◌∙◌, ℕ, zero, suc, List, [], ◌∷◌, ◌++◌, refl, sym, ap, subst, take}
use Rattle.std.proofs.Common.{drop, take-append-drop, Option, Some, None, Ok, map}
use Rattle.std.specs.Prelude.{slice_get}
use Rattle.std.specs.List.Sorted.{IsStrictlySortedBy}
use Rattle.book_model.specs.declared.entry.Arrival.{Arrival}
use Rattle.book_model.specs.Words.{Book, Naming, arrival_from, arrival_outcome, arrivals, by_bytes}
use Rattle.book_model.proofs.FromLemmas.{behind_all, walk_items}
use Rattle.book_core.proofs.ArrivalLemmas.{arrivals_rise}
use Rattle.book_lists.specs.Cursors.{IsNext, last_of}
use Rattle.book_lists.specs.DisputesInTurn.{slice_dropped}

-- the bytes from which the record after one is the first: a zero byte behind its name
abbrev pub name_behind : Option Arrival → List ℕ
name_behind None = []
name_behind (Some arrival) = arrival.name ++ 0 ∷ []

-- the same after so many records, of which that is the last
abbrev pub name_from : ℕ → Option Arrival → List ℕ
name_from zero last = []
name_from (suc before) last = name_behind last

abbrev its_name : Arrival → List ℕ
its_name arrival = arrival.name

behind_last : (read : List Arrival) → behind_all its_name read ≡ name_behind (last_of read)
behind_last [] = refl
behind_last (arrival ∷ []) = refl
behind_last (arrival ∷ next ∷ more) = behind_last (next ∷ more)

-- the first record from the bytes after so many of them is the next one
walked : (naming : Naming) (book : Book) (n : ℕ) (from : List ℕ)
    → from ≡ behind_all its_name (take n (arrivals naming book))
    → arrival_from from (arrivals naming book) ≡ slice_get (arrivals naming book) n
walked naming book n from is =
    let all = arrivals naming book in
    let parts = take-append-drop n all in
    ap (λ from. arrival_from from all) is
    ∙ ap (arrival_from (behind_all its_name (take n all))) (sym parts)
    ∙ walk_items its_name (take n all) (drop n all)
    (subst (λ some. IsStrictlySortedBy by_bytes (map its_name some)) (sym parts)
    (arrivals_rise naming book))
    ∙ slice_dropped n all

-- so they come in turn
pub arrivals_in_turn : (naming : Naming) (book : Book) (count : ℕ) (last : Option Arrival)
    → IsNext (Ok (arrivals naming book)) count last
    (arrival_outcome naming (name_from count last) book).answer
arrivals_in_turn naming book zero last known = ap Ok (walked naming book 0 [] refl)
arrivals_in_turn naming book (suc before) last known =
    ap Ok (walked naming book (suc before) (name_behind last)
    (ap name_behind (known (arrivals naming book) refl)
    ∙ sym (behind_last (take (suc before) (arrivals naming book)))))
