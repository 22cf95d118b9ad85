-- The disputes of a ledger come in turn.
use Rattle.std.proofs.Common.{◌≡◌, ◌∙◌, ℕ, zero, suc, List, [], ◌∷◌, ◌++◌, refl, sym, ap, subst, take}
use Rattle.std.proofs.Common.{drop, take-append-drop, Option, Some, None, Ok}
use Rattle.std.specs.Prelude.{slice_get}
use Rattle.std.specs.List.Sorted.{IsStrictlySortedBy}
use Rattle.book_model.specs.Words.{Book, Disputed, Naming, by_bytes, dispute_from, dispute_outcome}
use Rattle.book_model.specs.Words.{disputes_in}
use Rattle.book_model.proofs.FromLemmas.{bytes_after, disputes_rise, identities_of, walk_on}
use Rattle.book_lists.specs.Cursors.{IsNext, last_of}

-- the bytes from which the dispute after one is the first: a zero byte behind its identity
abbrev pub bytes_behind : Option Disputed → List ℕ
bytes_behind None = []
bytes_behind (Some dispute) = dispute.identity ++ 0 ∷ []

-- the same after so many disputes, of which that is the last
abbrev pub bytes_from : ℕ → Option Disputed → List ℕ
bytes_from zero last = []
bytes_from (suc before) last = bytes_behind last

-- the disputes of a book
abbrev all_of : Naming → Book → List Disputed
all_of naming book = disputes_in naming book.rulings book.held

behind_last : (disputes : List Disputed) → bytes_after disputes ≡ bytes_behind (last_of disputes)
behind_last [] = refl
behind_last (dispute ∷ []) = refl
behind_last (dispute ∷ next ∷ more) = behind_last (next ∷ more)

-- the first of the rest of a list is the next one
pub slice_dropped : {X : Type 0} (n : ℕ) (xs : List X) → slice_get (drop n xs) 0 ≡ slice_get xs n
slice_dropped zero xs = refl
slice_dropped (suc n) [] = refl
slice_dropped (suc n) (x ∷ xs) = slice_dropped n xs

-- the first dispute from the bytes after so many of them is the next one
walked : (naming : Naming) (book : Book) (n : ℕ) (from : List ℕ)
    → from ≡ bytes_after (take n (all_of naming book))
    → dispute_from from (all_of naming book) ≡ slice_get (all_of naming book) n
walked naming book n from is =
    let all = all_of naming book in
    let parts = take-append-drop n all in
    ap (λ from. dispute_from from all) is
    ∙ ap (dispute_from (bytes_after (take n all))) (sym parts)
    ∙ walk_on (take n all) (drop n all)
    (subst (λ some. IsStrictlySortedBy by_bytes (identities_of some)) (sym parts)
    (disputes_rise naming book.rulings book.held))
    ∙ slice_dropped n all

-- so they come in turn
pub disputes_in_turn : (naming : Naming) (book : Book) (count : ℕ) (last : Option Disputed)
    → IsNext (Ok (all_of naming book)) count last
    (dispute_outcome naming (bytes_from count last) book).answer
disputes_in_turn naming book zero last known = ap Ok (walked naming book 0 [] refl)
disputes_in_turn naming book (suc before) last known =
    ap Ok (walked naming book (suc before) (bytes_behind last)
    (ap bytes_behind (known (all_of naming book) refl)
    ∙ sym (behind_last (take (suc before) (all_of naming book)))))
