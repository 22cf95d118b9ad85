-- All periods of a book, including the open one: the records in them are held, and none reverses
-- what it adds.
use Rattle.std.proofs.Common.{◌≡◌, ℕ, List, [], ◌∷◌, sym, ◌∙◌, subst, true≢false, not, Option, Some}
use Rattle.std.proofs.Common.{ℤ, All, slice_get}
use Rattle.book_model.proofs.Std.{false_from_ne_true, All-append, All-cons, All-nil}
use Rattle.book_model.proofs.Std.{get_or_from_slice_get, slice_get_within}
use Rattle.book_model.specs.Words.{Book, open_period, all_periods, charged_of, is_dated_after}
use Rattle.book_model.specs.Words.{is_undisputed, Period, period_by, Records, Naming, last_close}
use Rattle.book_model.specs.Words.{has, without, IsSound, AreHeld}
use Rattle.book_model.proofs.Lemmas.{in_those, passes_those, not_true}
use Rattle.book_model.proofs.SoundLemmas.{period_held}
use Rattle.table_model.specs.Words.{IsApart, HasLines}

-- what is true of each element is true of one
pub one_of : {X : Type 0} (P : X → Type 0) (xs : List X) (k : ℕ) (x : X) → All P xs
    → slice_get xs k ≡ Some x → P x
one_of P xs k x all there =
    let within = slice_get_within xs k x there in
    subst P (get_or_from_slice_get xs k x x there) (all k x within)

-- the records of the open period are held
open_held : (naming : Naming) (book : Book) → IsSound naming book
    → AreHeld book.held (open_period book)
open_held naming book sound =
    period_held book.held (last_close book.rulings) book.posted (charged_of book) sound.posted
    (λ bytes there. in_those (is_undisputed book.rulings book.held) book.held bytes there)

-- so are those of all periods
pub all_held : (naming : Naming) (book : Book) → IsSound naming book
    → All (AreHeld book.held) (all_periods book)
all_held naming book sound =
    let Held : Period → Type 0 = AreHeld book.held in
    let last : Period = open_period book in
    All-append Held book.past (last ∷ []) sound.past
    (All-cons Held last [] (open_held naming book sound) (All-nil Held))

-- a period made of what was charged and what is charged reverses nothing that it adds
pub period_apart : (last : Option ℤ) (before charged : Records)
    → IsApart (period_by last before charged)
period_apart last before charged bytes added =
    false_from_ne_true (has (without before charged) bytes) (λ taken.
    let now = in_those (λ k. not (has before k)) charged bytes
    (in_those (λ k. not (is_dated_after last k)) (without charged before) bytes added) in
    let gone = not_true (has charged bytes)
    (passes_those (λ k. not (has charged k)) before bytes taken) in
    true≢false (sym now ∙ gone))

-- so neither does a period of a book if its closed periods do not
pub all_apart : (book : Book) → HasLines book → All IsApart (all_periods book)
all_apart book lines =
    let last : Period = open_period book in
    All-append IsApart book.past (last ∷ []) lines.apart
    (All-cons IsApart last []
    (period_apart (last_close book.rulings) book.posted (charged_of book)) (All-nil IsApart))
