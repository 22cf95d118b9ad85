-- What calls make of a book: it stays sound, its closes stay in order, and so a history goes on.
use Rattle.std.proofs.Common.{List, [], ◌∷◌, ◌++◌, sym, subst, int_cmp}
use Rattle.std.specs.List.Sorted.{IsStrictlySortedBy}
use Rattle.book_model.specs.Words.{Book, Event, IsAnswered, IsMadeByCalls, IsSound, Naming}
use Rattle.book_model.specs.Words.{PeriodClosed, after_all, book_after, new_book, open_number}
use Rattle.book_model.proofs.Lemmas.{calls_go_forward, event_sound, sound_after}
use Rattle.table_model.proofs.CloseOrder.{rise_behind}
use Rattle.book_laws.proofs.Words.{after_all-append}
use Rattle.book_model.specs.MadeByCalls.{AreMadeOf}

-- a sound book is sound after all that calls make of it
pub sound_later : (naming : Naming) (later : List Event) (book : Book) → IsSound naming book
    → AreMadeOf naming book later → IsSound naming (after_all later book)
sound_later naming [] book sound made = sound
sound_later naming (event ∷ later) book sound made =
    event_sound naming event (after_all later book) made.0
    (sound_later naming later book sound made.1)

-- and closes that are in order stay so
pub rise_later : (naming : Naming) (later : List Event) (book : Book)
    → IsStrictlySortedBy int_cmp book.rulings.closes → AreMadeOf naming book later
    → IsStrictlySortedBy int_cmp (after_all later book).rulings.closes
rise_later naming [] book rising made = rising
rise_later naming (PeriodClosed said day ∷ later) book rising made =
    let between : Book = after_all later book in
    rise_behind between.rulings.closes day (rise_later naming later book rising made.1)
    (calls_go_forward.close between (open_number between) day made.0)
rise_later naming (event ∷ later) book rising made = rise_later naming later book rising made.1

-- new books have no closes
none_rise : IsStrictlySortedBy int_cmp new_book.rulings.closes
unfolding IsStrictlySortedBy
none_rise = tt

module _ (naming : Naming) where
  -- a history that calls made is what they made of new books,
  made_of_new : (history : List Event) → IsMadeByCalls naming history
      → AreMadeOf naming new_book history
  made_of_new [] answered = tt
  made_of_new (event ∷ older) answered = (answered.0, made_of_new older answered.1)

  -- so the days of its closes rise
  pub closes_rise : (history : List Event) → IsMadeByCalls naming history
      → IsStrictlySortedBy int_cmp (book_after history).rulings.closes
  closes_rise history answered =
      rise_later naming history new_book none_rise (made_of_new history answered)

  -- where calls made a history that goes on, they made what came before,
  pub answered_before : (later earlier : List Event) → IsMadeByCalls naming (later ++ earlier)
      → IsMadeByCalls naming earlier
  answered_before [] earlier answered = answered
  answered_before (event ∷ later) earlier answered = answered_before later earlier answered.1

  -- which left a sound book,
  pub sound_before : (later earlier : List Event) → IsMadeByCalls naming (later ++ earlier)
      → IsSound naming (book_after earlier)
  sound_before later earlier answered =
      sound_after naming earlier (answered_before later earlier answered)

  -- and of that book the rest
  pub made_later : (later earlier : List Event) → IsMadeByCalls naming (later ++ earlier)
      → AreMadeOf naming (book_after earlier) later
  made_later [] earlier answered = tt
  made_later (event ∷ later) earlier answered = (
    subst (λ (book : Book). IsAnswered naming event book)
        (after_all-append later earlier new_book) answered.0,
    made_later later earlier answered.1,
  )

-- what is true of the book that the rest made of it is true of the book of the history
pub of_history : (P : Book → Type 0) (later earlier : List Event)
    → P (after_all later (book_after earlier)) → P (book_after (later ++ earlier))
of_history P later earlier holds = subst P (sym (after_all-append later earlier new_book)) holds
