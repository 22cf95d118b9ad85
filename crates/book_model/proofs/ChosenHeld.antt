-- Whatever was chosen before a close was held before it.
use Rattle.std.proofs.Common.{◌≡◌, ℕ, suc, ◌≤◌, ◌<◌, List, [], ◌∷◌, length, refl, sym, ap, ◌∙◌}
use Rattle.std.proofs.Common.{subst, true, false, arith, All, nat_le, leb-true, leb-false}
use Rattle.std.proofs.lemmas.List.Elements.{All-nil}
use Rattle.book_model.specs.Words.{IsMadeByCalls, Book, Event, RulingGiven, rulings, closes}
use Rattle.book_model.specs.Words.{held_before, Records, Naming, Rulings, Choice, RecordChosen}
use Rattle.book_model.specs.Words.{rulings_before, IsChoiceOf, WorkWithheld}
use Rattle.book_model.specs.Laws.{ChosenWereHeld}
use Rattle.book_model.proofs.MadeByCallsLemmas.{sound_after}
use Rattle.book_model.proofs.HistoryLemmas.{choices_all, held_all, held_stays, ruled_stays}
use Rattle.book_model.proofs.StepLemmas.{books_follow_history}

-- it was, before a close to come
to_come : (naming : Naming) (history : List Event) (k : ℕ) → IsMadeByCalls naming history
    → length (closes history) ≤ k
    → All (IsChoiceOf (held_before (suc k) history)) (rulings_before k (rulings history)).choices
to_come naming history k answered after =
    let all : ℕ = length (closes history) in
    let sound = sound_after naming history answered in
    let follows = books_follow_history history in
    let now : All (IsChoiceOf (held_before (suc all) history)) (rulings history).choices =
    subst (λ (book : Book). All (IsChoiceOf book.held) book.rulings.choices) follows sound.chosen in
    let held = held_all (suc all) history (omega arith)
    ∙ sym (held_all (suc k) history (omega arith)) in
    subst (λ (held : Records). All (IsChoiceOf held) (rulings_before k (rulings history)).choices)
    held
    (subst (λ (chosen : List Choice). All (IsChoiceOf (held_before (suc all) history)) chosen)
    (sym (choices_all k history after)) now)

-- an event that comes after a close, or is it, makes no choice before it
same_choices : (k : ℕ) (event : Event) (older : List Event) → k < length (closes (event ∷ older))
    → (rulings_before k (rulings (event ∷ older))).choices
    ≡ (rulings_before k (rulings older)).choices
same_choices k (RulingGiven said (RecordChosen bytes)) older came =
    ap (λ (ruled : Rulings). ruled.choices)
    (ruled_stays k (RulingGiven said (RecordChosen bytes)) older came)
same_choices k (RulingGiven said (WorkWithheld bytes)) older came =
    ap (λ (ruled : Rulings). ruled.choices)
    (ruled_stays k (RulingGiven said (WorkWithheld bytes)) older came)
same_choices k event older came = refl

-- the law of it
pub chosen_were_held : ChosenWereHeld
chosen_were_held naming [] k answered = All-nil (IsChoiceOf (held_before (suc k) []))
chosen_were_held naming (event ∷ older) k answered =
    let earlier = chosen_were_held naming older k answered.1 in
    let all : ℕ = length (closes (event ∷ older)) in
    elim (nat_le all k) as (λ b. nat_le all k ≡ b
    → All (IsChoiceOf (held_before (suc k) (event ∷ older)))
    (rulings_before k (rulings (event ∷ older))).choices) [
      | true ↦ λ after. to_come naming (event ∷ older) k answered (leb-true all k after)
      | false ↦ λ before.
          let came : k < all = leb-false all k before in
          let held = held_stays (suc k) event older (omega arith) in
          subst (λ (held : Records). All (IsChoiceOf held)
          (rulings_before k (rulings (event ∷ older))).choices) (sym held)
          (subst (λ (chosen : List Choice). All (IsChoiceOf (held_before (suc k) older)) chosen)
          (sym (same_choices k event older came)) earlier)
    ] refl
