-- Histories that calls made.
use Rattle.std.proofs.Common.{◌≡◌, List, [], ◌∷◌, refl, sym, ap, ◌∙◌, subst, true, Some, None, ℤ}
use Rattle.std.proofs.Common.{int_lt, option_map}
use Rattle.std.specs.List.{list_all}
use Rattle.book_model.specs.Words.{IsMadeByCalls, Book, open_number, Event, RecordKept}
use Rattle.book_model.specs.Words.{PeriodClosed, RulingGiven, give, rulings, book_after, Naming}
use Rattle.book_model.specs.Words.{name_of, Rulings, AcceptedTerms, are_rising, with_tariff}
use Rattle.book_model.specs.Words.{with_close, TariffAccepted, RecordChosen, SecondRuleAdopted}
use Rattle.book_model.specs.Words.{with_ruling, IsSound, CreditGiven, TariffReplaced, WorkWithheld}
use Rattle.book_model.specs.Words.{Entry, ImportBegun, ImportEnded, ImportRead, IsAnswered, after}
use Rattle.book_model.specs.Words.{changed_by, entries_after}
use Rattle.book_model.specs.Laws.{LatestIsLast}
use Rattle.book_model.proofs.TestLemmas.{tariff_passes}
use Rattle.book_model.proofs.LatestLemmas.{rising-behind, begun-last, later-before}
use Rattle.book_model.proofs.ReplacedLemmas.{replaced_rising}
use Rattle.book_model.proofs.SoundLemmas.{steps_stay_sound}

-- the rulings of the book are those of the history
pub rulings_are : (history : List Event) → (book_after history).rulings ≡ rulings history
rulings_are [] = refl
rulings_are (RecordKept bytes ∷ older) = rulings_are older
rulings_are (PeriodClosed said day ∷ older) = ap (with_close day) (rulings_are older)
rulings_are (RulingGiven said ruling ∷ older) = ap (with_ruling ruling) (rulings_are older)
rulings_are (ImportBegun note ∷ older) = rulings_are older
rulings_are (ImportRead reading ∷ older) = rulings_are older
rulings_are (ImportEnded ending ∷ older) = rulings_are older

-- a sound book is sound whatever its journal
pub sound_still : (naming : Naming) (book : Book) (journal : List Entry) → IsSound naming book
    → IsSound naming (record book { journal = journal })
sound_still naming book journal sound = record {
  named = sound.named;
  priced = sound.priced;
  posted = sound.posted;
  dated = sound.dated;
  closed = sound.closed;
  past = sound.past;
  settled = sound.settled;
  chosen = sound.chosen;
}

-- an event that was answered so leaves a sound book, but for the journal
sound_changed : (naming : Naming) (event : Event) (book : Book) → IsSound naming book
    → IsAnswered naming event book → IsSound naming (changed_by event book)
sound_changed naming (RecordKept bytes) book sound answered =
    steps_stay_sound.keep naming book bytes sound answered
sound_changed naming (PeriodClosed said day) book sound answered =
    steps_stay_sound.close naming book (open_number book) day sound answered
sound_changed naming (RulingGiven said (TariffAccepted (Some text) terms)) book sound answered =
    steps_stay_sound.tariff naming book text terms sound answered
sound_changed naming (RulingGiven said (TariffAccepted None terms)) book sound answered =
    subst (λ before. IsSound naming (give (TariffAccepted None terms) before)) (sym answered)
    (steps_stay_sound.flat naming terms)
sound_changed naming (RulingGiven said (RecordChosen bytes)) book sound answered =
    steps_stay_sound.choose naming book (name_of naming bytes) bytes sound answered.1
sound_changed naming (RulingGiven said SecondRuleAdopted) book sound answered =
    steps_stay_sound.adopt naming book sound
sound_changed naming (RulingGiven said (TariffReplaced text terms)) book sound answered =
    steps_stay_sound.replace naming book text terms sound
sound_changed naming (RulingGiven said (WorkWithheld bytes)) book sound answered =
    steps_stay_sound.withhold naming book (name_of naming bytes) bytes sound answered.1
sound_changed naming (RulingGiven said (CreditGiven centre amount reason)) book sound answered =
    steps_stay_sound.credit naming book centre amount reason sound
sound_changed naming (ImportBegun note) book sound answered = sound
sound_changed naming (ImportRead reading) book sound answered = sound
sound_changed naming (ImportEnded ending) book sound answered = sound

-- so it leaves a sound book
pub event_sound : (naming : Naming) (event : Event) (book : Book) → IsAnswered naming event book
    → IsSound naming book → IsSound naming (after event book)
event_sound naming event book answered sound =
    sound_still naming (changed_by event book) (entries_after event book.rulings book.journal)
    (sound_changed naming event book sound answered)

-- the book is sound after each event that was answered so
pub sound_after : (naming : Naming) (history : List Event) → IsMadeByCalls naming history
    → IsSound naming (book_after history)
sound_after naming [] answered = steps_stay_sound.start naming
sound_after naming (event ∷ older) answered =
    event_sound naming event (book_after older) answered.0 (sound_after naming older answered.1)

-- a tariff that comes into force begins later than every other one: so the tariffs rise
rising : (naming : Naming) (history : List Event) → IsMadeByCalls naming history
    → are_rising (rulings history).tariffs ≡ true
rising naming [] answered = refl
rising naming (RulingGiven said (TariffAccepted (Some text) terms) ∷ older) answered =
    let later : AcceptedTerms = record { text = Some text; terms = terms } in
    let day : ℤ = terms.effective in
    let before = later-before day (book_after older).rulings
    (tariff_passes (book_after older) text terms answered.0).later in
    rising-behind (rulings older).tariffs later (rising naming older answered.1)
    (ap (λ (ruled : Rulings). list_all (λ tariff. int_lt tariff.terms.effective day) ruled.tariffs)
    (sym (rulings_are older)) ∙ before)
rising naming (RulingGiven said (TariffAccepted None terms) ∷ older) answered =
    ap (λ (ruled : Rulings). are_rising (with_tariff None terms ruled).tariffs)
    (sym (rulings_are older) ∙ ap (λ (before : Book). before.rulings) answered.0)
rising naming (RulingGiven said (TariffReplaced text terms) ∷ older) answered =
    replaced_rising (record { text = Some text; terms = terms }) (rulings older).tariffs
    (rising naming older answered.1)
rising naming (event ∷ older) answered = rising naming older answered.1

-- the law of it
pub latest_is_last : LatestIsLast
latest_is_last = record {
  rising = rising;
  last = λ tariffs day rise.
      ap (option_map (λ tariff. tariff.terms)) (begun-last tariffs day rise);
}
