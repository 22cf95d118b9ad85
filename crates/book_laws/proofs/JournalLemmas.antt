-- What runs do to the journal, from the laws of the histories that runs make.
use Rattle.std.proofs.Common.{◌≡◌, ◌≤◌, ◌∙◌, ◌+◌, Some, List, [], ◌∷◌, length, sym, ap, subst}
use Rattle.book_model.specs.JournalLaws.{adoption_in, adoption_once, choice_in, close_in, credit_in}
use Rattle.book_model.specs.JournalLaws.{days_back, down_from, entered, kept_outside, tariff_in}
use Rattle.book_model.specs.Words.{Book, Event, Naming, Place, RulingSeen, Rulings, after_all}
use Rattle.book_model.specs.Words.{book_after, has, kept_in_all, members, new_book, ruling_at}
use Rattle.book_model.specs.Words.{times_kept}
use Rattle.book_model.proofs.JournalLemmas.{each_came_once, entries_stay, journal_is}
use Rattle.book_model.proofs.JournalLemmas.{journal_stands_apart, rulings_are_entered}
use Rattle.book_model.proofs.MadeByCallsLemmas.{rulings_are}
use Rattle.book_model.proofs.WordLemmas.{words_stay}
use Rattle.book_laws.specs.JournalRuns.{HasRulings, NotesChangeNoText, RunsEnterRulings}
use Rattle.book_laws.specs.JournalRuns.{RunsKeepEachOnce, RunsKeepEntries, RunsKeepWords}
use Rattle.book_laws.specs.Runs.{history_with}
use Rattle.book_laws.proofs.RunLemmas.{left_after, next_answered, texts_apart}

-- notes and imports change no report
pub notes_change_no_text : NotesChangeNoText
notes_change_no_text naming report one other none same =
    texts_apart naming report (book_after one) (book_after other) none
    (journal_stands_apart new_book one
    ∙ ap (λ events. after_all events new_book) same
    ∙ sym (journal_stands_apart new_book other))

-- entries stay
pub runs_keep_entries : RunsKeepEntries
runs_keep_entries naming history run entry older after is =
    entries_stay (book_after history) entry older run.events is

-- each record came once
pub runs_keep_each_once : RunsKeepEachOnce
runs_keep_each_once = record {
  once = λ naming history run bytes after.
      let all = history_with history run in
      subst (λ (book : Book). times_kept book.journal bytes ≤ 1) (sym (left_after history run))
      (subst (λ entries. times_kept entries bytes ≤ 1) (sym (journal_is all))
      (each_came_once.once naming all bytes (next_answered naming history run after)));
  all = λ naming history run bytes after outside there.
      let all = history_with history run in
      ap (λ (book : Book). times_kept book.journal bytes) (left_after history run)
      ∙ ap (λ entries. times_kept entries bytes) (journal_is all)
      ∙ each_came_once.all naming all bytes (next_answered naming history run after) outside
      (ap (λ (book : Book). has book.held bytes) (sym (left_after history run)) ∙ there);
  sum = λ naming history run after.
      let all = history_with history run in
      ap (λ (book : Book). kept_in_all book.journal + kept_outside all) (left_after history run)
      ∙ ap (λ entries. kept_in_all entries + kept_outside all) (journal_is all)
      ∙ each_came_once.sum naming all (next_answered naming history run after)
      ∙ ap (λ (book : Book). length (members book.held)) (sym (left_after history run));
}

-- rulings are entered
pub runs_enter_rulings : RunsEnterRulings
runs_enter_rulings naming history run after noted =
    let all = history_with history run in
    subst HasRulings (sym (left_after history run)) (record {
      tariffs = ap (entered tariff_in) (journal_is all) ∙ rulings_are_entered.tariffs all noted
          ∙ ap (λ (rulings : Rulings). days_back rulings.tariffs) (sym (rulings_are all));
      closes = ap (entered close_in) (journal_is all) ∙ rulings_are_entered.closes all noted
          ∙ ap (λ (rulings : Rulings). down_from (length rulings.closes)) (sym (rulings_are all));
      choices = ap (entered choice_in) (journal_is all) ∙ rulings_are_entered.choices all noted
          ∙ ap (λ (rulings : Rulings). down_from (length rulings.choices)) (sym (rulings_are all));
      credits = ap (entered credit_in) (journal_is all) ∙ rulings_are_entered.credits all noted
          ∙ ap (λ (rulings : Rulings). down_from (length rulings.credits)) (sym (rulings_are all));
      adoption = ap (entered adoption_in) (journal_is all)
          ∙ rulings_are_entered.adoption naming all (next_answered naming history run after) noted
          ∙ ap (λ (rulings : Rulings). adoption_once rulings.adopted) (sym (rulings_are all));
    })

-- words stay, whatever comes
words_kept : (naming : Naming) (events : List Event) (book : Book) (place : Place)
    (seen : RulingSeen) → ruling_at naming book.rulings place ≡ Some seen
    → ruling_at naming (after_all events book).rulings place ≡ Some seen
words_kept naming [] book place seen is = is
words_kept naming (event ∷ older) book place seen is =
    words_stay.stays naming (after_all older book) event place seen
    (words_kept naming older book place seen is)

pub runs_keep_words : RunsKeepWords
runs_keep_words naming history run place seen after is =
    words_kept naming run.events (book_after history) place seen is
