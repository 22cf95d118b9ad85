-- The journal stays one that calls can make, whatever event comes that a book answers.
use Rattle.std.proofs.Common.{◌≡◌, ◌∙◌, ◌≤◌, ℕ, List, arith, false, inl, inr, refl, subst, sym}
use Rattle.std.proofs.lemmas.Bool.{cases_Bool}
use Rattle.book_model.proofs.Std.{exact_bytes, tells_apart}
use Rattle.book_model.specs.JournalLaws.{goes_on_in}
use Rattle.book_model.specs.Words.{Book, Entry, Event, ImportBegun, ImportEnded, ImportRead}
use Rattle.book_model.specs.Words.{IsAnswered, Naming, PeriodClosed, RecordKept, RulingGiven, after}
use Rattle.book_model.specs.Words.{change_newest, has, keep_in, times_kept}
use Rattle.book_model.proofs.JournalLemmas.{KeepsNone, alike_after, neither, new-times, other-times}
use Rattle.book_model.proofs.JournalLemmas.{still-all}
use Rattle.book_model.proofs.Lemmas.{is, kept_passes}
use Rattle.book_model.proofs.RecordSets.{has_with}
use Rattle.table_model.specs.Journaled.{IsJournaled}

-- an event that keeps no record
stays_without : (book : Book) (event : Event) → KeepsNone event → (after event book).held ≡ book.held
    → IsJournaled book → IsJournaled (after event book)
stays_without book event none same are =
    let alike = alike_after event book.rulings book.journal none in
    record {
      held = λ bytes out.
          alike.times bytes
          ∙ are.held bytes (subst (λ held. has held bytes ≡ false) same out);
      once = λ bytes. subst (λ n. n ≤ 1) (sym (alike.times bytes)) (are.once bytes);
    }

-- A record that is kept: one that no entry kept is kept by the newest, or by none.
module _ (new : List ℕ) (entries : List Entry) (none : times_kept entries new ≡ 0) where
  abbrev now : List Entry
  now = change_newest (keep_in new) entries

  -- others are kept as they were
  others_stay : (other : List ℕ) → is other new ≡ false
      → times_kept now other ≡ times_kept entries other
  others_stay other apart = other-times new other entries apart

  -- it is kept once at most
  new_once : times_kept now new ≤ 1
  new_once = elim (cases_Bool (goes_on_in entries)) [
    | inl on ↦
        let one = new-times new entries on none in
        omega (arith, one)
    | inr off ↦ subst (λ all. times_kept all new ≤ 1) (sym (still-all new entries off))
        (omega (arith, none))
  ]

-- The law of one event.
pub journaled_stays : (naming : Naming) (book : Book) (event : Event) → IsJournaled book
    → IsAnswered naming event book → IsJournaled (after event book)
journaled_stays naming book (RecordKept new) are answered =
    let none = are.held new (kept_passes naming book new answered).is_new in
    record {
      held = λ bytes out.
          let both = neither (is bytes new) (has book.held bytes)
          (sym (has_with book.held new bytes) ∙ out) in
          others_stay new book.journal none bytes both.0 ∙ are.held bytes both.1;
      once = λ bytes. elim (cases_Bool (is bytes new)) [
        | inl same ↦
            subst (λ one. times_kept (now new book.journal none) one ≤ 1)
            (sym (tells_apart exact_bytes bytes new same)) (new_once new book.journal none)
        | inr apart ↦
            subst (λ n. n ≤ 1) (sym (others_stay new book.journal none bytes apart))
            (are.once bytes)
      ];
    }
journaled_stays naming book (PeriodClosed said day) are answered =
    stays_without book (PeriodClosed said day) tt refl are
journaled_stays naming book (RulingGiven said ruling) are answered =
    stays_without book (RulingGiven said ruling) tt refl are
journaled_stays naming book (ImportBegun note) are answered =
    stays_without book (ImportBegun note) tt refl are
journaled_stays naming book (ImportRead reading) are answered =
    stays_without book (ImportRead reading) tt refl are
journaled_stays naming book (ImportEnded ending) are answered =
    stays_without book (ImportEnded ending) tt refl are
