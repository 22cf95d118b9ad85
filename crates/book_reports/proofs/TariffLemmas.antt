-- The text of the tariff that begins on a day, which is sought among the tariffs of a ledger.
use Rattle.std.proofs.Common.{◌≡◌, ◌≢◌, ◌∙◌, ℕ, ◌+◌, ℤ, Bool, List, [], ◌∷◌, ◌++◌, take, drop, refl}
use Rattle.std.proofs.Common.{sym, ap, take-append-drop, Option, Some, None, Result, Ok, Err, Vec}
use Rattle.std.proofs.Common.{Global, filter_map, if◌then◌else◌, option_map, slice_get}
use Rattle.std.proofs.Common.{string_bytes, ok_or, int_eq}
use Rattle.std.proofs.lemmas.Bool.Decides.{Decides-int_eq}
use Rattle.book_model.proofs.Std.{cons_option, false_from_ne_true, filter_map-append}
use Rattle.book_model.specs.declared.fault.LedgerFault.TheVariants.{NoSuchTariff}
use Rattle.book_model.specs.Words.{Book, Naming, RulingSeen, TariffSeen, tariffs_seen, text_on}
use Rattle.book_core.specs.Words.{Seen, IsCall}
use Rattle.book_lists.specs.declared.tariff_cursors.ListedTariff.{ListedTariff}
use Rattle.book_lists.specs.TariffsInTurn.{tariff_outcome, tariffs_in_turn}
use Rattle.book_lists.proofs.CursorLemmas.{HasRead, first_read, one_more_read}
use Rattle.book_lists.proofs.FrontLemmas.{front_all, next_taken}
use Rattle.book_lists.proofs.ShownLemmas.{answers_as}
use Rattle.book_reports.specs.declared.report.Report.TheVariants.{TariffText}
use Rattle.book_reports.proofs.Words.{LedgerFault, Memory, tariff_shown, by_names, answers}
use Rattle.book_reports.proofs.Words.{answers_none, refused_next, same_value, report_outcome}

-- the tariffs of a book, and each as a ledger is asked for it
abbrev pub all_tariffs : Naming → Book → Result (List RulingSeen) LedgerFault
all_tariffs naming book = Ok (tariffs_seen book.rulings.tariffs)

abbrev pub asked : Naming → ℕ → Option RulingSeen → Book → Result (Option RulingSeen) LedgerFault
asked naming count last book = (tariff_outcome naming count book).answer

module _ (day : ℤ) where
  -- the texts of those that begin on the day
  abbrev pub texts : List RulingSeen → List (List ℕ)
  texts tariffs = filter_map (text_on day) tariffs

  abbrev text_if : Bool → List ℕ → List (List ℕ)
  text_if same text = cons_option (if same then Some text else None) []

  -- of one of that day, and of one of another day
  its_text : (text : List ℕ) → texts (TariffSeen day text ∷ []) ≡ text ∷ []
  its_text text = ap (λ same. text_if same text) ((Decides-int_eq day day).1 refl)

  no_text : (begins : ℤ) (text : List ℕ) → begins ≢ day → texts (TariffSeen begins text ∷ []) ≡ []
  no_text begins text other =
      ap (λ same. text_if same text)
      (false_from_ne_true (int_eq day begins)
      (λ same. other (sym ((Decides-int_eq day begins).0 same))))

  -- one more after those that have none
  texts_with : (read : List RulingSeen) (tariff : RulingSeen) → texts read ≡ []
      → texts (read ++ tariff ∷ []) ≡ texts (tariff ∷ [])
  texts_with read tariff none =
      filter_map-append (text_on day) read (tariff ∷ [])
      ∙ ap (λ front. front ++ texts (tariff ∷ [])) none

  -- the next one is the tariff
  found_text : (all read : List RulingSeen) (count : ℕ) (text : List ℕ) → take count all ≡ read
      → texts read ≡ [] → slice_get all count ≡ Some (TariffSeen day text)
      → slice_get (texts all) 0 ≡ Some text
  found_text all read count text front none is =
      let tariff = TariffSeen day text in
      let first : take (count + 1) all ≡ read ++ tariff ∷ [] =
      next_taken all count tariff is ∙ ap (λ front. front ++ tariff ∷ []) front in
      let begun : texts (take (count + 1) all) ≡ text ∷ [] =
      ap texts first ∙ texts_with read tariff none ∙ its_text text in
      let whole : texts all ≡ text ∷ texts (drop (count + 1) all) =
      ap texts (sym (take-append-drop (count + 1) all))
      ∙ filter_map-append (text_on day) (take (count + 1) all) (drop (count + 1) all)
      ∙ ap (λ front. front ++ texts (drop (count + 1) all)) begun in
      ap (λ found. slice_get found 0) whole

-- tariffs were read, and none of them begins on the day
pub record SeeksOn (old new : Seen) (count : ℕ) (next : Option ListedTariff) (day : ℤ) : Type 0 where
  pub read : List RulingSeen
  pub far : HasRead all_tariffs old new count read (option_map tariff_shown next)
  pub none : texts day read ≡ []

pub seek_begun : (old new : Seen) (next : Option ListedTariff) (day : ℤ)
    → IsCall (option_map tariff_shown) old new (Ok next) (tariff_outcome old.naming 0)
    → SeeksOn old new 0 next day
seek_begun old new next day call = record {
  read = [];
  far = first_read tariff_shown all_tariffs asked tariffs_in_turn old new next call;
  none = refl;
}

module _ {old mid : Seen} {count : ℕ} {next : Option ListedTariff} {day : ℤ}
    (it : SeeksOn old mid count next day)
  where
    -- the next one is the tariff
    pub text_found : (text : Vec ℕ Global)
        → option_map tariff_shown next ≡ Some (TariffSeen day text.items)
        → IsCall (λ (text : Vec ℕ Global). text.items) old mid (Ok text)
        (report_outcome old.naming (TariffText day))
    text_found text is =
        answers text (λ book. refl)
        (λ book known. ap (λ found. ok_or found NoSuchTariff)
        (ap (λ tariffs. slice_get (texts day tariffs) 0) (same_value known.answered)
        ∙ found_text day known.items it.read count text.items known.those.front it.none
        (known.those.there ∙ is)))
        it.far.shows

    -- there is no further tariff
    pub text_gone : next ≡ None
        → IsCall (λ (text : Vec ℕ Global). text.items) old mid (Err NoSuchTariff)
        (report_outcome old.naming (TariffText day))
    text_gone last =
        answers_as (Err NoSuchTariff) (record { reopen = refl; store = refl }) (λ book. refl)
        (λ book known. ap (λ texts. ok_or (slice_get texts 0) NoSuchTariff)
        (ap (texts day) (same_value known.answered
        ∙ sym (front_all known.those (ap (option_map tariff_shown) last)))
        ∙ it.none))
        it.far.shows

    -- there was no memory
    pub text_lost : IsCall (λ (text : Vec ℕ Global). text.items) old mid (Err Memory)
        (report_outcome old.naming (TariffText day))
    text_lost = answers_none (λ book. refl) it.far.shows

    -- the ledger refused the next call
    pub text_refused : (new : Seen) (fault : LedgerFault)
        → IsCall (option_map tariff_shown) mid new (Err fault) (tariff_outcome mid.naming (count + 1))
        → IsCall (λ (text : Vec ℕ Global). text.items) old new (Err fault)
        (report_outcome old.naming (TariffText day))
    text_refused new fault call =
        refused_next (Err fault) refl (λ book. refl) (λ book. refl) (λ book known is. cc is)
        it.far.shows
        (by_names (λ naming. tariff_outcome naming (count + 1)) it.far.shows.work.naming call)

    -- the next one is a tariff of another day, and it goes on
    pub seek_more : (new : Seen) (tariff : ListedTariff) (after : Option ListedTariff)
        → next ≡ Some tariff → tariff.day ≢ day
        → IsCall (option_map tariff_shown) mid new (Ok after) (tariff_outcome mid.naming (count + 1))
        → SeeksOn old new (count + 1) after day
    seek_more new tariff after is other call =
        let ruling = tariff_shown tariff in
        record {
          read = it.read ++ ruling ∷ [];
          far = one_more_read tariff_shown all_tariffs asked tariffs_in_turn old mid new count it.read
              ruling (option_map tariff_shown next) after (ap (option_map tariff_shown) is) it.far call;
          none = texts_with day it.read ruling it.none
              ∙ no_text day tariff.day (string_bytes tariff.text) other;
        }
