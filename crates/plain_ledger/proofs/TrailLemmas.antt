-- The trail of a record of a plain ledger, and the period that a line of it speaks of.
use Rattle.std.proofs.Common.{◌≡◌, ◌∙◌, ℕ, List, [], ◌∷◌, ◌++◌, map, refl, sym, ap, Bool, true}
use Rattle.std.proofs.Common.{false, Option, None, Some, Err, ◌+◌, ◌<◌, length, take, get_or, cond}
use Rattle.std.proofs.Common.{All, filter, if◌then◌else◌, is_some, ok_or, option_and_then, option_map}
use Rattle.std.proofs.Common.{ℤ}
use Rattle.std.specs.BTreeMap.{is_at}
use Rattle.std.specs.Map.{keys_of}
use Rattle.book_model.proofs.Std.{IsStrictlySortedBy, map-append, take_more, All-map, filter-append}
use Rattle.book_model.proofs.Std.{exact_bytes, tells_apart, map-map, result_ok}
use Rattle.book_model.specs.declared.dispute.Variant.{Variant}
use Rattle.book_model.specs.declared.fault.LedgerFault.TheVariants.{NoSuchRecord}
use Rattle.book_model.specs.declared.line.Line.{Line}
use Rattle.book_model.specs.Words.{Reckoning, Book, Choice, IsDay, Naming, TrailSeen, by_bytes}
use Rattle.book_model.specs.Words.{choice_named, choices_among, day_of, identity_by, life_of}
use Rattle.book_model.specs.Words.{period_on, reckoning_in, share_identity, trail_by}
use Rattle.book_model.specs.Words.{Rulings, charged_before, period_by_trail, period_of_line}
use Rattle.book_model.specs.Words.{price_in, trail_of, trail_outcome}
use Rattle.book_model.proofs.Lemmas.{filter-map}
use Rattle.book_model.proofs.LinePeriodLemmas.{line_told}
use Rattle.plain_ledger.specs.declared.chosen.ChosenRecord.{ChosenRecord}
use Rattle.plain_ledger.specs.declared.treatment.ClosedPeriod.{ClosedPeriod}
use Rattle.plain_ledger.specs.declared.held.HeldRecord.{HeldRecord}
use Rattle.plain_ledger.specs.Choices.{choice_of, is_of}
use Rattle.plain_ledger.specs.Plain.{AreBooked, Entry, entry_has_identity, record_of}
use Rattle.plain_ledger.specs.Plain.{variant_at, with_choices}
use Rattle.plain_ledger.specs.PlainBook.{book_with}
use Rattle.plain_ledger.specs.Treatments.{Names, under_name}
use Rattle.plain_ledger.proofs.ChosenLemmas.{found_holds, named-found, named-missing}
use Rattle.plain_ledger.proofs.DisputeLemmas.{dispute_at-held}
use Rattle.plain_ledger.proofs.HeldLemmas.{bytes_of, each_priced}
use Rattle.plain_ledger.proofs.TariffLemmas.{each_dated}

-- what is made of the elements that pass a test, with one element more
pub made-more : {X Y : Type 0} (make : X → Y) (p : X → Bool) (xs : List X) (at : ℕ) (x : X)
    (passes : Bool) → at < length xs → x ≡ get_or xs at x → p x ≡ passes
    → map make (filter p (take (at + 1) xs))
    ≡ map make (filter p (take at xs)) ++ cond passes (make x ∷ []) []
made-more make p xs at x passes within is test =
    ap (λ some. map make (filter p some))
    (take_more xs at x within ∙ ap (λ last. take at xs ++ last ∷ []) (sym is))
    ∙ ap (map make) (filter-append p (take at xs) (x ∷ []))
    ∙ map-append make (filter p (take at xs)) (filter p (x ∷ []))
    ∙ ap (λ some. map make (filter p (take at xs)) ++ some)
    (ap (λ b. map make (cond b (x ∷ []) [])) test ∙ by_test passes)
  where
    by_test : (b : Bool) → map make (cond b (x ∷ []) []) ≡ cond b (make x ∷ []) []
    by_test true = refl
    by_test false = refl

-- the records of entries are dated on days
pub members_dated : (p : Entry → Bool) (entries : List Entry)
    → All (λ (member : Variant). IsDay member.priced.day) (map variant_at (filter p entries))
members_dated p entries =
    All-map (λ (member : Variant). IsDay member.priced.day) variant_at (filter p entries)
    (λ k d within. (get_or (filter p entries) k d).1.priced_is.day)

module _ {naming : Naming} (ruled : Rulings) (choices : List ChosenRecord)
    {entries : List Entry} {total : ℕ}
    (kept : AreBooked naming (with_choices choices ruled) entries total)
    (rising : IsStrictlySortedBy by_bytes (keys_of entries)) (posted : Names)
    (closed : List ClosedPeriod) (name : List ℕ) where
  abbrev book : Book
  book = book_with (with_choices choices ruled) entries posted closed

  -- no record of the name is held
  pub trail-missing : under_name name entries ≡ None
      → (trail_outcome naming name book).answer ≡ Err NoSuchRecord
  trail-missing missing =
      ap (λ found. ok_or (option_and_then (trail_of naming book) found) NoSuchRecord)
      (named-missing kept rising name missing)

  module _ (held : HeldRecord) (found : under_name name entries ≡ Some held) where
    -- which work its record measures
    abbrev own : List ℕ
    own = identity_by (with_choices choices ruled) (record_of held)

    -- the choices of its identity
    choices-held : choices_among naming (with_choices choices ruled) (record_of held)
        ≡ map (λ choice. choice_named naming (choice_of choice))
        (filter (is_of (with_choices choices ruled) own) choices)
    choices-held =
        let shares : Choice → Bool =
        λ choice. share_identity (with_choices choices ruled) (record_of held) choice.chosen in
        ap (map (choice_named naming)) (filter-map shares choice_of choices)
        ∙ map-map (choice_named naming) choice_of
        (filter (is_of (with_choices choices ruled) own) choices)

    -- the trail, where its price came about so
    abbrev trail_with : Reckoning → TrailSeen
    trail_with reckoning = record {
      bytes = record_of held;
      period = period_on (with_choices choices ruled).closes held.priced.day;
      reckoning = reckoning;
      members = map variant_at (filter (entry_has_identity (with_choices choices ruled) own) entries);
      choices = map (λ choice. choice_named naming (choice_of choice))
          (filter (is_of (with_choices choices ruled) own) choices);
      life = life_of book (record_of held);
    }

    trail-held : (reckoning : Reckoning)
        → trail_by naming book (record_of held) reckoning ≡ trail_with reckoning
    trail-held reckoning =
        let day : held.priced.day ≡ day_of (record_of held) =
        found_holds (λ (entry : Entry). entry.1.priced.day ≡ day_of (bytes_of entry))
        (is_at (by_bytes name)) name (tells_apart exact_bytes name) entries held
        (each_dated kept) found in
        let dispute = dispute_at-held kept rising own in
        λ i. record {
          bytes = record_of held;
          period = period_on (with_choices choices ruled).closes (sym day i);
          reckoning = reckoning;
          members = (dispute i).members;
          choices = choices-held i;
          life = life_of book (record_of held);
        }

    -- the answer, where it came about so, or not at all
    pub trail-answered : (by : Option Reckoning)
        → by ≡ reckoning_in (with_choices choices ruled) (record_of held)
        → (trail_outcome naming name book).answer
        ≡ ok_or (option_map trail_with by) NoSuchRecord
    trail-answered by is =
        ap (λ one. ok_or (option_and_then (trail_of naming book) one) NoSuchRecord)
        (named-found kept rising name held found)
        ∙ (λ i. ok_or (option_map (λ reckoning. trail-held reckoning i) (sym is i)) NoSuchRecord)

module _ {naming : Naming} (ruled : Rulings) (choices : List ChosenRecord)
    {entries : List Entry} {total : ℕ}
    (kept : AreBooked naming (with_choices choices ruled) entries total)
    (rising : IsStrictlySortedBy by_bytes (keys_of entries)) (posted : Names)
    (closed : List ClosedPeriod) (number : ℕ) (line : Line) where
  abbrev its_book : Book
  its_book = book_with (with_choices choices ruled) entries posted closed

  -- a line of no record that is held speaks of no period
  pub line-untold : under_name line.name entries ≡ None
      → period_of_line naming its_book number line ≡ None
  line-untold missing =
      ap (λ found. option_and_then (period_by_trail number line)
      (result_ok (ok_or (option_and_then (trail_of naming its_book) found) NoSuchRecord)))
      (named-missing kept rising line.name missing)

  -- that of one that is held speaks of a period by its day and its life
  pub line-told : (held : HeldRecord) → under_name line.name entries ≡ Some held
      → period_of_line naming its_book number line
      ≡ (if line.plus then Some (period_on (with_choices choices ruled).closes held.priced.day)
      else charged_before number (life_of its_book (record_of held)))
  line-told held found =
      let price : price_in (with_choices choices ruled) (record_of held) ≡ Some held.priced =
      found_holds (λ (entry : Entry).
      price_in (with_choices choices ruled) (bytes_of entry) ≡ Some entry.1.priced)
      (is_at (by_bytes line.name)) line.name (tells_apart exact_bytes line.name) entries held
      (each_priced kept) found in
      let day : held.priced.day ≡ day_of (record_of held) =
      found_holds (λ (entry : Entry). entry.1.priced.day ≡ day_of (bytes_of entry))
      (is_at (by_bytes line.name)) line.name (tells_apart exact_bytes line.name) entries held
      (each_dated kept) found in
      line_told naming its_book number line (record_of held)
      (named-found kept rising line.name held found) (ap is_some price)
      ∙ ap (λ (day : ℤ). if line.plus then Some (period_on (with_choices choices ruled).closes day)
      else charged_before number (life_of its_book (record_of held))) (sym day)
