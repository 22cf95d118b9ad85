-- Records that are staged one after another.
use Rattle.std.proofs.Common.{◌≡◌, ◌∙◌, ◌<◌, ◌+◌, ℕ, List, [], ◌∷◌, ◌++◌, Result, Ok, Err, refl}
use Rattle.std.proofs.Common.{sym, ap, subst, false, true, true≢false, Vec, Global, drop, get_or}
use Rattle.std.proofs.Common.{length, append-nil, append_assoc, add-one, drop-cons, eqb-true, ◌==◌}
use Rattle.std.proofs.Common.{IsErr, Option}
use Rattle.book_model.specs.Words.{Book, Event, accept_answer, accept_event, after_all, Naming}
use Rattle.book_model.specs.Words.{Outcome, accept_outcome}
use Rattle.book_model.specs.declared.answer.Accepted.TheVariants.{Kept, Known, Unpriced}
use Rattle.book_core.specs.Words.{Calls, Makes, Accepts, first_of, listed, records_in, NoEvent}
use Rattle.book_core.specs.Words.{LeavesOpen}
use Rattle.book_core.proofs.TransitionLemmas.{after_all-append}
use Rattle.table_model.specs.Words.{Tables}
use Rattle.tree_rows.proofs.Calls.{only_looks}
use Rattle.table_ledger.proofs.Words.{View, OnlyWrites, StoreError, Accepted, LedgerFault, Memory}
use Rattle.table_ledger.proofs.Words.{Store, Reopen, State, HasCleanDisk, Survives, only_both}
use Rattle.table_ledger.proofs.Words.{IsAtAs, LeavesOne, MakesOf, StagesMany}
use Rattle.table_ledger.specs.Groups.{joined_by}
use Rattle.table_ledger.specs.Stages.{AnswersFirst, IsStaged, LeavesFirst, RefusesNext}
use Rattle.table_ledger.specs.Stages.{StagesWhere}
use Rattle.table_ledger.specs.declared.summary.Summary.{Summary}
use Rattle.table_ledger.proofs.JoinedEntries.{still_joined}
use Rattle.table_ledger.proofs.Remembered.{remembers_as}
use Rattle.table_ledger.proofs.StageLemmas.{unstaged_where}
use Rattle.table_ledger.proofs.StepLemmas.{stands_only}
use Rattle.table_ledger.proofs.SurvivalLemmas.{clean_before, survives_then}
use Rattle.table_ledger.proofs.UnchangedStores.{stands_then}
use Rattle.book_model.proofs.Lemmas.{no_length}

-- a refusal that leaves the books open makes no event
pub refused_none : {V A : Type 0} (view : V → A) (outcome : Outcome A) (fault : LedgerFault)
    (events : List Event) → LeavesOpen {V = V} (Err fault) → Makes view outcome (Err fault) events
    → events ≡ []
refused_none view outcome Memory events plain makes = makes
refused_none view outcome Store events plain makes = absurd (true≢false plain.stored)
refused_none view outcome Reopen events plain makes = makes
refused_none view outcome fault events plain makes = makes.1

-- a record is staged, with this answer
abbrev pub IsAnswered : (Tables → Tables) → Naming → List ℕ → Result Accepted LedgerFault → Summary
    → View → View → Book → Type 0
IsAnswered written naming bytes answer is old new book =
    let outcome = accept_outcome naming bytes in
    IsStaged written (MakesOf (λ (accepted : Accepted). accepted) outcome answer) (LeavesOne outcome) naming
    (λ summary. summary ≡ is) old new book

-- what is answered to a record leaves the entry that records join
kept_or_none : (bytes : List ℕ) (book : Book) (answer : Result Accepted LedgerFault)
    → joined_by (after_all (listed (accept_event bytes answer)) book).journal
    ≡ joined_by book.journal
kept_or_none bytes book (Ok Kept) = still_joined bytes book.journal
kept_or_none bytes book (Ok Known) = refl
kept_or_none bytes book (Ok Unpriced) = refl
kept_or_none bytes book (Err fault) = refl

joined_then : (naming : Naming) (bytes : List ℕ) (answer : Accepted) (book : Book)
    (events : List Event) {came : Option ℕ} → came ≡ joined_by book.journal
    → MakesOf (λ (accepted : Accepted). accepted) (accept_outcome naming bytes) (Ok answer) book events
    → came ≡ joined_by (after_all events book).journal
joined_then naming bytes answer book events given made =
    given
    ∙ sym (ap (λ events. joined_by (after_all events book).journal) made.1
    ∙ kept_or_none bytes book (accept_answer naming book bytes))

-- the records so far were taken: whatever is taken of the rest, all of it is
pub record AreTaken (came : Option ℕ) (written : Tables → Tables) (naming : Naming) (records rest : List (List ℕ))
    (is : Summary) (old new : View) (book : Book) (answers : List Accepted) : Type 0 where
  pub events : List Event
  pub leads : (later : List Accepted) (late : List Event)
      → Accepts naming rest later false (after_all events book) late false
      → Accepts naming records (answers ++ later) false book (late ++ events) false
  pub only : OnlyWrites old new
  pub at : IsAtAs written naming is new (after_all events book)
  pub joined : came ≡ joined_by (after_all events book).journal

-- none was taken yet
pub none_yet : {came : Option ℕ} {written : Tables → Tables} {naming : Naming}
    (records : List (List ℕ)) {is : Summary} {view : View} {book : Book} {answers : List Accepted}
    → answers ≡ [] → came ≡ joined_by book.journal → IsAtAs written naming is view book
    → AreTaken came written naming records records is view view book answers
none_yet {naming = naming} records {view = view} {book = book} none joined at = record {
  events = [];
  leads = λ later late accepts.
      subst (λ before. Accepts naming records (before ++ later) false book (late ++ []) false) (sym none)
      (subst (λ events. Accepts naming records later false book events false) (sym (append-nil late))
      accepts);
  only = only_looks view refl;
  at = at;
  joined = joined;
}

-- one more record was answered and written
pub more_taken : {came : Option ℕ} {written : Tables → Tables} {naming : Naming} {records rest : List (List ℕ)}
    {bytes : List ℕ} {was is : Summary} {old middle new : View} {book : Book}
    {answers : List Accepted} {answer : Accepted}
    (taken : AreTaken came written naming records (bytes ∷ rest) was old middle book answers)
    → IsAnswered written naming bytes (Ok answer) is middle new (after_all taken.events book)
    → AreTaken came written naming records rest is old new book (answers ++ answer ∷ [])
more_taken {came} {written} {naming} {records} {rest} {bytes} {was} {is} {old} {middle} {new} {book} {answers} {answer} taken staged = record {
  events = staged.events ++ taken.events;
  leads = λ later late accepts.
      subst (λ all. Accepts naming records all false book (late ++ (staged.events ++ taken.events)) false)
      (sym (append_assoc answers (answer ∷ []) later))
      (subst (λ events. Accepts naming records (answers ++ answer ∷ later) false book events false)
      (append_assoc late staged.events taken.events)
      (taken.leads (answer ∷ later) (late ++ staged.events) (record {
        between = false;
        early = staged.events;
        late = late;
        first = record {
          makes = staged.made;
          reopens = record { reopen = refl; store = refl };
        };
        next = subst (λ book. Accepts naming rest later false book late false)
            (after_all-append staged.events taken.events book) accepts;
        all = refl;
      })));
  only = only_both old taken.only staged.only;
  at = subst (IsAtAs written naming is new) (sym (after_all-append staged.events taken.events book))
      (record { kept = staged.kept; remembers = staged.remembers is refl });
  joined = subst (λ (left : Book). came ≡ joined_by left.journal)
      (sym (after_all-append staged.events taken.events book))
      (joined_then naming bytes answer (after_all taken.events book) staged.events taken.joined
      staged.made);
}

-- the first of the records are staged: these answers were given, and if there are none, this is why
abbrev pub AreStaged : (Tables → Tables) → Naming → List (List ℕ) → Summary → View → View → Book
    → List Accepted → Result (Unit {0}) LedgerFault → Type 0
AreStaged written naming records is old new book answers told =
    IsStaged written (AnswersFirst naming records answers told) (LeavesFirst naming records) naming
    (λ summary. summary ≡ is) old new book

-- the records that were taken are staged, and nothing more is
pub all_taken : {came : Option ℕ} {written : Tables → Tables} {naming : Naming} {records rest : List (List ℕ)}
    {is : Summary} {old new : View} {book : Book} {answers : List Accepted}
    {told : Result (Unit {0}) LedgerFault} (taken : AreTaken came written naming records rest is old new book answers)
    → (Accepts naming records answers false book taken.events false → answers ≡ []
    → RefusesNext naming records book told)
    → AreStaged written naming records is old new book answers told
all_taken {naming = naming} {records = records} {book = book} {answers = answers} taken why =
    let accepts : Accepts naming records answers false book taken.events false =
    subst (λ all. Accepts naming records all false book taken.events false)
    (append-nil answers) (taken.leads [] [] (record { none = refl; same = refl })) in
    record {
      events = taken.events;
      made = record { accepts = accepts; none = why accepts };
      leaves = record { answers = answers; accepts = accepts };
      only = taken.only;
      kept = taken.at.kept;
      remembers = λ summary same. remembers_as taken.at.remembers same;
    }

-- the next record was refused, and those before it are staged
pub refused_next : {came : Option ℕ} {written : Tables → Tables} {naming : Naming} {records rest : List (List ℕ)}
    {bytes : List ℕ} {was is : Summary} {old middle new : View} {book : Book}
    {answers : List Accepted} (fault : LedgerFault)
    (taken : AreTaken came written naming records (bytes ∷ rest) was old middle book answers)
    → LeavesOpen {V = Accepted} (Err fault)
    → IsAnswered written naming bytes (Err fault) is middle new (after_all taken.events book)
    → (answers ≡ [] → records ≡ bytes ∷ rest)
    → AreStaged written naming records is old new book answers (Err fault)
refused_next {came} {written} {naming} {records} {rest} {bytes} {was} {is} {old} {middle} {new} {book} {answers} fault taken plain staged all =
    let outcome = accept_outcome naming bytes (after_all taken.events book) in
    let none : staged.events ≡ [] = refused_none (λ (accepted : Accepted). accepted) outcome fault
    staged.events plain staged.made in
    let still : AreTaken came written naming records (bytes ∷ rest) is old new book answers = record {
      events = taken.events;
      leads = taken.leads;
      only = only_both old taken.only staged.only;
      at = subst (λ events. IsAtAs written naming is new (after_all events (after_all taken.events book))) none
          (record { kept = staged.kept; remembers = staged.remembers is refl });
      joined = taken.joined;
    } in
    all_taken still (λ accepts empty.
    let nothing : NoEvent false book taken.events false =
    subst (λ answers. Accepts naming records answers false book taken.events false) empty accepts in
    subst (λ records. Calls (λ (accepted : Accepted). accepted)
    (accept_outcome naming (first_of records)) (Err fault) false book [] false)
    (sym (all empty)) (record {
      makes = subst (λ events. Makes (λ (accepted : Accepted). accepted)
          (accept_outcome naming bytes (after_all events book)) (Err fault) [])
          nothing.none
          (subst (λ events. Makes (λ (accepted : Accepted). accepted) outcome (Err fault) events)
          none staged.made);
      reopens = record { reopen = plain.served; store = sym plain.stored };
    }))

-- whether an error leaves the books open does not depend on what the call would return
pub open_as : {V W : Type 0} (fault : LedgerFault) → LeavesOpen {V = V} (Err fault)
    → LeavesOpen {V = W} (Err fault)
open_as Store plain = absurd (true≢false plain.stored)
open_as Reopen plain = absurd (true≢false plain.served)
open_as fault plain = record { stored = refl; served = refl }

-- the next record, and those after it
rest_is : (records : List (Vec ℕ Global)) (i : ℕ) (found : Vec ℕ Global) (bytes : List ℕ)
    → i < length records → found ≡ get_or records i found → bytes ≡ found.items
    → records_in (drop i records) ≡ bytes ∷ records_in (drop (i + 1) records)
rest_is records i found bytes within is same =
    ap records_in (drop-cons records i found within)
    ∙ (λ j. (sym is j).items ∷ records_in (drop (sym (add-one i) j) records))
    ∙ ap (λ one. one ∷ records_in (drop (i + 1) records)) (sym same)

module _ {came : Option ℕ} {written : Tables → Tables} {naming : Naming}
    (records : List (Vec ℕ Global))
    {was is : Summary}
    {old middle : State} {answers : List Accepted} (i : ℕ) (found : Vec ℕ Global) {bytes : List ℕ}
    (within : i < length records) (here : found ≡ get_or records i found)
    (same : bytes ≡ found.items)
    (early : Survives old middle (λ trees. ⊥))
    (taken : HasCleanDisk middle → (book : Book) → came ≡ joined_by book.journal
    → IsAtAs written naming was old.view book
    → AreTaken came written naming (records_in records) (records_in (drop i records)) is old.view middle.view book
    answers) (new : State) where
  -- the record is staged
  abbrev Stages : Summary → Result (Result Accepted LedgerFault) StoreError → Type 0
  Stages next staged =
      StagesWhere (λ book. came ≡ joined_by book.journal) written
      (λ (answer : Result Accepted LedgerFault). answer)
      (MakesOf (λ (accepted : Accepted). accepted) (accept_outcome naming bytes))
      (LeavesOne (accept_outcome naming bytes)) naming is (λ summary. summary ≡ next) middle new
      staged

  -- what was taken before the record
  before_it : HasCleanDisk middle → (book : Book) → came ≡ joined_by book.journal
      → IsAtAs written naming was old.view book
      → AreTaken came written naming (records_in records) (bytes ∷ records_in (drop (i + 1) records)) is old.view
      middle.view book answers
  before_it clean book given at =
      subst (λ rest. AreTaken came written naming (records_in records) rest is old.view middle.view book answers)
      (rest_is records i found bytes within here same) (taken clean book given at)

  -- the record was answered, and written where it is new
  pub step_taken : {next : Summary} {given : Result Accepted LedgerFault} {answer : Accepted}
      → given ≡ Ok answer
      → Stages next (Ok given)
      → HasCleanDisk new → (book : Book) → came ≡ joined_by book.journal
      → IsAtAs written naming was old.view book
      → AreTaken came written naming (records_in records) (records_in (drop (i + 1) records)) next old.view new.view
      book (answers ++ answer ∷ [])
  step_taken {next = next} {given = given} {answer = answer} given_is stages clean book joined at =
      let before = before_it (clean_before stages.survives clean) book joined at in
      more_taken before
      (subst (λ given. IsAnswered written naming bytes given next middle.view new.view
      (after_all before.events book)) given_is
      (stages.found clean (after_all before.events book) before.joined before.at))

  -- the books refused it
  pub step_refused : {next : Summary} {given : Result Accepted LedgerFault} (fault : LedgerFault)
      → given ≡ Err fault → length answers ≡ i
      → Stages next (Ok given)
      → StagesMany came written naming (records_in records) was next old new answers (Ok (Err fault))
  step_refused {next = next} {given = given} fault given_is count stages =
      let plain : LeavesOpen {V = Accepted} (Err fault) =
      subst (λ (given : Result Accepted LedgerFault). LeavesOpen given) given_is stages.plain in
      record {
        plain = open_as {V = Accepted} {W = Unit {0}} fault plain;
        survives = survives_then early stages.survives;
        found = λ clean book joined at.
            let before = before_it (clean_before stages.survives clean) book joined at in
            refused_next fault before plain
            (subst (λ given. IsAnswered written naming bytes given next middle.view new.view
            (after_all before.events book)) given_is
            (stages.found clean (after_all before.events book) before.joined before.at))
            (λ empty. ap (λ n. records_in (drop n records)) (sym (sym count ∙ ap length empty))
            ∙ rest_is records i found bytes within here same);
      }

  -- the store refused it
  pub step_failed : {next : Summary} {error : StoreError} (late : List Accepted)
      (tried : Result (Result (Unit {0}) LedgerFault) StoreError) → IsErr tried
      → Stages next (Err error)
      → StagesMany came written naming (records_in records) was next old new late tried
  step_failed late tried failed stages =
      unstaged_where tried failed (survives_then early stages.survives) (λ clean book joined at.
      let before = before_it (clean_before stages.survives clean) book joined at in
      stands_then (stands_only old.view middle.view before.only)
      (stages.found clean (after_all before.events book) before.joined before.at))

  -- it was answered, and there is no memory for the answer
  pub step_untold : {next : Summary} {given : Result Accepted LedgerFault} (late : List Accepted)
      (tried : Result (Result (Unit {0}) LedgerFault) StoreError) → IsErr tried
      → Stages next (Ok given)
      → StagesMany came written naming (records_in records) was next old new late tried
  step_untold late tried failed stages =
      unstaged_where tried failed (survives_then early stages.survives) (λ clean book joined at.
      let before = before_it (clean_before stages.survives clean) book joined at in
      stands_only old.view new.view (only_both old.view before.only
      (stages.found clean (after_all before.events book) before.joined before.at).only))

-- a list of length 0 has no element
pub none_left : (answers : List Accepted) (n : ℕ) → n ≡ length answers → (n == 0) ≡ true
    → answers ≡ []
none_left answers n long is = no_length answers (sym long ∙ eqb-true n 0 is)
