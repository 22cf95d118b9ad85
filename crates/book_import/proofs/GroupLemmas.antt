-- Records of a group: those that were counted, and those that wait for their answers.
use Rattle.std.proofs.Common.{◌≡◌, ◌∙◌, ℕ, Bool, false, List, [], ◌∷◌, ◌++◌}
use Rattle.std.proofs.Common.{length, take, refl, sym, ap, subst, arith, Ok, Err}
use Rattle.std.proofs.Common.{append_assoc, append-nil, length-append, map}
use Rattle.smf_type30.specs.declared.record_class.Class.{Class}
use Rattle.smf_type30.specs.declared.record_class.Class.TheVariants.{Continuation, Damaged, DataLost}
use Rattle.smf_type30.specs.declared.record_class.Class.TheVariants.{DumpHeader, DumpTrailer, Other}
use Rattle.smf_type30.specs.declared.record_class.Class.TheVariants.{Usage}
use Rattle.book_model.specs.Words.{Book, Event, Naming, class_of, read_with}
use Rattle.book_model.specs.declared.answer.Accepted.{Accepted}
use Rattle.book_model.specs.declared.answer.Accepted.TheVariants.{Kept, Known, Unpriced}
use Rattle.book_model.specs.declared.fault.LedgerFault.{LedgerFault}
use Rattle.book_model.specs.declared.fault.LedgerFault.TheVariants.{Store}
use Rattle.book_core.specs.Transition.{Transition, Then}
use Rattle.book_core.specs.Submissions.{Accepts, KeepsFirst, Takes}
use Rattle.book_core.proofs.ThenLemmas.{first_two, last_two, next_as, first_as, then_nothing}
use Rattle.book_core.proofs.ThenLemmas.{nothing_then}
use Rattle.book_core.proofs.TransitionLemmas.{Implies}
use Rattle.book_import.specs.declared.receipt.Receipt.{Receipt}
use Rattle.book_model.specs.declared.note.Stop.{Stop}
use Rattle.book_model.specs.declared.note.Stop.TheVariants.{Ledger}
use Rattle.book_import.specs.Receipts.{count_accepted, count_ahead, count_class}
use Rattle.book_import.specs.Handled.{Imported, answers_of, handle_all, nothing_imported}
use Rattle.book_import.specs.Imports.{Handles, store_failed}
use Rattle.book_import.specs.ImportEntries.{reading_of}
use Rattle.book_import.specs.Pieces.{LeadsTo}
use Rattle.book_import.specs.Groups.{usage_by, usage_of, Asks, StopsAmong}
use Rattle.book_import.proofs.GatheringLemmas.{usage_one}
use Rattle.book_import.proofs.ImportLemmas.{usage_more, other_more, first_told}
use Rattle.book_import.proofs.StopLemmas.{stopped_at}

-- ---- records that wait for their answers

-- The first records were counted; the books gave these answers to the first of those that wait.
abbrev pub Ahead : Naming → List (List ℕ) → List (List ℕ) → List Accepted → Receipt → Transition
Ahead naming front waiting pending receipt =
    Then (LeadsTo naming front receipt) (Accepts naming waiting pending)

-- a record of another class is counted
pub other_ahead : (naming : Naming) (front waiting : List (List ℕ)) (pending : List Accepted)
    (receipt next : Receipt) (bytes : List ℕ) (class : Class) → class_of bytes ≡ class
    → (class ≡ Usage → ⊥) → next ≡ count_class class receipt
    → Implies (Ahead naming front waiting pending receipt)
    (Ahead naming (front ++ bytes ∷ []) waiting pending next)
other_ahead naming front waiting pending receipt next bytes class of other counted =
    first_as (other_more naming front bytes receipt next class of other counted)

-- a usage record that was answered is counted
pub usage_ahead : (naming : Naming) (front rest : List (List ℕ)) (pending : List Accepted)
    (receipt next : Receipt) (bytes : List ℕ) (answer : Accepted) → class_of bytes ≡ Usage
    → next ≡ count_accepted answer receipt
    → Implies (Ahead naming front (bytes ∷ rest) (answer ∷ pending) receipt)
    (Ahead naming (front ++ bytes ∷ []) rest pending next)
usage_ahead naming front rest pending receipt next bytes answer usage counted was before events is ahead =
    first_as (usage_more naming front bytes receipt next answer usage counted) was before events is
    (first_two was before events is ahead)

-- the first that waits was answered: then that answer is left
answer_left : (naming : Naming) (waiting : List (List ℕ)) (pending left : List Accepted)
    (answer : Accepted)
    → Implies (Then (Accepts naming waiting pending) (Asks naming waiting pending (Ok answer) left))
    (Accepts naming waiting (answer ∷ left))
answer_left naming waiting [] left answer was before events is both =
    nothing_then (Accepts naming waiting (answer ∷ left)) was before events is both
answer_left naming waiting (first ∷ later) left answer was before events is both =
    let same : first ∷ later ≡ answer ∷ left = (let one = both.next.1 in let rest = both.next.2 in cc) in
    subst (λ pending. Accepts naming waiting pending was before events is) same
    (then_nothing (Accepts naming waiting (first ∷ later)) was before events is (record {
      between = both.between;
      early = both.early;
      late = both.late;
      first = both.first;
      next = both.next.0;
      all = both.all;
    }))

-- so it is ahead of those that wait
pub asked_ahead : (naming : Naming) (front waiting : List (List ℕ)) (pending left : List Accepted)
    (receipt : Receipt) (answer : Accepted)
    → Implies (Then (Ahead naming front waiting pending receipt)
    (Asks naming waiting pending (Ok answer) left))
    (Ahead naming front waiting (answer ∷ left) receipt)
asked_ahead naming front waiting pending left receipt answer was before events is both =
    next_as (answer_left naming waiting pending left answer) was before events is
    (last_two was before events is both)

-- none was left, and the books refused it
fault_left : (naming : Naming) (waiting : List (List ℕ)) (pending left : List Accepted)
    (fault : LedgerFault)
    → Implies (Then (Accepts naming waiting pending) (Asks naming waiting pending (Err fault) left))
    (Takes naming waiting (Err fault))
fault_left naming waiting [] left fault was before events is both =
    nothing_then (Takes naming waiting (Err fault)) was before events is both
fault_left naming waiting (first ∷ later) left fault was before events is both =
    absurd (let one = both.next.1 in cc)

-- ---- a stop among the records of a group

-- an answer is counted before records of other classes as behind them
one_commutes : (class : Class) (answer : Accepted) (receipt : Receipt)
    → count_class class (count_accepted answer receipt)
    ≡ count_accepted answer (count_class class receipt)
one_commutes Usage answer receipt = refl
one_commutes DumpHeader Kept receipt = refl
one_commutes DumpHeader Known receipt = refl
one_commutes DumpHeader Unpriced receipt = refl
one_commutes DumpTrailer Kept receipt = refl
one_commutes DumpTrailer Known receipt = refl
one_commutes DumpTrailer Unpriced receipt = refl
one_commutes DataLost Kept receipt = refl
one_commutes DataLost Known receipt = refl
one_commutes DataLost Unpriced receipt = refl
one_commutes Other Kept receipt = refl
one_commutes Other Known receipt = refl
one_commutes Other Unpriced receipt = refl
one_commutes Continuation Kept receipt = refl
one_commutes Continuation Known receipt = refl
one_commutes Continuation Unpriced receipt = refl
one_commutes (Damaged damage) Kept receipt = refl
one_commutes (Damaged damage) Known receipt = refl
one_commutes (Damaged damage) Unpriced receipt = refl

commutes : (classes : List Class) (answer : Accepted) (receipt : Receipt)
    → count_ahead classes (count_accepted answer receipt)
    ≡ count_accepted answer (count_ahead classes receipt)
commutes [] answer receipt = refl
commutes (class ∷ later) answer receipt =
    ap (count_ahead later) (one_commutes class answer receipt)
    ∙ commutes later answer (count_class class receipt)

pub count_answer : (classes : List Class) (answer : Accepted) (ahead receipt : Receipt)
    → ahead ≡ count_ahead classes receipt
    → count_accepted answer ahead ≡ count_ahead classes (count_accepted answer receipt)
count_answer classes answer ahead receipt is =
    ap (count_accepted answer) is ∙ sym (commutes classes answer receipt)

-- so what is read with some answers does not depend on when the first of them is counted
read_more : (answer : Accepted) (later : List Accepted) (bytes : List ℕ) (receipt : Receipt)
    → read_with later (reading_of bytes (count_accepted answer receipt))
    ≡ read_with (answer ∷ later) (reading_of bytes receipt)
read_more Kept later bytes receipt = refl
read_more Known later bytes receipt = refl
read_more Unpriced later bytes receipt = refl

-- Some first records of a group to which all answers were given, the receipt with them, and what is
-- read with the answers: from this receipt on.
pub record AreCounted (naming : Naming) (front records : List (List ℕ)) (answers : List Accepted)
    (start : Receipt) (was : Bool) (before : Book) (events : List Event) (is : Bool) : Type 0 where
  pub first : List (List ℕ)
  pub rest : List (List ℕ)
  pub parts : first ++ rest ≡ records
  pub receipt : Receipt
  pub leads : LeadsTo naming (front ++ first) receipt was before events is
  pub ahead : (bytes : List ℕ) → reading_of bytes (count_ahead (map class_of rest) receipt)
      ≡ read_with answers (reading_of bytes (count_ahead (map class_of records) start))

-- one more record before them, of another class,
counted_other : (naming : Naming) (front records : List (List ℕ)) (bytes : List ℕ) (class : Class)
    (answers : List Accepted) (start : Receipt) → class_of bytes ≡ class
    → Implies (AreCounted naming (front ++ bytes ∷ []) records answers (count_class class start))
    (AreCounted naming front (bytes ∷ records) answers start)
counted_other naming front records bytes class answers start of was before events is counted = record {
  first = bytes ∷ counted.first;
  rest = counted.rest;
  parts = ap (λ rest. bytes ∷ rest) counted.parts;
  receipt = counted.receipt;
  leads = subst (λ all. LeadsTo naming all counted.receipt was before events is)
      (append_assoc front (bytes ∷ []) counted.first) counted.leads;
  ahead = λ read. counted.ahead read
      ∙ ap (λ class. read_with answers
      (reading_of read (count_ahead (map class_of records) (count_class class start)))) (sym of);
}

-- or of usage
counted_usage : (naming : Naming) (front records : List (List ℕ)) (bytes : List ℕ)
    (answer : Accepted) (later : List Accepted) (start : Receipt) → class_of bytes ≡ Usage
    → Implies
    (AreCounted naming (front ++ bytes ∷ []) records later (count_accepted answer start))
    (AreCounted naming front (bytes ∷ records) (answer ∷ later) start)
counted_usage naming front records bytes answer later start of was before events is counted = record {
  first = bytes ∷ counted.first;
  rest = counted.rest;
  parts = ap (λ rest. bytes ∷ rest) counted.parts;
  receipt = counted.receipt;
  leads = subst (λ all. LeadsTo naming all counted.receipt was before events is)
      (append_assoc front (bytes ∷ []) counted.first) counted.leads;
  ahead = λ read. counted.ahead read
      ∙ ap (λ counts. read_with later (reading_of read counts))
      (commutes (map class_of records) answer start)
      ∙ read_more answer later read (count_ahead (map class_of records) start)
      ∙ ap (λ class. read_with (answer ∷ later)
      (reading_of read (count_ahead (map class_of records) (count_class class start)))) (sym of);
}

-- the next record is counted by its class, and those after it likewise
counts_by_class : (naming : Naming) (bytes : List ℕ) (records front : List (List ℕ))
    (answer : Accepted) (pending : List Accepted) (receipt : Receipt)
    → ((front : List (List ℕ)) (pending : List Accepted) (receipt : Receipt)
    → Implies (Ahead naming front (usage_of records) pending receipt)
    (AreCounted naming front records pending receipt))
    → (class : Class) → class_of bytes ≡ class
    → Implies (Ahead naming front (usage_by class bytes (usage_of records)) (answer ∷ pending) receipt)
    (AreCounted naming front (bytes ∷ records) (answer ∷ pending) receipt)
counts_by_class naming bytes records front answer pending receipt others Usage of was before events is ahead =
    counted_usage naming front records bytes answer pending receipt of was before events is
    (others (front ++ bytes ∷ []) pending (count_accepted answer receipt) was before events is
    (usage_ahead naming front (usage_of records) pending receipt (count_accepted answer receipt) bytes
    answer of refl was before events is ahead))
counts_by_class naming bytes records front answer pending receipt others class of was before events is ahead =
    counted_other naming front records bytes class (answer ∷ pending) receipt of was before events is
    (others (front ++ bytes ∷ []) (answer ∷ pending) (count_class class receipt) was before events is
    (other_ahead naming front (usage_of records) (answer ∷ pending) receipt (count_class class receipt)
    bytes class of (λ is. cc) refl was before events is ahead))

-- all records to which answers were given are counted
pub counts_all : (naming : Naming) (records front : List (List ℕ)) (pending : List Accepted)
    (receipt : Receipt)
    → Implies (Ahead naming front (usage_of records) pending receipt)
    (AreCounted naming front records pending receipt)
counts_all naming records front [] receipt was before events is ahead = record {
  first = [];
  rest = records;
  parts = refl;
  receipt = receipt;
  leads = subst (λ all. LeadsTo naming all receipt was before events is) (sym (append-nil front))
      (then_nothing (LeadsTo naming front receipt) was before events is ahead);
  ahead = λ read. refl;
}
counts_all naming [] front (answer ∷ pending) receipt was before events is ahead = absurd ahead.next
counts_all naming (bytes ∷ records) front (answer ∷ pending) receipt was before events is ahead =
    counts_by_class naming bytes records front answer pending receipt
    (λ front pending receipt. counts_all naming records front pending receipt) (class_of bytes) refl
    was before events is ahead

-- The store failed: the records so far were counted, and some after them may have been kept.
store_among : (naming : Naming) (front : List (List ℕ)) (bytes : List ℕ) (rest later : List (List ℕ))
    (receipt : Receipt) (stop : Stop) → class_of bytes ≡ Usage
    → Implies (Then (LeadsTo naming front receipt) (KeepsFirst naming (bytes ∷ usage_of rest)))
    (Handles naming stop (front ++ ((bytes ∷ rest) ++ later)) (record receipt { stop = Ledger Store }))
store_among naming front bytes rest later receipt stop usage was before events is both =
    let keeps = both.next in
    let open_before : was ≡ false = sym both.first.same ∙ keeps.was_open in
    let first : LeadsTo naming front receipt false before both.early false =
    subst (λ b. LeadsTo naming front receipt b before both.early false) open_before
    (subst (λ between. LeadsTo naming front receipt was before both.early between) keeps.was_open
    both.first) in
    let ahead : Ahead naming front (usage_of (bytes ∷ rest)) keeps.answers receipt false before events
    false =
    subst (λ waiting. Ahead naming front waiting keeps.answers receipt false before events false)
    (sym (usage_one bytes rest usage)) (record {
      between = false;
      early = both.early;
      late = both.late;
      first = first;
      next = keeps.kept;
      all = both.all;
    }) in
    let counted = counts_all naming (bytes ∷ rest) front keeps.answers receipt false before events
    false ahead in
    let kept = front ++ counted.first in
    let all : List (List ℕ) = front ++ ((bytes ∷ rest) ++ later) in
    let parts : kept ++ (counted.rest ++ later) ≡ all =
    append_assoc front counted.first (counted.rest ++ later)
    ∙ ap (λ those. front ++ those) (sym (append_assoc counted.first counted.rest later)
    ∙ ap (λ those. those ++ later) counted.parts) in
    let told = first_told naming front ((bytes ∷ rest) ++ later) receipt (Ledger Store) false before
    both.early false first in
    let made = first_told naming kept (counted.rest ++ later) counted.receipt (Ledger Store) false
    before events false counted.leads in
    store_failed (length front) (length kept) open_before keeps.closed
    (omega (arith, length-append front ((bytes ∷ rest) ++ later))) (
      omega (arith, length-append front counted.first),
      omega (arith, length-append kept (counted.rest ++ later), ap length parts),
    )
    refl
    (ap (λ (one : Imported). one.receipt) told)
    (subst (λ those. (handle_all (answers_of false naming) (Ledger Store) (take (length kept) those)
    (nothing_imported before)).events ≡ events) parts
    (ap (λ (one : Imported). one.events) made))

-- the books took none of those that wait, by the fault
taken_among : (naming : Naming) (front : List (List ℕ)) (bytes : List ℕ) (rest later : List (List ℕ))
    (receipt : Receipt) (stop : Stop) (fault : LedgerFault) → class_of bytes ≡ Usage
    → Implies (Then (LeadsTo naming front receipt) (Takes naming (bytes ∷ usage_of rest) (Err fault)))
    (Handles naming stop (front ++ ((bytes ∷ rest) ++ later)) (record receipt { stop = Ledger fault }))
taken_among naming front bytes rest later receipt stop Store usage was before events is both =
    store_among naming front bytes rest later receipt stop usage was before events is both
taken_among naming front bytes rest later receipt stop fault usage was before events is both =
    stopped_at naming front (rest ++ later) bytes receipt stop fault usage was before events is both

-- The first record that waits was refused: the import is stopped there.
pub stopped_among : (naming : Naming) (front : List (List ℕ)) (bytes : List ℕ)
    (rest : List (List ℕ)) (pending left : List Accepted) (receipt : Receipt) (fault : LedgerFault)
    → class_of bytes ≡ Usage
    → Implies (Then (Ahead naming front (bytes ∷ usage_of rest) pending receipt)
    (Asks naming (bytes ∷ usage_of rest) pending (Err fault) left))
    (StopsAmong naming front (bytes ∷ rest) (record receipt { stop = Ledger fault }))
stopped_among naming front bytes rest pending left receipt fault usage was before events is both stop later =
    taken_among naming front bytes rest later receipt stop fault usage was before events is
    (next_as (fault_left naming (bytes ∷ usage_of rest) pending left fault) was before events is
    (last_two was before events is both))

-- All were counted, and no answer is left.
pub ahead_done : (naming : Naming) (front : List (List ℕ)) (pending : List Accepted)
    (receipt : Receipt)
    → Implies (Ahead naming front [] pending receipt) (LeadsTo naming front receipt)
ahead_done naming front [] receipt was before events is ahead =
    then_nothing (LeadsTo naming front receipt) was before events is ahead
ahead_done naming front (answer ∷ later) receipt was before events is ahead = absurd ahead.next
