-- What books hold after an import in which they refused no record.
use Rattle.std.proofs.Common.{◌≡◌, ◌∙◌, ℕ, List, [], ◌∷◌, ◌++◌, refl, sym, ap, subst}
use Rattle.std.proofs.Common.{Bool, true, false, true≢false, cond, ◌&&◌, ◌||◌, Option, Some, None}
use Rattle.std.proofs.Common.{is_some, Result, Ok, Err}
use Rattle.std.specs.Prelude.{if◌then◌else◌, filter, IfOk}
use Rattle.std.specs.FinMap as map
use Rattle.std.specs.Ordering.{eq_by_cmp}
use Rattle.std.proofs.Math.Bool.{or-false, or_comm, or_assoc}
use Rattle.std.proofs.lemmas.Cmp.{nat_list_cmp_total}
use Rattle.std.proofs.lemmas.Map.Lookups.{exact_bytes}
use Rattle.std.proofs.lemmas.Map.Views.{tells_apart}
use Rattle.tariff_rules.specs.declared.priced.Priced.{Priced}
use Rattle.smf_type30.specs.declared.record_class.Class.{Class}
use Rattle.smf_type30.specs.declared.record_class.Class.TheVariants.{Usage}
use Rattle.book_model.specs.Words.{class_of, Book, Records, Naming, by_bytes, Rulings, price_in}
use Rattle.book_model.specs.Words.{set_of, has, those, clashes, is_full, accept_priced}
use Rattle.book_model.specs.Words.{RecordKept, accept_event, accept_outcome, after, change_newest}
use Rattle.book_model.specs.Words.{keep_in}
use Rattle.book_model.specs.JournalLaws.{unjournaled}
use Rattle.book_model.specs.declared.answer.Accepted.{Accepted}
use Rattle.book_model.specs.declared.answer.Accepted.TheVariants.{Kept, Known}
use Rattle.book_model.specs.declared.fault.LedgerFault.{LedgerFault}
use Rattle.book_model.specs.declared.fault.LedgerFault.TheVariants.{Full, DigestClash}
use Rattle.book_model.proofs.SetLemmas.{has-with, same_set, those-set_of}
use Rattle.book_model.specs.declared.note.Stop.{Stop}
use Rattle.book_import.specs.Handled.{Imported, after_answer, handle_by, handle, continue_with, handle_all}
use Rattle.book_import.specs.Handled.{nothing_imported}
use Rattle.book_import.specs.Laws.{is_class_of_usage, is_priced_usage, priced_usage, IsUnrefused}
use Rattle.book_import.specs.Laws.{import_of_records, book_after_import, HoldsMore, HoldsWhatCame}
use Rattle.book_import.specs.Laws.{DumpRead, all_records, book_after_dumps, AreUnrefused}
use Rattle.book_import.specs.Laws.{CutsMakeNoDifference}
use Rattle.book_import.proofs.BookLemmas.{left_is}

-- two records are equal
abbrev pub is_same : List ℕ → List ℕ → Bool
is_same = eq_by_cmp by_bytes

-- A record was submitted: the new book holds it too if it counts, and nothing else is different but
-- the journal: that stays where the record is not new, and where it has no entry.
pub record HoldsIt (counts : Bool) (bytes : List ℕ) (old new : Book) : Type 0 where
  pub held : (other : List ℕ)
      → has new.held other ≡ (has old.held other || (counts && is_same other bytes))
  pub rulings : new.rulings ≡ old.rulings
  pub posted : new.posted ≡ old.posted
  pub past : new.past ≡ old.past
  pub noted : (counts ≡ true → has old.held bytes ≡ true) → new.journal ≡ old.journal
  pub empty : old.journal ≡ [] → new.journal ≡ []

-- a record that does not count, if the book stays
stays_without : (bytes : List ℕ) (book : Book) → HoldsIt false bytes book book
stays_without bytes book =
    record {
      held = λ other. sym (or-false (has book.held other));
      rulings = refl;
      posted =
          refl;
      past = refl;
      noted = λ there. refl;
      empty = λ none. none;
    }

-- what is at a place is there already, if it counts only at that place
there_already : (counts same is : Bool) → (same ≡ true → is ≡ true) → is ≡ (is || (counts && same))
there_already counts same true there = refl
there_already true true false there = there refl
there_already true false false there = refl
there_already false same false there = refl

-- a record that is held already, if the book stays
stays_with : (counts : Bool) (bytes : List ℕ) (book : Book) → has book.held bytes ≡ true
    → HoldsIt counts bytes book book
stays_with counts bytes book holds = record {
  held = λ other.
      there_already counts (is_same other bytes) (has book.held other)
      (λ same. ap (has book.held) (tells_apart exact_bytes other bytes same) ∙ holds);
  rulings = refl;
  posted = refl;
  past = refl;
  noted = λ there. refl;
  empty = λ none. none;
}

-- a record that is kept
is_kept : (bytes : List ℕ) (book : Book) → has book.held bytes ≡ false
    → HoldsIt true bytes book (after (RecordKept bytes) book)
is_kept bytes book new = record {
  held = λ other.
      has-with nat_list_cmp_total book.held bytes other
      ∙ or_comm (is_same other bytes) (has book.held other);
  rulings = refl;
  posted = refl;
  past = refl;
  noted = λ there. absurd (true≢false (sym (there refl) ∙ new));
  empty = ap (change_newest (keep_in bytes));
}

-- the answer to a usage record, by whether it is held, whether another has its name, and its price
abbrev pub answer_by : Book → Bool → Bool → Option Priced → Result Accepted LedgerFault
answer_by book known clash price =
    if known then Ok Known else if clash then Err DigestClash else accept_priced book price

-- a usage record was submitted, and this was the answer
abbrev pub answered : List ℕ → Imported → Result Accepted LedgerFault → Result Imported LedgerFault
answered bytes so_far answer = after_answer so_far (accept_event bytes answer) answer

-- a usage record that the books do not refuse counts if it has a price
usage_handled : (bytes : List ℕ) (so_far : Imported) (known clash : Bool) (price : Option Priced)
    → has so_far.book.held bytes ≡ known
    → IfOk (answered bytes so_far (answer_by so_far.book known clash price))
    (λ next. HoldsIt (is_some price) bytes so_far.book next.book)
usage_handled bytes so_far true clash price holds =
    stays_with (is_some price) bytes so_far.book holds
usage_handled bytes so_far false true price new = tt
usage_handled bytes so_far false false None new = stays_without bytes so_far.book
usage_handled bytes so_far false false (Some priced) new =
    elim (is_full so_far.book priced.amount) as (λ full.
    IfOk (answered bytes so_far (if full then Err Full else Ok Kept))
    (λ next. HoldsIt true bytes so_far.book next.book)) [
      | true ↦ tt
      | false ↦ is_kept bytes so_far.book new
    ]

-- a record of a class counts if the class is that of usage records, and it has a price
abbrev pub is_priced_by : Class → Rulings → List ℕ → Bool
is_priced_by class rulings bytes = is_class_of_usage class && is_some (price_in rulings bytes)

-- a record that the books do not refuse counts if it is usage and has a price
pub one_handled : (naming : Naming) (bytes : List ℕ) (so_far : Imported) (class : Class)
    → IfOk (handle_by (accept_outcome naming) bytes so_far class)
    (λ next. HoldsIt (is_priced_by class so_far.book.rulings bytes) bytes so_far.book next.book)
one_handled naming bytes so_far Usage =
    usage_handled bytes so_far (has so_far.book.held bytes) (clashes naming so_far.book.held bytes)
    (price_in so_far.book.rulings bytes) refl
one_handled naming bytes so_far class = stays_without bytes so_far.book

-- what is among the priced usage records of a list: its first, if it is one, and those of the rest
has-first : (rulings : Rulings) (bytes : List ℕ) (rest : List (List ℕ)) (other : List ℕ)
    → has (priced_usage rulings (bytes ∷ rest)) other
    ≡ ((is_priced_usage rulings bytes && is_same other bytes)
    || has (priced_usage rulings rest) other)
has-first rulings bytes rest other =
    let passing : List (List ℕ) = filter (is_priced_usage rulings) rest in
    elim (is_priced_usage rulings bytes) as (λ counts.
    has (set_of by_bytes (cond counts (bytes ∷ passing) passing)) other
    ≡ ((counts && is_same other bytes) || has (priced_usage rulings rest) other)) [
      | true ↦ has-with nat_list_cmp_total (priced_usage rulings rest) bytes other
      | false ↦ refl
    ]

-- one record and then the rest: the books hold what came of all of them
then_rest : (bytes : List ℕ) (rest : List (List ℕ)) {old between new : Book}
    → HoldsIt (is_priced_usage old.rulings bytes) bytes old between
    → HoldsMore (priced_usage between.rulings rest) between new
    → HoldsMore (priced_usage old.rulings (bytes ∷ rest)) old new
then_rest bytes rest {old} {between} one more = record {
  held = λ other.
      more.held other
      ∙ ap (λ rulings. has between.held other || has (priced_usage rulings rest) other) one.rulings
      ∙ ap (λ b. b || has (priced_usage old.rulings rest) other) (one.held other)
      ∙ or_assoc (has old.held other) (is_priced_usage old.rulings bytes && is_same other bytes)
      (has (priced_usage old.rulings rest) other)
      ∙ ap (λ b. has old.held other || b) (sym (has-first old.rulings bytes rest other));
  rulings = more.rulings ∙ one.rulings;
  posted = more.posted ∙ one.posted;
  past = more.past ∙ one.past;
  empty = λ none. more.empty (one.empty none);
}

-- after no record the books hold what they held
none_came : (book : Book) → HoldsMore (priced_usage book.rulings []) book book
none_came book = record {
  held = λ other.
      let nothing : has (priced_usage book.rulings []) other
      ≡ false = ap is_some (map.get-empty by_bytes other) in
      sym (ap (λ b. has book.held other || b) nothing ∙ or-false (has book.held other));
  rulings = refl;
  posted = refl;
  past = refl;
  empty = λ none. none;
}

-- from any point of an import on, the books hold what came, if they refuse no record
holds_from : (naming : Naming) (stop : Stop) (records : List (List ℕ)) (so_far : Imported)
    → IsUnrefused (handle_all (accept_outcome naming) stop records so_far)
    → HoldsMore (priced_usage so_far.book.rulings records) so_far.book
    (handle_all (accept_outcome naming) stop records so_far).book
holds_from naming stop [] so_far unrefused = none_came so_far.book
holds_from naming stop (bytes ∷ rest) so_far unrefused =
    let later : Imported → Imported = handle_all (accept_outcome naming) stop rest in
    elim (handle (accept_outcome naming) bytes so_far) as (λ handled.
    IfOk handled
    (λ next. HoldsIt (is_priced_usage so_far.book.rulings bytes) bytes so_far.book next.book)
    → IsUnrefused (continue_with later so_far handled)
    → HoldsMore (priced_usage so_far.book.rulings (bytes ∷ rest)) so_far.book
    (continue_with later so_far handled).book) [
      | Ok next ↦ λ one unrefused.
          then_rest bytes rest one (holds_from naming stop rest next unrefused)
      | Err fault ↦ λ one unrefused. absurd (true≢false unrefused)
    ] (one_handled naming bytes so_far (class_of bytes)) unrefused

-- the law
pub holds_what_came : HoldsWhatCame
holds_what_came naming before stop records unrefused =
    subst (HoldsMore (priced_usage before.rulings records) before)
    (left_is naming before stop records)
    (holds_from naming stop records (nothing_imported before) unrefused)

-- what is among the priced usage records of two lists
has-both : (rulings : Rulings) (records later : List (List ℕ)) (other : List ℕ)
    → has (priced_usage rulings (records ++ later)) other
    ≡ (has (priced_usage rulings records) other || has (priced_usage rulings later) other)
has-both rulings [] later other =
    let nothing : has (priced_usage rulings []) other
    ≡ false = ap is_some (map.get-empty by_bytes other) in
    sym (ap (λ b. b || has (priced_usage rulings later) other) nothing)
has-both rulings (bytes ∷ rest) later other =
    let this = is_priced_usage rulings bytes && is_same other bytes in
    has-first rulings bytes (rest ++ later) other
    ∙ ap (λ b. this || b) (has-both rulings rest later other)
    ∙ sym (or_assoc this (has (priced_usage rulings rest) other)
    (has (priced_usage rulings later) other))
    ∙ ap (λ b. b || has (priced_usage rulings later) other)
    (sym (has-first rulings bytes rest other))

-- a dump and then others: the books hold what came of all of them
then_later : (records later : List (List ℕ)) {old between new : Book}
    → HoldsMore (priced_usage old.rulings records) old between
    → HoldsMore (priced_usage between.rulings later) between new
    → HoldsMore (priced_usage old.rulings (records ++ later)) old new
then_later records later {old} {between} one more = record {
  held = λ other.
      more.held other
      ∙ ap (λ rulings. has between.held other || has (priced_usage rulings later) other) one.rulings
      ∙ ap (λ b. b || has (priced_usage old.rulings later) other) (one.held other)
      ∙ or_assoc (has old.held other) (has (priced_usage old.rulings records) other)
      (has (priced_usage old.rulings later) other)
      ∙ ap (λ b. has old.held other || b) (sym (has-both old.rulings records later other));
  rulings = more.rulings ∙ one.rulings;
  posted = more.posted ∙ one.posted;
  past = more.past ∙ one.past;
  empty = λ none. more.empty (one.empty none);
}

-- after dumps of which no record was refused, the books hold what came of all of them
holds_dumps : (naming : Naming) (before : Book) (dumps : List DumpRead)
    → AreUnrefused naming before dumps
    → HoldsMore (priced_usage before.rulings (all_records dumps)) before
    (book_after_dumps naming before dumps)
holds_dumps naming before [] unrefused = none_came before
holds_dumps naming before (dump ∷ later) unrefused =
    then_later dump.records (all_records later)
    (holds_what_came naming before dump.stop dump.records unrefused.0)
    (holds_dumps naming (book_after_import naming before dump.stop dump.records) later unrefused.1)

-- lists with one set have one set of priced usage records
same_priced : (rulings : Rulings) (records others : List (List ℕ))
    → set_of by_bytes records ≡ set_of by_bytes others
    → priced_usage rulings records ≡ priced_usage rulings others
same_priced rulings records others same =
    let priced : List ℕ → Bool = is_priced_usage rulings in
    sym (those-set_of nat_list_cmp_total exact_bytes priced records)
    ∙ ap (those priced) same
    ∙ those-set_of nat_list_cmp_total exact_bytes priced others

-- only one book, but for the journal, holds that much more than another, with nothing else different
same_book : {records : Records} {before one other : Book} → HoldsMore records before one
    → HoldsMore records before other → unjournaled one ≡ unjournaled other
same_book {one} {other} first second =
    let each = λ (bytes : List ℕ). first.held bytes ∙ sym (second.held bytes) in
    let held = same_set nat_list_cmp_total exact_bytes one.held other.held each in
    λ i. record {
      rulings = (first.rulings ∙ sym second.rulings) i;
      held = held i;
      posted = (first.posted ∙ sym second.posted) i;
      past = (first.past ∙ sym second.past) i;
      journal = [];
    }

-- the law
pub cuts_make_no_difference : CutsMakeNoDifference
cuts_make_no_difference naming before dumps others same unrefused other_unrefused =
    let after : Book = book_after_dumps naming before others in
    let first = holds_dumps naming before dumps unrefused in
    let second = holds_dumps naming before others other_unrefused in
    let priced = sym (same_priced before.rulings (all_records dumps) (all_records others) same) in
    same_book first (subst (λ came. HoldsMore came before after) priced second)

-- The same for two dumps, each in one import. Where there is no entry, none comes.
pub one_import_each : (naming : Naming) (before : Book) (stop other_stop : Stop)
    (records others : List (List ℕ)) → before.journal ≡ []
    → set_of by_bytes records ≡ set_of by_bytes others
    → IsUnrefused (import_of_records naming before stop records)
    → IsUnrefused (import_of_records naming before other_stop others)
    → book_after_import naming before stop records ≡ book_after_import naming before other_stop others
one_import_each naming before stop other_stop records others none same unrefused other_unrefused =
    let after : Book = book_after_import naming before other_stop others in
    let first = holds_what_came naming before stop records unrefused in
    let priced = sym (same_priced before.rulings records others same) in
    let second = subst (λ came. HoldsMore came before after) priced
    (holds_what_came naming before other_stop others other_unrefused) in
    let alike = same_book first second in
    let noted = first.empty none ∙ sym (second.empty none) in
    λ i. record (alike i) { journal = noted i }
