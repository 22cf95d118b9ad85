-- Works that are withheld one after another, in one commit.
use Rattle.std.proofs.Common.{◌≡◌, ◌∙◌, ◌<◌, ◌+◌, ℕ, List, [], ◌∷◌, ◌++◌, Result, Ok, Err, refl}
use Rattle.std.proofs.Common.{sym, ap, subst, false, true, drop, get_or, length, append-nil}
use Rattle.std.proofs.Common.{append_assoc, add-one, drop-cons, IsErr, IfOk, Bool, ◌≤◌, arith}
use Rattle.std.proofs.Common.{inl, inr, Option, Some, None}
use Rattle.book_model.specs.Words.{Book, Event, after_all, Naming, Note, withhold_outcome}
use Rattle.book_core.specs.declared.withheld.Withheld.{Withheld}
use Rattle.book_core.specs.Withholdings.{is_not_held, told_as, with_answer, withheld_of}
use Rattle.book_core.specs.Words.{Calls, IsTransition, LeavesOpen, Makes, NoEvent, Reopens}
use Rattle.book_core.specs.Words.{TakesWorks, Withholds, first_of}
use Rattle.book_core.proofs.TransitionLemmas.{after_all-append}
use Rattle.book_core.proofs.WithholdingLemmas.{more_withheld, none_withheld, refused_work}
use Rattle.tree_rows.proofs.Calls.{only_looks}
use Rattle.table_ledger.proofs.Words.{View, OnlyWrites, StoreError, LedgerFault, Reopen, Ruled}
use Rattle.table_ledger.proofs.Words.{State, HasCleanDisk, Survives, only_both, LedgerState}
use Rattle.table_ledger.proofs.Words.{IsAt, LeavesOne, MakesOf, StagesAs, seen_on}
use Rattle.table_ledger.specs.Attempts.{Ends}
use Rattle.table_ledger.specs.Stages.{IsStaged}
use Rattle.table_ledger.specs.WithheldTogether.{AnswersWorks, LeavesWorks, RefusesName, StagesAsOne}
use Rattle.table_ledger.specs.WithheldTogether.{StagesWorks, WorksOf}
use Rattle.table_ledger.specs.declared.summary.Summary.{Summary}
use Rattle.table_ledger.proofs.ManyLemmas.{open_as, refused_none}
use Rattle.table_ledger.proofs.OneCall.{call_reopen}
use Rattle.table_ledger.proofs.Remembered.{remembers_as}
use Rattle.table_ledger.proofs.ServedWork.{ComesTo}
use Rattle.table_ledger.proofs.StageLemmas.{unstaged}
use Rattle.table_ledger.proofs.StepLemmas.{stands_only}
use Rattle.table_ledger.proofs.SurvivalLemmas.{clean_before, survives_then}
use Rattle.table_ledger.proofs.UnchangedStores.{stands_then}

-- what the books say of a ruling is its answer
abbrev said : Ruled → Ruled
said ruled = ruled

-- a work is staged, with this answer
abbrev IsAnswered : Naming → Option Note → List ℕ → Result Ruled LedgerFault → Summary → View → View → Book → Type 0
IsAnswered naming noted name answer is old new book =
    let outcome = withhold_outcome naming noted name in
    IsStaged (λ tables. tables) (MakesOf said outcome answer) (LeavesOne outcome) naming
    (λ summary. summary ≡ is) old new book

-- the works so far were taken: whatever is taken of the rest, all of it is
pub record AreWithheld (naming : Naming) (noted : Option Note) (names rest : List (List ℕ)) (is : Summary) (old new : View)
    (book : Book) (counts : Withheld) : Type 0 where
  pub answers : List (Option Ruled)
  pub counted : counts ≡ withheld_of answers
  pub events : List Event
  pub leads : (later : List (Option Ruled)) (late : List Event)
      → Withholds naming noted rest later false (after_all events book) late false
      → Withholds naming noted names (answers ++ later) false book (late ++ events) false
  pub only : OnlyWrites old new
  pub at : IsAt naming is new (after_all events book)

-- none was taken yet
pub none_taken : (naming : Naming) (noted : Option Note) (names : List (List ℕ)) {is : Summary} {view : View} {book : Book}
    {counts : Withheld} → IsAt naming is view book → counts ≡ withheld_of []
    → AreWithheld naming noted names names is view view book counts
none_taken naming noted names {view = view} {book = book} at counted = record {
  answers = [];
  counted = counted;
  events = [];
  leads = λ later late made.
      subst (λ events. Withholds naming noted names later false book events false) (sym (append-nil late)) made;
  only = only_looks view refl;
  at = at;
}

-- an answer to a work leaves open books open
stays_open : (answer : Option Ruled) → Reopens (told_as answer) false false
stays_open (Some ruled) = record { reopen = refl; store = refl }
stays_open None = record { reopen = refl; store = refl }

-- one more work was answered and written
more_taken : {naming : Naming} {noted : Option Note} {names rest : List (List ℕ)} {name : List ℕ} {was is : Summary}
    {old middle new : View} {book : Book} {counts : Withheld} (answer : Option Ruled)
    (taken : AreWithheld naming noted names (name ∷ rest) was old middle book counts)
    → IsAnswered naming noted name (told_as answer) is middle new (after_all taken.events book)
    → AreWithheld naming noted names rest is old new book (with_answer counts answer)
more_taken {naming} {noted} {names} {rest} {name} {was} {is} {old} {middle} {new} {book} {counts} answer taken
    staged = record {
      answers = taken.answers ++ answer ∷ [];
      counted = ap (λ (told : Withheld). with_answer told answer) taken.counted
          ∙ more_withheld taken.answers answer;
      events = staged.events ++ taken.events;
      leads = λ later late made.
          subst (λ all. Withholds naming noted names all false book (late ++ (staged.events ++ taken.events)) false)
          (sym (append_assoc taken.answers (answer ∷ []) later))
          (subst (λ events. Withholds naming noted names (taken.answers ++ answer ∷ later) false book events false)
          (append_assoc late staged.events taken.events)
          (taken.leads (answer ∷ later) (late ++ staged.events) (record {
            between = false;
            early = staged.events;
            late = late;
            first = record { makes = staged.made; reopens = stays_open answer };
            next = subst (λ book. Withholds naming noted rest later false book late false)
                (after_all-append staged.events taken.events book) made;
            all = refl;
          })));
      only = only_both old taken.only staged.only;
      at = subst (IsAt naming is new) (sym (after_all-append staged.events taken.events book))
          (record { kept = staged.kept; remembers = staged.remembers is refl });
    }

-- the first of the works are staged: so many were answered, and if none was, this is why
abbrev AreStaged : Naming → Option Note → List (List ℕ) → Summary → View → View → Book → Withheld
    → Result (Unit {0}) LedgerFault → Type 0
AreStaged naming noted names is old new book counts told =
    IsStaged (λ tables. tables) (AnswersWorks naming noted names counts told) (LeavesWorks naming noted names) naming
    (λ summary. summary ≡ is) old new book

-- the works that were taken are staged, and nothing more is
pub all_withheld : {naming : Naming} {noted : Option Note} {names rest : List (List ℕ)} {is : Summary} {old new : View}
    {book : Book} {counts : Withheld} {told : Result (Unit {0}) LedgerFault}
    (taken : AreWithheld naming noted names rest is old new book counts)
    → (Withholds naming noted names taken.answers false book taken.events false → counts.taken ≡ 0
    → RefusesName naming noted names book told)
    → AreStaged naming noted names is old new book counts told
all_withheld {naming = naming} {noted = noted} {names = names} {book = book} {counts = counts} taken why =
    let made : Withholds naming noted names taken.answers false book taken.events false =
    subst (λ all. Withholds naming noted names all false book taken.events false)
    (append-nil taken.answers) (taken.leads [] [] (record { none = refl; same = refl })) in
    record {
      events = taken.events;
      made = record {
        takes = record { answers = taken.answers; made = made; counts = taken.counted };
        none = why made;
      };
      leaves = record { answers = taken.answers; made = made };
      only = taken.only;
      kept = taken.at.kept;
      remembers = λ summary same. remembers_as taken.at.remembers same;
    }

-- the next work was refused, and those before it are staged
refused_next : {naming : Naming} {noted : Option Note} {names rest : List (List ℕ)} {name : List ℕ} {was is : Summary}
    {old middle new : View} {book : Book} {counts : Withheld} (fault : LedgerFault)
    (taken : AreWithheld naming noted names (name ∷ rest) was old middle book counts)
    → LeavesOpen {V = Ruled} (Err fault) → is_not_held fault ≡ false
    → IsAnswered naming noted name (Err fault) is middle new (after_all taken.events book)
    → (counts.taken ≡ 0 → names ≡ name ∷ rest)
    → AreStaged naming noted names is old new book counts (Err fault)
refused_next {naming} {noted} {names} {rest} {name} {was} {is} {old} {middle} {new} {book} {counts} fault taken
    plain held staged all =
    let outcome = withhold_outcome naming noted name (after_all taken.events book) in
    let none : staged.events ≡ [] = refused_none said outcome fault staged.events plain staged.made in
    let still : AreWithheld naming noted names (name ∷ rest) is old new book counts = record {
      answers = taken.answers;
      counted = taken.counted;
      events = taken.events;
      leads = taken.leads;
      only = only_both old taken.only staged.only;
      at = subst (λ events. IsAt naming is new (after_all events (after_all taken.events book))) none
          (record { kept = staged.kept; remembers = staged.remembers is refl });
    } in
    all_withheld {told = Err fault} still (λ made empty.
    let nothing : NoEvent false book taken.events false =
    subst (λ answers. Withholds naming noted names answers false book taken.events false)
    (none_withheld counts taken.answers taken.counted empty) made in
    record {
      held = held;
      refused = subst (λ names. Calls said (withhold_outcome naming noted (first_of names)) (Err fault) false
          book [] false)
          (sym (all empty)) (record {
            makes = subst
                (λ events. Makes said (withhold_outcome naming noted name (after_all events book)) (Err fault)
                [])
                nothing.none
                (subst (λ events. Makes said outcome (Err fault) events) none staged.made);
            reopens = record { reopen = plain.served; store = sym plain.stored };
          });
    })

-- the next name, and those after it
name_is : (names : List (List ℕ)) (i : ℕ) (d : List ℕ) → i < length names
    → drop i names ≡ get_or names i d ∷ drop (i + 1) names
name_is names i d within =
    drop-cons names i d within
    ∙ ap (λ later. get_or names i d ∷ drop later names) (sym (add-one i))

module _ {naming : Naming} {noted : Option Note} (names : List (List ℕ)) {was is : Summary} {old middle : State}
    {counts : Withheld} (i : ℕ) (d : List ℕ) (within : i < length names)
    (early : Survives old middle (λ trees. ⊥))
    (taken : HasCleanDisk middle → (book : Book) → IsAt naming was old.view book
    → AreWithheld naming noted names (drop i names) is old.view middle.view book counts) (new : State)
  where
    -- what was taken before the work
    before_it : HasCleanDisk middle → (book : Book) → IsAt naming was old.view book
        → AreWithheld naming noted names (get_or names i d ∷ drop (i + 1) names) is old.view middle.view book counts
    before_it clean book at =
        subst (λ rest. AreWithheld naming noted names rest is old.view middle.view book counts)
        (name_is names i d within) (taken clean book at)

    -- the work was answered, and its choice written where it is withheld
    pub work_taken : {next : Summary} {given : Result Ruled LedgerFault} (answer : Option Ruled)
        → given ≡ told_as answer
        → StagesAs (λ tables. tables) said naming is next middle new (withhold_outcome naming noted (get_or names i d)) (Ok given)
        → HasCleanDisk new → (book : Book) → IsAt naming was old.view book
        → AreWithheld naming noted names (drop (i + 1) names) next old.view new.view book
        (with_answer counts answer)
    work_taken {next = next} answer given_is stages clean book at =
        let before = before_it (clean_before stages.survives clean) book at in
        more_taken answer before
        (subst (λ given. IsAnswered naming noted (get_or names i d) given next middle.view new.view
        (after_all before.events book)) given_is
        (stages.found clean (after_all before.events book) before.at))

    -- the books refused it, and its record is held
    pub work_refused : {next : Summary} {given : Result Ruled LedgerFault} (fault : LedgerFault)
        → given ≡ Err fault → is_not_held fault ≡ false → counts.taken ≡ i
        → StagesAs (λ tables. tables) said naming is next middle new (withhold_outcome naming noted (get_or names i d)) (Ok given)
        → StagesWorks naming noted names was next old new counts (Ok (Err fault))
    work_refused {next = next} {given = given} fault given_is held count stages =
        let plain : LeavesOpen {V = Ruled} (Err fault) =
        subst (λ (given : Result Ruled LedgerFault). LeavesOpen given) given_is stages.plain in
        record {
          plain = open_as {V = Ruled} {W = Unit {0}} fault plain;
          survives = survives_then early stages.survives;
          found = λ clean book at.
              let before = before_it (clean_before stages.survives clean) book at in
              refused_next fault before plain held
              (subst (λ given. IsAnswered naming noted (get_or names i d) given next middle.view new.view
              (after_all before.events book)) given_is
              (stages.found clean (after_all before.events book) before.at))
              (λ empty. ap (λ n. drop n names) (sym empty ∙ count)
              ∙ name_is names i d within);
        }

    -- the store refused it
    pub work_failed : {next : Summary} {error : StoreError} (late : Withheld)
        (tried : Result (Result (Unit {0}) LedgerFault) StoreError) → IsErr tried
        → StagesAs (λ tables. tables) said naming is next middle new (withhold_outcome naming noted (get_or names i d)) (Err error)
        → StagesWorks naming noted names was next old new late tried
    work_failed late tried failed stages =
        unstaged tried failed (survives_then early stages.survives) (λ clean book at.
        let before = before_it (clean_before stages.survives clean) book at in
        stands_then (stands_only old.view middle.view before.only)
        (stages.found clean (after_all before.events book) before.at))

-- Works that were staged one after another are staged as one: those that were taken,
pub works_staged : {naming : Naming} {noted : Option Note} {names : List (List ℕ)} {was is : Summary} {old new : State}
    {told : Result (Unit {0}) LedgerFault} {counts : Withheld}
    → StagesWorks naming noted names was is old new counts (Ok told)
    → StagesAsOne naming noted names was is old new (Ok (Ok counts))
works_staged stages = record {
  plain = record { stored = refl; served = refl };
  survives = stages.survives;
  found = λ clean book at.
      let staged = stages.found clean book at in
      record {
        events = staged.events;
        made = staged.made.takes;
        leaves = staged.leaves;
        only = staged.only;
        kept = staged.kept;
        remembers = staged.remembers;
      };
}

-- or none, where the first was refused
pub no_work_staged : {naming : Naming} {noted : Option Note} {names : List (List ℕ)} {was is : Summary} {old new : State}
    (fault : LedgerFault) {counts : Withheld} → counts.taken ≡ 0 → 0 < length names
    → StagesWorks naming noted names was is old new counts (Ok (Err fault))
    → StagesAsOne naming noted names was is old new (Ok (Err fault))
no_work_staged {naming} {noted} {names} fault {counts} empty some stages = record {
  plain = open_as {V = Unit {0}} {W = Withheld} fault stages.plain;
  survives = stages.survives;
  found = λ clean book at.
      let staged = stages.found clean book at in
      let takes = staged.made.takes in
      let nothing : NoEvent false book staged.events false =
      subst (λ answers. Withholds naming noted names answers false book staged.events false)
      (none_withheld counts takes.answers takes.counts empty) takes.made in
      record {
        events = staged.events;
        made = subst (λ events. TakesWorks naming noted names (Err fault) false book events false)
            (sym nothing.none)
            (let first = staged.made.none empty in
            refused_work naming noted names fault some first.held false book [] false first.refused);
        leaves = staged.leaves;
        only = staged.only;
        kept = staged.kept;
        remembers = staged.remembers;
      };
}

-- ---- as work of a ledger

-- they come to such work
pub works_come : (naming : Naming) (noted : Option Note) (names : List (List ℕ))
    → ComesTo (WorksOf naming noted names) (LeavesWorks naming noted names) (TakesWorks naming noted names)
works_come naming noted names = record {
  served = λ result book events open_now served made. made;
  wanting = λ book. record { makes = refl; reopens = record { reopen = refl; store = refl } };
  none = λ book. record { answers = []; made = record { none = refl; same = refl } };
  within = λ book events leaves. record {
    was_open = refl;
    closed = refl;
    answers = leaves.answers;
    kept = leaves.made;
  };
}

-- a ledger that is to be reopened takes none
pub works_reopen : (shelf : LedgerState) (naming : Naming) (noted : Option Note) (names : List (List ℕ))
    → shelf.must_reopen ≡ true
    → IsTransition (seen_on shelf) (seen_on shelf) (TakesWorks naming noted names (Err Reopen))
works_reopen shelf naming noted names closed =
    (call_reopen {V = Ruled} {view = said} {outcome = withhold_outcome naming noted (first_of names)} shelf
    closed).work

-- what is so of each answer of what was tried is so of the answer that is given
answer_kept : {V : Type 0} (Is : V → Type 0) (tried : Result (Result V LedgerFault) StoreError)
    (result : Result V LedgerFault) (was is : Bool) (Same Back : Type 0)
    → Ends result was is Same Back tried → IfOk tried (λ answer. IfOk answer Is) → IfOk result Is
answer_kept Is (Ok answer) result was is Same Back ends so =
    subst (λ result. IfOk result Is) (sym ends.0) so
answer_kept Is (Err error) result was is Same Back ends so = elim ends [
  | inl memory ↦ subst (λ result. IfOk result Is) (sym memory.0) tt
  | inr store ↦ subst (λ result. IfOk result Is) (sym store.0) tt
]

-- no more works than the first of some names are no more than all
few_of : (told : Result Withheld LedgerFault) (part all : ℕ) → part ≤ all
    → IfOk told (λ one. one.taken ≤ part) → IfOk told (λ one. one.taken ≤ all)
few_of (Ok told) part all within few = omega (arith, within, few)
few_of (Err fault) part all within few = tt

pub few_taken : (tried : Result (Result Withheld LedgerFault) StoreError)
    (result : Result Withheld LedgerFault) (was is : Bool) (Same Back : Type 0) (part all : ℕ)
    → Ends result was is Same Back tried → part ≤ all
    → IfOk tried (λ answer. IfOk answer (λ (one : Withheld). one.taken ≤ part))
    → IfOk result (λ (one : Withheld). one.taken ≤ all)
few_taken tried result was is Same Back part all ends within few =
    few_of result part all within
    (answer_kept (λ (one : Withheld). one.taken ≤ part) tried result was is Same Back ends few)
