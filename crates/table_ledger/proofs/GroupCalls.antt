-- Records that an import submits together come to work of a ledger.
use Rattle.std.proofs.Common.{◌≡◌, ◌∙◌, ◌<◌, ◌++◌, ◌==◌, ℕ, Bool, List, [], Ok, Err, Option, Result}
use Rattle.std.proofs.Common.{Vec, Global, ap, drop, false, length, refl, subst, sym, take}
use Rattle.std.proofs.Common.{take-append-drop, true, true≢false}
use Rattle.std.proofs.lemmas.List.{map-append}
use Rattle.book_model.proofs.Std.{length-map}
use Rattle.book_model.specs.declared.note.Share.{Share}
use Rattle.book_model.specs.Words.{Book, Event, Naming, accept_outcome, told_by}
use Rattle.book_core.specs.Words.{Accepts, AcceptsOf, IsTransition, TakesOf, first_of, is_store}
use Rattle.book_core.specs.Words.{records_in}
use Rattle.book_core.proofs.SubmissionLemmas.{accepts_further, none_told, takes_part}
use Rattle.book_core.proofs.TransitionLemmas.{Implies}
use Rattle.table_ledger.specs.Stages.{AcceptsFew, LeavesGroup, TakesFew, TakesGroup}
use Rattle.table_ledger.proofs.OneCall.{call_reopen}
use Rattle.table_ledger.proofs.ServedWork.{ComesTo}
use Rattle.table_ledger.proofs.Words.{Accepted, LedgerFault, LedgerState, Reopen, Store, seen_on}

-- ---- as work of a ledger

-- they come to such work
group_served : (naming : Naming) (import : Option Share) (count : ℕ) (records : List (List ℕ))
    (result : Result (Vec Accepted Global) LedgerFault) (book : Book) (events : List Event)
    → is_store result ≡ false → TakesGroup naming import count records result book events
    → TakesFew naming import count records result false book events false
group_served naming import count records (Ok answers) book events open_now made = made
group_served naming import count records (Err Store) book events open_now made =
    absurd (true≢false open_now)
group_served naming import count records (Err fault) book events open_now made = made

pub group_comes : (naming : Naming) (import : Option Share) (count : ℕ) (records : List (List ℕ))
    → ComesTo (TakesGroup naming import count records) (LeavesGroup naming import count records)
    (TakesFew naming import count records)
group_comes naming import count records = record {
  served = λ result book events open_now served made.
      group_served naming import count records result book events open_now made;
  wanting = λ book. record { makes = refl; reopens = record { reopen = refl; store = refl } };
  none = λ book. record {
    answers = [];
    group = record {
      kept = [];
      accepts = record { none = refl; same = refl };
      told = sym (none_told import (0 == count) []);
    };
  };
  within = λ book events leaves. record {
    was_open = refl;
    closed = refl;
    answers = leaves.answers;
    kept = leaves.group;
  };
}

-- A ledger that is to be reopened takes none.
pub group_reopen : (shelf : LedgerState) (naming : Naming) (import : Option Share) (count : ℕ)
    (records : List (List ℕ)) → shelf.must_reopen ≡ true
    → IsTransition (seen_on shelf) (seen_on shelf) (TakesFew naming import count records (Err Reopen))
group_reopen shelf naming import count records closed =
    (call_reopen {V = Accepted} {view = λ (accepted : Accepted). accepted}
    {outcome = accept_outcome naming (first_of records)} shelf closed).work

-- ---- the first of some records

module _ (naming : Naming) (import : Option Share) (records : List (Vec ℕ Global)) (most : ℕ)
    (part : List (Vec ℕ Global)) (is_part : part ≡ take most records) (some : 0 < length part) where
  -- what was accepted of them was accepted of all
  part_accepted : (answers : List Accepted)
      → Implies (Accepts naming (records_in part) answers) (Accepts naming (records_in records) answers)
  part_accepted answers was before events is accepts =
      subst (λ all. Accepts naming all answers was before events is)
      (sym (map-append (λ (one : Vec ℕ Global). one.items) part (drop most records))
      ∙ ap (λ part. records_in (part ++ drop most records)) is_part
      ∙ ap records_in (take-append-drop most records))
      (accepts_further naming (records_in part) (records_in (drop most records)) answers was before
      events is accepts)

  -- all of them are counted
  told_of : (answers : List Accepted) (was : Bool) (before : Book) (events : List Event) (is : Bool)
      → AcceptsFew naming import (length records) (records_in part) answers was before events is
      → AcceptsOf naming import (records_in records) answers was before events is
  told_of answers was before events is few = record {
    kept = few.kept;
    accepts = part_accepted answers was before few.kept is few.accepts;
    told = few.told
        ∙ ap (λ count. told_by import (length answers == count) answers few.kept)
        (sym (length-map records (λ (one : Vec ℕ Global). one.items)));
  }

  -- So a change that is handed the first of some records takes some first of all.
  pub takes_all : (result : Result (Vec Accepted Global) LedgerFault)
      → Implies (TakesFew naming import (length records) (records_in part) result)
      (TakesOf naming import (records_in records) result)
  takes_all (Ok answers) was before events is takes = told_of answers.items was before events is takes
  takes_all (Err Store) was before events is takes = record {
    was_open = takes.was_open;
    closed = takes.closed;
    answers = takes.answers;
    kept = told_of takes.answers false before events false takes.kept;
  }
  takes_all (Err fault) was before events is takes =
      takes_part naming records most part (Err fault) is_part some was before events is takes
