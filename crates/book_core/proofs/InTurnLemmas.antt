-- Works on books, one after another: what each leaves, all of them leave. Sessions on files, and lives of
-- ledgers, are such works.
use Rattle.std.proofs.Common.{◌<◌, ℕ, zero, suc, Bool, false, List, [], ◌++◌, arith, refl}
use Rattle.book_model.specs.Words.{Book, Event, after_all}
use Rattle.book_core.specs.InTurn.{MakeInTurn}
use Rattle.book_core.specs.Transition.{Transition}

-- after these events work makes more of a book, and then this is so
pub record Adds (Work : Transition) (start : Book) (At : List Event → Type 0) (early : List Event)
    : Type 0 where
  pub late : List Event
  pub is : Bool
  pub made : Work false (after_all early start) late is
  pub left : At (late ++ early)

-- so many works made these events, and this is so
pub record AllAdd (work : ℕ → Transition) (start : Book) (count : ℕ) (At : List Event → Type 0)
    : Type 0 where
  pub events : List Event
  pub made : MakeInTurn work count start events
  pub left : At events

pub below_next : (number count : ℕ) → number < count → number < suc count
below_next number count below = omega (arith, below)

pub last_below : (count : ℕ) → count < suc count
last_below count = omega arith

-- `At` says of a number what is so before the work of this number, by the events so far. What a work
-- adds may be known, or only that there is something: so `May` says.
module _ (May : Type 0 → Type 0) (known : (A : Type 0) → A → May A)
    (go_on : (A B : Type 0) → May A → (A → May B) → May B)
    (work : ℕ → Transition) (start : Book) (At : ℕ → List Event → Type 0)
  where
    abbrev Next : ℕ → List Event → Type 0
    Next number early = Adds (work number) start (At (suc number)) early

    abbrev All : ℕ → Type 0
    All count = AllAdd work start count (At count)

    pub in_turn : (count : ℕ) → At 0 []
        → ((number : ℕ) → number < count → (early : List Event) → At number early
        → May (Next number early))
        → May (All count)
    in_turn zero first each = known (All zero) (record { events = []; made = refl; left = first })
    in_turn (suc count) first each =
        go_on (All count) (All (suc count))
        (in_turn count first (λ number below. each number (below_next number count below)))
        λ before. go_on (Next count before.events) (All (suc count))
        (each count (last_below count) before.events before.left)
        λ one. known (All (suc count)) (record {
          events = one.late ++ before.events;
          made = (before.events, one.late, one.is, before.made, one.made, refl);
          left = one.left;
        })
