-- The closes of a history: their days, the history and the rulings before each of them, and what
-- each of them charged.
use Rattle.std.proofs.Common.{◌≡◌, ℕ, zero, suc, ◌≤◌, ◌<◌, List, [], ◌∷◌, length, Option, Some}
use Rattle.std.proofs.Common.{None, refl, ap, sym, ◌∙◌, arith, Bool, true, false, ◌++◌, cond, ℤ}
use Rattle.std.proofs.Common.{slice_get}
use Rattle.std.proofs.Common.{filter, nat_le, unwrap_or, option_and_then, lt-ltb, le-ltb, le-leb}
use Rattle.std.proofs.Common.{length-append, append-nil}
use Rattle.std.proofs.lemmas.Bool.{lt-leb}
use Rattle.std.proofs.Math.Seq.{take-length, take-append_seam}
use Rattle.book_model.proofs.Std.{last_or, take-append-le, filter-append, slice_get_past}
use Rattle.book_model.specs.Words.{charged_now, charged_by, Event, PeriodClosed, RulingGiven}
use Rattle.book_model.specs.Words.{rulings, closes, day_of_close, held_before, charged_in, Records}
use Rattle.book_model.specs.Words.{by_bytes, Rulings, Choice, rulings_before, RecordKept}
use Rattle.book_model.specs.Words.{RecordChosen, SecondRuleAdopted, last_close, open_by}
use Rattle.book_model.specs.Words.{CreditGiven, TariffAccepted, TariffReplaced, WorkWithheld}
use Rattle.book_model.specs.Words.{with_named, set_of, ImportBegun, ImportEnded, ImportRead, Note}
use Rattle.book_model.specs.History.{kept, before_close}
use Rattle.book_model.specs.Rulings.{if_before}
use Rattle.book_model.proofs.ListLemmas.{slice_get-front, slice_get-behind, last_or-is}

-- all records that are held at the end of a history
abbrev pub held_after : List Event → Records
held_after history = set_of by_bytes (kept history)

-- a close that did not come has none
pub no_day : (k : ℕ) (history : List Event) → length (closes history) < k
    → day_of_close k history ≡ None
no_day zero history after = refl
no_day (suc k) history after = slice_get_past (closes history) k (omega arith)

-- the history before a close that did not come is all of it
pub before_all : (k : ℕ) (history : List Event) → length (closes history) < k
    → before_close k history ≡ history
before_all k [] after = refl
before_all k (event ∷ older) after = rw (lt-ltb (length (closes (event ∷ older))) k after)

-- so all records are held then
pub held_all : (k : ℕ) (history : List Event) → length (closes history) < k
    → held_before k history ≡ held_after history
held_all k history after = ap (λ before. set_of by_bytes (kept before)) (before_all k history after)

-- a choice that was made before the close that came after the given number of others
abbrev pub made_before : ℕ → Choice → Bool
made_before others choice = nat_le choice.period (suc others)

-- a choice that is made then comes after the others before a close to come
chosen_last : (others : ℕ) (counts : Bool) (bytes : List ℕ) (ruled : Rulings)
    → length ruled.closes ≤ others
    → filter (made_before others) (with_named counts bytes ruled).choices
    ≡ filter (made_before others) ruled.choices
    ++ record { chosen = bytes; counts = counts; period = open_by ruled } ∷ []
chosen_last others counts bytes ruled to_come =
    let choice : Choice = record { chosen = bytes; counts = counts; period = open_by ruled } in
    filter-append (made_before others) ruled.choices (choice ∷ [])
    ∙ ap (λ b. filter (made_before others) ruled.choices ++ cond b (choice ∷ []) [])
    (le-leb (open_by ruled) (suc others) (omega arith))

-- and is not among those before a close that came
chosen_late : (others : ℕ) (counts : Bool) (bytes : List ℕ) (ruled : Rulings)
    → others < length ruled.closes
    → filter (made_before others) (with_named counts bytes ruled).choices
    ≡ filter (made_before others) ruled.choices
chosen_late others counts bytes ruled came =
    let choice : Choice = record { chosen = bytes; counts = counts; period = open_by ruled } in
    filter-append (made_before others) ruled.choices (choice ∷ [])
    ∙ ap (λ b. filter (made_before others) ruled.choices ++ cond b (choice ∷ []) [])
    (lt-leb (open_by ruled) (suc others) (omega arith))
    ∙ append-nil (filter (made_before others) ruled.choices)

-- all choices were made before a close to come
pub choices_all : (others : ℕ) (history : List Event) → length (closes history) ≤ others
    → filter (made_before others) (rulings history).choices ≡ (rulings history).choices
choices_all others [] to_come = refl
choices_all others (PeriodClosed said day ∷ older) to_come =
    let more = length-append (closes older) (day ∷ []) in
    choices_all others older (omega arith)
choices_all others (RulingGiven said (RecordChosen bytes) ∷ older) to_come =
    chosen_last others true bytes (rulings older) to_come
    ∙ ap (λ earlier. earlier
    ++ record { chosen = bytes; counts = true; period = open_by (rulings older) } ∷ [])
    (choices_all others older to_come)
choices_all others (RulingGiven said (WorkWithheld bytes) ∷ older) to_come =
    chosen_last others false bytes (rulings older) to_come
    ∙ ap (λ earlier. earlier
    ++ record { chosen = bytes; counts = false; period = open_by (rulings older) } ∷ [])
    (choices_all others older to_come)
choices_all others (event ∷ older) to_come = choices_all others older to_come

-- a period that was open by then, or is open now
adopted_then : (others period : ℕ) (was : Option ℕ) → period ≤ suc others
    → option_and_then (if_before others) was ≡ was
    → option_and_then (if_before others) (Some (unwrap_or was period)) ≡ Some (unwrap_or was period)
adopted_then others period None early stays =
    ap (λ b. cond b (Some period) None) (le-leb period (suc others) early)
adopted_then others period (Some first) early stays = stays

-- so was the second rule of identity adopted, if it was
adopted_all : (others : ℕ) (history : List Event) → length (closes history) ≤ others
    → option_and_then (if_before others) (rulings history).adopted ≡ (rulings history).adopted
adopted_all others [] to_come = refl
adopted_all others (PeriodClosed said day ∷ older) to_come =
    let more = length-append (closes older) (day ∷ []) in
    adopted_all others older (omega arith)
adopted_all others (RulingGiven said SecondRuleAdopted ∷ older) to_come =
    adopted_then others (open_by (rulings older)) (rulings older).adopted (omega arith)
    (adopted_all others older to_come)
adopted_all others (event ∷ older) to_come = adopted_all others older to_come

-- and an adoption does not come before a close that came
adopted_late : (others period : ℕ) (was : Option ℕ) → suc others < period
    → option_and_then (if_before others) (Some (unwrap_or was period))
    ≡ option_and_then (if_before others) was
adopted_late others period None late =
    ap (λ b. cond b (Some period) None) (lt-leb period (suc others) late)
adopted_late others period (Some first) late = refl

-- all rulings came before a close that comes next
pub rulings_all : (history : List Event)
    → rulings_before (length (closes history)) (rulings history) ≡ rulings history
rulings_all history =
    let all : ℕ = length (closes history) in
    let days = take-length (closes history) in
    let chosen = choices_all all history (omega arith) in
    let rule = adopted_all all history (omega arith) in
    λ i. record {
      tariffs = (rulings history).tariffs;
      closes = days i;
      choices = chosen i;
      adopted = rule i;
      replaced = (rulings history).replaced;
      credits = (rulings history).credits;
    }

-- what is charged at the end of the open period is what is charged now
pub charged_open : (history : List Event)
    → charged_in (suc (length (closes history))) history
    ≡ charged_now (rulings history) (held_after history)
charged_open history =
    let next : ℕ = suc (length (closes history)) in
    let after : length (closes history) < next = omega arith in
    let ruled = rulings_all history in
    let day = no_day next history after in
    let held = held_all next history after in
    λ i. charged_by (ruled i) (day i) (held i)

-- one close more
pub closed_once_more : (said : Option Note) (day : ℤ) (older : List Event)
    → length (closes (PeriodClosed said day ∷ older)) ≡ suc (length (closes older))
closed_once_more said day older = omega (arith, length-append (closes older) (day ∷ []))

-- an event takes away no close
closes_stay : (event : Event) (older : List Event)
    → length (closes older) ≤ length (closes (event ∷ older))
closes_stay (PeriodClosed said day) older = omega (arith, closed_once_more said day older)
closes_stay event older = omega arith

-- right after a close, its day is that of its number
pub day_closed : (said : Option Note) (day : ℤ) (older : List Event)
    → day_of_close (suc (length (closes older))) (PeriodClosed said day ∷ older) ≡ Some day
day_closed said day older = slice_get-behind (closes older) day

-- a number's day among some days, from 1
abbrev day_at : ℕ → List ℤ → Option ℤ
day_at zero days = None
day_at (suc k) days = slice_get days k

-- the day of a close by the list of days
day_of_close-at : (k : ℕ) (history : List Event)
    → day_of_close k history ≡ day_at k (closes history)
day_of_close-at zero history = refl
day_of_close-at (suc k) history = refl

-- the last of some days is that of the number of all
last-at : (days : List ℤ) → last_or None days ≡ day_at (length days) days
last-at [] = refl
last-at (day ∷ days) = last_or-is day days

-- the last close is the one with the number of all closes
pub last_close-is : (history : List Event)
    → last_close (rulings history) ≡ day_of_close (length (closes history)) history
last_close-is history = last-at (closes history)
    ∙ sym (day_of_close-at (length (closes history)) history)

-- an event changes no day of a close before it
pub day_stays : (k : ℕ) (event : Event) (older : List Event) → k ≤ length (closes older)
    → day_of_close k (event ∷ older) ≡ day_of_close k older
day_stays zero event older came = refl
day_stays (suc k) (PeriodClosed said day) older came =
    slice_get-front (closes older) day k (omega arith)
day_stays (suc k) event older came = refl

-- nor the history before a close that came, or comes with it
before_stays : (k : ℕ) (event : Event) (older : List Event) → k ≤ length (closes (event ∷ older))
    → before_close k (event ∷ older) ≡ before_close k older
before_stays k event older came = rw (le-ltb (length (closes (event ∷ older))) k came)

-- nor which records were held then
pub held_stays : (k : ℕ) (event : Event) (older : List Event) → k ≤ length (closes (event ∷ older))
    → held_before k (event ∷ older) ≡ held_before k older
held_stays k event older came =
    ap (λ before. set_of by_bytes (kept before)) (before_stays k event older came)

-- who is charged does not hang on the tariffs and the credits
charged_by-tariffs : (ruled other : Rulings) (day : Option ℤ) (held : Records)
    → charged_by (record ruled {
      tariffs = other.tariffs;
      replaced = other.replaced;
      credits = other.credits;
    }) day held ≡ charged_by ruled day held
charged_by-tariffs ruled other None held = refl
charged_by-tariffs ruled other (Some day) held = refl

-- an event changes of the rulings before a close that came the tariffs and the credits alone
pub ruled_stays : (k : ℕ) (event : Event) (older : List Event) → k < length (closes older)
    → rulings_before k (rulings (event ∷ older))
    ≡ record (rulings_before k (rulings older)) {
      tariffs = (rulings (event ∷ older)).tariffs;
      replaced = (rulings (event ∷ older)).replaced;
      credits = (rulings (event ∷ older)).credits;
    }
ruled_stays k (PeriodClosed said day) older came =
    ap (λ days. record (rulings_before k (rulings older)) { closes = days })
    (take-append-le k (closes older) (day ∷ []) (omega arith))
ruled_stays k (RulingGiven said (RecordChosen bytes)) older came =
    ap (λ chosen. record (rulings_before k (rulings older)) { choices = chosen })
    (chosen_late k true bytes (rulings older) came)
ruled_stays k (RulingGiven said (WorkWithheld bytes)) older came =
    ap (λ chosen. record (rulings_before k (rulings older)) { choices = chosen })
    (chosen_late k false bytes (rulings older) came)
ruled_stays k (RulingGiven said SecondRuleAdopted) older came =
    ap (λ rule. record (rulings_before k (rulings older)) { adopted = rule })
    (adopted_late k (open_by (rulings older)) (rulings older).adopted (omega arith))
ruled_stays k (RecordKept bytes) older came = refl
ruled_stays k (ImportBegun note) older came = refl
ruled_stays k (ImportRead reading) older came = refl
ruled_stays k (ImportEnded ending) older came = refl
ruled_stays k (RulingGiven said (TariffAccepted text terms)) older came = refl
ruled_stays k (RulingGiven said (TariffReplaced text terms)) older came = refl
ruled_stays k (RulingGiven said (CreditGiven centre amount reason)) older came = refl

-- so an event does not change who was charged at the end of a period before it
pub charged_stays : (k : ℕ) (event : Event) (older : List Event) → k ≤ length (closes older)
    → charged_in k (event ∷ older) ≡ charged_in k older
charged_stays zero event older came = refl
charged_stays (suc k) event older came =
    let more = closes_stay event older in
    let ruled = ruled_stays k event older (omega arith) in
    let day = day_stays (suc k) event older came in
    let held = held_stays (suc k) event older (omega arith) in
    (λ i. charged_by (ruled i) (day i) (held i))
    ∙ charged_by-tariffs (rulings_before k (rulings older)) (rulings (event ∷ older))
    (day_of_close (suc k) older) (held_before (suc k) older)

-- the rulings before a close are all that there were when it came
pub rulings_closed : (said : Option Note) (day : ℤ) (older : List Event)
    → rulings_before (length (closes older)) (rulings (PeriodClosed said day ∷ older)) ≡ rulings older
rulings_closed said day older =
    let all : ℕ = length (closes older) in
    let days = take-append_seam (closes older) (day ∷ []) in
    let chosen = choices_all all older (omega arith) in
    let rule = adopted_all all older (omega arith) in
    λ i. record {
      tariffs = (rulings older).tariffs;
      closes = days i;
      choices = chosen i;
      adopted = rule i;
      replaced = (rulings older).replaced;
      credits = (rulings older).credits;
    }
