-- What is held back in dispute, as a ledger answers it by calls that are no event.
use Rattle.std.specs.Prelude.{ℕ, ◌+◌, ◌<◌, ◌^◌, Bool, List, Option, Ok}
use Rattle.std.specs.List.{list_any}
use Rattle.book_model.specs.declared.bill.HeldBack.{HeldBack}
use Rattle.book_model.specs.declared.dispute.Variant.{Variant}
use Rattle.book_model.specs.Words.{Book, Disputed, Naming, Outcome, disputes_in, held_back_in}
use Rattle.book_model.specs.Words.{held_back_of, is_paid_by, no_event}

abbrev pub AllDisputes : Type 0
AllDisputes = List Disputed

-- the centre would pay for some of the records
abbrev pub is_any_paid_by : Option (List ℕ) → List Variant → Bool
is_any_paid_by centre members =
    list_any (λ (member : Variant). is_paid_by centre member.priced) members

-- what is held back with one more dispute of these amounts
abbrev pub with_amounts : HeldBack → ℕ → ℕ → HeldBack
with_amounts held least greatest = record {
  disputes = held.disputes + 1;
  least = held.least + least;
  greatest = held.greatest + greatest;
}

-- 64 bits hold what is held back then
pub record FitsAmounts (held : HeldBack) (least_more greatest_more : ℕ) : Type 0 where
  pub disputes : held.disputes + 1 < 2 ^ 64
  pub least : held.least + least_more < 2 ^ 64
  pub greatest : held.greatest + greatest_more < 2 ^ 64

-- what is held back of the disputes of a book
abbrev pub held_in_outcome : Naming → Option (List ℕ) → Book → Outcome HeldBack
held_in_outcome naming centre book =
    no_event (Ok (held_back_in centre (disputes_in naming book.rulings book.held)))

-- and of a period
abbrev pub held_back_outcome : Naming → ℕ → Option (List ℕ) → Book → Outcome (Option HeldBack)
held_back_outcome naming period centre book =
    no_event (Ok (held_back_of naming book period centre))
