-- The texts of tariffs that others took the place of, as the list of rulings has them.
use Rattle.std.specs.Prelude.{ℕ, ◌&&◌, ℤ, Bool, if◌then◌else◌, List, Option, Some, None, Ok}
use Rattle.std.specs.Prelude.{filter_map, slice_get}
use Rattle.std.specs.Ordering.{int_eq}
use Rattle.sha2.specs.Sha256.{sha256}
use Rattle.book_model.specs.Words.{Book, Naming, Outcome, ReplacedSeen, RulingSeen, no_event}
use Rattle.book_model.specs.Words.{rulings_listed, same_bytes}

-- a text that was replaced is that of a day which has this SHA-256
abbrev pub is_that : ℤ → List ℕ → ℤ → List ℕ → Bool
is_that day digest first text = int_eq first day && same_bytes (sha256 text) digest

abbrev pub text_if : Bool → List ℕ → Option (List ℕ)
text_if is_it text = if is_it then Some text else None

-- the text of a ruling, where that is such a tariff
abbrev pub replaced_in : ℤ → List ℕ → RulingSeen → Option (List ℕ)
replaced_in day digest (ReplacedSeen first period text) = text_if (is_that day digest first text) text
replaced_in day digest other = None

-- the first of them
abbrev pub first_replaced : ℤ → List ℕ → List RulingSeen → Option (List ℕ)
first_replaced day digest rulings = slice_get (filter_map (replaced_in day digest) rulings) 0

-- what a book has
abbrev pub replaced_text_on : Naming → ℤ → List ℕ → Book → Option (List ℕ)
replaced_text_on naming day digest book =
    first_replaced day digest (rulings_listed naming book.rulings)

abbrev pub replaced_outcome : Naming → ℤ → List ℕ → Book → Outcome (Option (List ℕ))
replaced_outcome naming day digest book = no_event (Ok (replaced_text_on naming day digest book))

-- what was found, or else what a later ruling has
abbrev pub or_later : Option (List ℕ) → Option (List ℕ) → Option (List ℕ)
or_later (Some text) later = Some text
or_later None later = later
