-- Lines that are written up to the first write that fails.
use Rattle.std.proofs.Common.{◌∙◌, Bool, true, false, List, ◌++◌, ℕ, Option, ap, sym, append_assoc}
use Rattle.std.proofs.Common.{drop, take, take-append-drop}
use Rattle.std.proofs.KnownBytes.{Appends-kept, Appends-trans, Keeps-trans}
use Rattle.std.specs.Io.KnownBytes.{Appends}
use Rattle.streams.specs.InputOutput.{WriterSeen}
use Rattle.without_books.specs.ServedLines.{Gains, GainsBy}

then_by : (one two three : Bool) (held has holds : Option (List ℕ)) (first next : List ℕ)
    → GainsBy one two held has first → GainsBy two three has holds next
    → GainsBy one three held holds (first ++ next)
then_by false false false held has holds first next early late =
    Appends-trans held has holds first next early late
then_by false false true held has holds first next early late = record {
  front = first ++ late.front;
  rest = late.rest;
  parts = ap (λ text. first ++ text) late.parts ∙ sym (append_assoc first late.front late.rest);
  grown = Appends-trans held has holds first late.front early late.grown;
}
then_by false true false held has holds first next early never = absurd never
then_by false true true held has holds first next early late = record {
  front = early.front;
  rest = early.rest ++ next;
  parts = ap (λ text. text ++ next) early.parts ∙ append_assoc early.front early.rest next;
  grown = Appends-kept held has holds early.front early.grown late;
}
then_by true false three held has holds first next never late = absurd never
then_by true true false held has holds first next early never = absurd never
then_by true true true held has holds first next early late = Keeps-trans held has holds early late

-- one text, and then another
pub gains_then : (old mid new : WriterSeen) (first next : List ℕ) → Gains old mid first
    → Gains mid new next → Gains old new (first ++ next)
gains_then old mid new first next early late =
    then_by old.has_failed mid.has_failed new.has_failed old.holds mid.holds new.holds first next early
    late

-- a write of the rest of a text failed
pub front_gained : (held after : Option (List ℕ)) (text : List ℕ) (written : ℕ)
    → Appends held after (take written text) → GainsBy false true held after text
front_gained held after text written so_far = record {
  front = take written text;
  rest = drop written text;
  parts = sym (take-append-drop written text);
  grown = so_far;
}
