-- Texts that are written in part.
use Rattle.std.proofs.Common.{◌≡◌, ◌∙◌, ℕ, ◌<◌, ◌-◌, List, [], ◌∷◌, ◌++◌, length, take, drop, arith}
use Rattle.std.proofs.Common.{refl, sym, ap, subst, append_assoc, append-nil, length-append}
use Rattle.std.proofs.Common.{length-drop, Option, Result, Ok, Err, take-append-drop}
use Rattle.std.proofs.Math.Seq.{take-append_seam}
use Rattle.book_lists.specs.declared.fault.ReportFault.{ReportFault}
use Rattle.book_lists.proofs.Words.{Appends, Appends-nil, Appends-trans, WritesFirst, WritesPrefix}
use Rattle.book_lists.proofs.Words.{WritesUntil}

-- nothing was written
pub none_written : (text : List ℕ) (held : Option (List ℕ)) → WritesFirst text text held held
none_written text held = record { first = []; grown = Appends-nil held; parts = refl }

-- a prefix was written, and the rest of the text was not
pub first_written : (text : List ℕ) (count : ℕ) (held holds : Option (List ℕ))
    → Appends held holds (take count text) → (left : List ℕ) × WritesFirst text left held holds
first_written text count held holds grown = (
  drop count text,
  record { first = take count text; grown = grown; parts = sym (take-append-drop count text) },
)

-- what was written is a prefix of the text
pub is_prefix : (text left : List ℕ) (held holds : Option (List ℕ)) → WritesFirst text left held holds
    → (count : ℕ) × Appends held holds (take count text)
is_prefix text left held holds written = (
  length written.first,
  subst (Appends held holds)
      (sym (ap (take (length written.first)) written.parts
      ∙ take-append_seam written.first left)) written.grown,
)

-- a text goes on with what was not written of it
pub written_of_more : (text left more : List ℕ) (held holds : Option (List ℕ))
    → WritesFirst text left held holds → WritesFirst (text ++ more) (left ++ more) held holds
written_of_more text left more held holds written = record {
  first = written.first;
  grown = written.grown;
  parts = ap (λ b. b ++ more) written.parts ∙ append_assoc written.first left more;
}

-- a part without bytes adds none to what waits
pub none_added : (waits part : List ℕ) (held : Option (List ℕ)) → length part ≡ 0
    → WritesFirst (waits ++ part) waits held held
none_added waits [] held none = record {
  first = [];
  grown = Appends-nil held;
  parts = append-nil waits;
}
none_added waits (byte ∷ part) held none = absurd (omega (arith, none))

-- and then a part of the rest was written too
pub then_written : (text rest left : List ℕ) (held had has : Option (List ℕ))
    → WritesFirst text rest held had → WritesFirst rest left had has → WritesFirst text left held has
then_written text rest left held had has written next = record {
  first = written.first ++ next.first;
  grown = Appends-trans held had has written.first next.first written.grown next.grown;
  parts = written.parts ∙ ap (λ b. written.first ++ b) next.parts
      ∙ sym (append_assoc written.first next.first left);
}

-- the same for another text that is equal
pub written_as : (text other left : List ℕ) (held holds : Option (List ℕ)) → text ≡ other
    → WritesFirst text left held holds → WritesFirst other left held holds
written_as text other left held holds same written =
    subst (λ b. WritesFirst b left held holds) same written

-- a text was written but for what waits, and then of one part more too
pub part_written : (text part more waits left : List ℕ) (held had has : Option (List ℕ))
    → text ++ part ≡ more → WritesFirst text waits held had
    → WritesFirst (waits ++ part) left had has → WritesFirst more left held has
part_written text part more waits left held had has is written next =
    written_as (text ++ part) more left held has is
    (then_written (text ++ part) (waits ++ part) left held had has
    (written_of_more text waits part held had written) next)

-- the rest of a text was written, or a prefix of the rest
pub rest_written : {A : Type 0} (text rest : List ℕ) (held had has : Option (List ℕ))
    (result : Result A ReportFault) → WritesFirst text rest held had
    → WritesPrefix rest had has result → WritesPrefix text held has result
rest_written text rest held had has (Ok done) written grown =
    subst (Appends held has) (sym written.parts)
    (Appends-trans held had has written.first rest written.grown grown)
rest_written text rest held had has (Err fault) written cut =
    let part = first_written rest cut.0 had has cut.1 in
    is_prefix text part.0 held has (then_written text rest part.0 held had has written part.1)

-- ---- what was not written is not empty

pub some_behind : (first next : List ℕ) → 0 < length next → 0 < length (first ++ next)
some_behind first next some = rw length-append (omega arith)

pub some_before : (first next : List ℕ) → 0 < length first → 0 < length (first ++ next)
some_before first next some = rw length-append (omega arith)

-- a part has bytes, or none
pub some_in : (part : List ℕ) → (length part ≡ 0 → ⊥) → 0 < length part
some_in [] some = absurd (some refl)
some_in (byte ∷ part) some = omega arith

some_dropped : (count : ℕ) (text : List ℕ) → count < length text → 0 < length (drop count text)
some_dropped count text few = rw length-drop (omega arith)

-- then what was written is not the whole text
pub is_short : (text left : List ℕ) (held holds : Option (List ℕ)) → 0 < length left
    → WritesFirst text left held holds
    → (count : ℕ) × (count < length text) × Appends held holds (take count text)
is_short text left held holds some written =
    let long : length written.first < length (written.first ++ left) =
    rw length-append (omega arith) in (
      length written.first,
      subst (λ text. length written.first < length text) (sym written.parts) long,
      subst (Appends held holds)
          (sym (ap (take (length written.first)) written.parts
          ∙ take-append_seam written.first left)) written.grown,
    )

-- the rest of a text was written, or a prefix of the rest that is not all of it
pub rest_until : {A : Type 0} (text rest : List ℕ) (held had has : Option (List ℕ))
    (result : Result A ReportFault) → WritesFirst text rest held had
    → WritesUntil rest had has result → WritesUntil text held has result
unfolding first_written
rest_until text rest held had has (Ok done) written grown =
    subst (Appends held has) (sym written.parts)
    (Appends-trans held had has written.first rest written.grown grown)
rest_until text rest held had has (Err fault) written cut =
    let part = first_written rest cut.0 had has cut.2 in
    is_short text part.0 held has (some_dropped cut.0 rest cut.1)
    (then_written text rest part.0 held had has written part.1)
