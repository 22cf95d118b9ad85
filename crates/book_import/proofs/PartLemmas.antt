-- How a joiner goes through a piece of a dump of which it is fed a part at a time.
use Rattle.std.proofs.Common.{◌≡◌, ◌∙◌, ℕ, ◌<◌, ◌≤◌, Bool, true, false, List, [], ◌∷◌, ◌++◌, length}
use Rattle.std.proofs.Common.{take, drop, refl, sym, ap, subst, arith, Ok, Err, Some, None, true≢false}
use Rattle.std.proofs.Common.{append_assoc, append-nil, length-drop}
use Rattle.std.specs.Prelude.{◌==◌, is_some}
use Rattle.std.proofs.lemmas.Bool.{eqb-true}
use Rattle.std.proofs.lemmas.List.{drop-append-le, drop_all, length-take, take-append-drop}
use Rattle.smf_frames.specs.declared.fault.FrameFault.{FrameFault}
use Rattle.book_model.specs.Words.{Front, front, Joining, HasTaken, broken_by, released, Feeds}
use Rattle.book_import.specs.Pieces.{TakesAll}
use Rattle.book_import.proofs.FeedLemmas.{Doing, Goes, all_done, breaks, broken_done, goes_on}
use Rattle.book_import.proofs.FeedLemmas.{takes_all}

-- what has no length is nothing
pub nothing_left : {none : Bool} (left : List ℕ) → none ≡ (length left == 0) → none ≡ true → left ≡ []
nothing_left [] told is = refl
nothing_left (byte ∷ left) told is =
    absurd (omega (arith, eqb-true (length (byte ∷ left)) 0 (sym told ∙ is)))

-- and what has some is something
something_left : {none : Bool} (left : List ℕ) → none ≡ (length left == 0) → none ≡ false
    → 0 < length left
something_left [] told is = absurd (true≢false (sym told ∙ is))
something_left (byte ∷ left) told is = omega arith

-- no more is left than there was
pub no_longer : (n : ℕ) (rest : List ℕ) {later : List ℕ} → later ≡ drop n rest
    → length later ≤ length rest
no_longer n rest is = omega (arith, ap length is, length-drop n rest)

-- what was taken of a part was there
pub part_within : {n : ℕ} (most : ℕ) (rest : List ℕ) {part : List ℕ} → part ≡ take most rest
    → n ≤ length part → n ≤ length rest
part_within most rest part_is within =
    omega (arith, within, ap length part_is, length-take most rest)

-- so far in a piece, of whose rest this part is fed
module _ (most : ℕ) {old joiner : Joining} {piece rest part : List ℕ} {Done : Doing}
    (goes : Goes old piece rest joiner Done) (part_is : part ≡ take most rest) where
  -- and so far in what ends with the part
  in_part : Goes old (goes.seen ++ part) part joiner Done
  in_part = record {
    seen = goes.seen;
    parts = refl;
    none = goes.none;
    layout_is = goes.layout_is;
    stands = goes.stands;
    done = goes.done;
  }

  rest_is : part ++ drop most rest ≡ rest
  rest_is = ap (λ b. b ++ drop most rest) part_is ∙ take-append-drop most rest

  piece_is : (goes.seen ++ part) ++ drop most rest ≡ piece
  piece_is =
      append_assoc goes.seen part (drop most rest) ∙ ap (λ b. goes.seen ++ b) rest_is ∙ goes.parts

  -- what is left of the rest is what is left of the part, and what comes after it
  left_is : (n : ℕ) → n ≤ length part → drop n rest ≡ drop n part ++ drop most rest
  left_is n within =
      ap (λ b. drop n b) (sym rest_is) ∙ drop-append-le n part (drop most rest) within

  -- so far in what ends with the part is so far in the piece
  widen : {new : Joining} {Next : Doing} (left later : List ℕ)
      → Goes old (goes.seen ++ part) left new Next → later ≡ left ++ drop most rest
      → Goes old piece later new Next
  widen left later so later_is = record {
    seen = so.seen;
    parts = ap (λ b. so.seen ++ b) later_is ∙ sym (append_assoc so.seen left (drop most rest))
        ∙ ap (λ b. b ++ drop most rest) so.parts ∙ piece_is;
    none = so.none;
    layout_is = so.layout_is;
    stands = so.stands;
    done = so.done;
  }

  -- a record that the part completes took bytes of it: less is left
  pub part_shorter : {mid : Joining} {n : ℕ} {one later : List ℕ} → Feeds joiner part (Ok n) mid
      → Some one ≡ mid.ready → later ≡ drop n rest → (text : List ℕ) × HasTaken text old
      → length later < length rest
  part_shorter {n = n} fed one_is later_is stood =
      let moves : 0 < n = fed.moves (stood.0 ++ goes.seen) (goes.stands stood.0 stood.1) goes.none
      (sym (ap (λ s. is_some s) one_is)) in
      let within : n ≤ length rest = part_within most rest part_is fed.within in
      omega (arith, moves, within, ap length later_is, length-drop n rest)

  -- more was done with a record that the part completes, which is then dropped
  pub part_goes_on : {mid new : Joining} {n : ℕ} {one later : List ℕ} {Next : Doing}
      → Feeds joiner part (Ok n) mid → Some one ≡ mid.ready → later ≡ drop n rest
      → new ≡ released mid → ((text : List ℕ) → HasTaken text mid → HasTaken text new)
      → ((first found : List (List ℕ)) → Done first found → Next first (found ++ one ∷ []))
      → Goes old piece later new Next
  part_goes_on {n = n} {later = later} {Next = Next} fed one_is later_is gone let_go_stands more =
      widen {Next = Next} (drop n part) later
      (goes_on in_part fed one_is refl gone let_go_stands more) (later_is ∙ left_is n fed.within)

  -- after a part that completes no record comes what follows it
  after_part : {mid : Joining} {n : ℕ} {later : List ℕ} → Feeds joiner part (Ok n) mid
      → None ≡ mid.ready → later ≡ drop n rest → later ≡ drop most rest
  after_part {n = n} fed none later_is =
      later_is ∙ left_is n fed.within
      ∙ ap (λ b. b ++ drop most rest) (drop_all n part (omega (arith, fed.all (sym none))))

  -- the part is passed,
  pub part_passed : {mid : Joining} {n : ℕ} {later : List ℕ} → Feeds joiner part (Ok n) mid
      → None ≡ mid.ready → later ≡ drop n rest → Goes old piece later mid Done
  part_passed {mid} {n} {later} fed none later_is =
      let taken = takes_all in_part fed none in
      let passed : Goes old (goes.seen ++ part) [] mid Done = record {
        seen = goes.seen ++ part;
        parts = append-nil (goes.seen ++ part);
        none = taken.none;
        layout_is = taken.layout_is;
        stands = taken.stands;
        done = all_done in_part fed none;
      } in
      widen [] later passed (after_part fed none later_is)

  -- and less is left, unless nothing was.
  pub passed_shorter : {mid : Joining} {n : ℕ} {later : List ℕ} {none : Bool} → 0 < most
      → Feeds joiner part (Ok n) mid → None ≡ mid.ready → later ≡ drop n rest
      → none ≡ (length later == 0) → none ≡ false → length later < length rest
  passed_shorter {later = later} some fed none later_is told is =
      omega (
        arith,
        some,
        something_left later told is,
        ap length (after_part fed none later_is),
        length-drop most rest,
      )

  -- where nothing is left, the piece ends with the part,
  ends : {mid : Joining} {n : ℕ} {later : List ℕ} → Feeds joiner part (Ok n) mid
      → None ≡ mid.ready → later ≡ drop n rest → later ≡ [] → goes.seen ++ part ≡ piece
  ends fed none later_is at_end =
      sym (append-nil (goes.seen ++ part))
      ∙ ap (λ b. (goes.seen ++ part) ++ b) (sym at_end ∙ after_part fed none later_is) ∙ piece_is

  -- so this was done up to the records of the piece,
  pub last_done : {mid : Joining} {n : ℕ} {later : List ℕ} → Feeds joiner part (Ok n) mid
      → None ≡ mid.ready → later ≡ drop n rest → later ≡ [] → (text : List ℕ) → HasTaken text old
      → Done (front old.layout text).records (front old.layout (text ++ piece)).records
  last_done fed none later_is at_end text stood =
      subst (λ b. Done (front old.layout text).records (front old.layout (text ++ b)).records)
      (ends fed none later_is at_end) (all_done in_part fed none text stood)

  -- and the joiner took all of it
  pub last_taken : {mid : Joining} {n : ℕ} {later : List ℕ} → Feeds joiner part (Ok n) mid
      → None ≡ mid.ready → later ≡ drop n rest → later ≡ [] → TakesAll old piece mid
  last_taken {mid} fed none later_is at_end =
      subst (λ b. TakesAll old b mid) (ends fed none later_is at_end) (takes_all in_part fed none)

  module _ {mid : Joining} {fault : FrameFault} (fed : Feeds joiner part (Err fault) mid)
      (text : List ℕ) (stood : HasTaken text old) where
    -- the text, up to the end of a part that has a fault
    upto : List ℕ
    upto = text ++ (goes.seen ++ part)

    whole_is : upto ++ drop most rest ≡ text ++ piece
    unfolding upto
    whole_is = append_assoc text (goes.seen ++ part) (drop most rest) ∙ ap (λ b. text ++ b) piece_is

    -- nothing after the fault is a record
    none_after : (front old.layout (text ++ piece)).records ≡ (front old.layout upto).records
    unfolding upto
    none_after =
        ap (λ b. (front old.layout b).records) (sym whole_is)
        ∙ ap (λ (f : Front). f.records) (breaks in_part fed text (drop most rest) stood)

    -- it breaks the front of the piece, whatever bytes follow that,
    pub part_breaks : (more : List ℕ) → front old.layout ((text ++ piece) ++ more)
        ≡ broken_by (front old.layout (text ++ piece)).records fault
    unfolding upto
    part_breaks more =
        ap (λ b. front old.layout b)
        (ap (λ b. b ++ more) (sym whole_is) ∙ append_assoc upto (drop most rest) more)
        ∙ breaks in_part fed text (drop most rest ++ more) stood
        ∙ ap (λ records. broken_by records fault) (sym none_after)

    -- and this was done up to the records of the piece
    pub part_broken_done : Done (front old.layout text).records
        (front old.layout (text ++ piece)).records
    unfolding upto
    part_broken_done =
        subst (Done (front old.layout text).records) (sym none_after)
        (broken_done in_part fed text stood)
