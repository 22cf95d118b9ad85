-- How a joiner goes through a piece of a dump, and so through a dump, and what is done with the
-- records that it finds.
use Rattle.std.proofs.Common.{◌≡◌, ◌∙◌, ℕ, ◌<◌, false, List, [], ◌∷◌, ◌++◌, length, take, drop}
use Rattle.std.proofs.Common.{take_all, refl, sym, ap, subst, arith, Result, Ok, Err, Option, Some}
use Rattle.std.proofs.Common.{None, append_assoc, append-nil, length-drop}
use Rattle.std.specs.Prelude.{is_some, unwrap_or, cond}
use Rattle.std.specs.Option.{option_to_list}
use Rattle.std.proofs.lemmas.List.{take-append-drop}
use Rattle.smf_frames.specs.declared.dump.Layout.{Layout}
use Rattle.smf_frames.specs.declared.fault.FrameFault.{FrameFault}
use Rattle.smf_frames.specs.Front.{Lasts}
use Rattle.smf_frames.specs.Joining.{bytes_seen}
use Rattle.book_model.specs.Words.{Front, front, front_from, prepend, Joining, HasTaken}
use Rattle.book_model.specs.Words.{broken_by, released, Feeds}
use Rattle.book_model.specs.declared.note.Stop.{Stop}
use Rattle.book_import.specs.Dumps.{stop_after, frame_stop}
use Rattle.book_import.specs.Pieces.{TakesAll}

-- what was done on the way from the records before a piece to those found by now
abbrev pub Doing : Type 1
Doing = List (List ℕ) → List (List ℕ) → Type 0

-- So far in a piece that has this rest left: the joiner is after what was seen, it holds no
-- record, and from the records before the piece to those found this was done.
pub record Goes (old : Joining) (piece rest : List ℕ) (joiner : Joining) (Done : Doing)
    : Type 0 where
  pub seen : List ℕ
  pub parts : seen ++ rest ≡ piece
  pub none : joiner.ready ≡ None
  pub layout_is : joiner.layout ≡ old.layout
  pub stands : (text : List ℕ) → HasTaken text old → HasTaken (text ++ seen) joiner
  pub done : (text : List ℕ) → HasTaken text old
      → Done (front old.layout text).records (front old.layout (text ++ seen)).records

-- after a text after which a joiner is, the records of what follows come last
pub records_after : {layout : Layout} {joiner : Joining} {text : List ℕ} → joiner.layout ≡ layout
    → HasTaken text joiner → (more : List ℕ)
    → (later : List (List ℕ))
    × ((front layout (text ++ more)).records ≡ (front layout text).records ++ later)
records_after {layout = layout} {joiner = joiner} {text = text} same stands more = (
  (front_from layout joiner.position (joiner.held ++ more)).records,
  ap (λ (f : Front). f.records)
      (subst (λ l. front l (text ++ more) ≡ prepend (front l text).records
      (front_from l joiner.position (joiner.held ++ more))) same (stands.goes_on more)),
)

module _ {old joiner mid : Joining} {piece rest : List ℕ} {Done : Doing}
    {answer : Result ℕ FrameFault} (goes : Goes old piece rest joiner Done)
    (fed : Feeds joiner rest answer mid) where
  -- the joiner got the rest, and is after what it took of it
  stands_on : (text : List ℕ) → HasTaken text old
      → HasTaken (text ++ (goes.seen ++ bytes_seen answer rest)) mid
  stands_on text stood =
      subst (λ b. HasTaken b mid) (append_assoc text goes.seen (bytes_seen answer rest))
      (fed.stands (text ++ goes.seen) (goes.stands text stood))

  -- the records of a text and of all that was taken after it
  records_on : {one : Option (List ℕ)} → one ≡ mid.ready → (text : List ℕ)
      → HasTaken text old
      → (front old.layout (text ++ (goes.seen ++ bytes_seen answer rest))).records
      ≡ (front old.layout (text ++ goes.seen)).records ++ option_to_list one
  records_on one_is text stood =
      let taken = bytes_seen answer rest in
      ap (λ b. (front old.layout b).records) (sym (append_assoc text goes.seen taken))
      ∙ subst (λ l. (front l ((text ++ goes.seen) ++ taken)).records
      ≡ (front l (text ++ goes.seen)).records ++ option_to_list mid.ready) goes.layout_is
      (fed.records (text ++ goes.seen) (goes.stands text stood) goes.none)
      ∙ ap (λ s. (front old.layout (text ++ goes.seen)).records ++ option_to_list s) (sym one_is)

-- a text, what was seen of the piece, and the rest are the text and the piece
whole_text : {old joiner : Joining} {piece rest : List ℕ} {Done : Doing}
    (goes : Goes old piece rest joiner Done) (text : List ℕ)
    → (text ++ goes.seen) ++ rest ≡ text ++ piece
whole_text {rest = rest} goes text =
    append_assoc text goes.seen rest ∙ ap (λ b. text ++ b) goes.parts

module _ {old joiner mid : Joining} {piece rest : List ℕ} {Done : Doing} {n : ℕ}
    (goes : Goes old piece rest joiner Done) (fed : Feeds joiner rest (Ok n) mid) where
  -- what was seen, what was taken and what is left are the piece
  piece_is : (goes.seen ++ take n rest) ++ drop n rest ≡ piece
  piece_is =
      append_assoc goes.seen (take n rest) (drop n rest)
      ∙ ap (λ b. goes.seen ++ b) (take-append-drop n rest) ∙ goes.parts

  -- a record that the rest completes took bytes of it: less is left
  pub shorter : {one later : List ℕ} → Some one ≡ mid.ready → later ≡ drop n rest
      → (text : List ℕ) × HasTaken text old → length later < length rest
  shorter one_is later_is stood =
      let moves : 0 < n = fed.moves (stood.0 ++ goes.seen) (goes.stands stood.0 stood.1) goes.none
      (sym (ap (λ s. is_some s) one_is)) in
      omega (arith, fed.within, ap length later_is, length-drop n rest)

  -- more was done with a record that the rest completes, which is then dropped
  pub goes_on : {new : Joining} {one later : List ℕ} {Next : Doing} → Some one ≡ mid.ready
      → later ≡ drop n rest → new ≡ released mid
      → ((text : List ℕ) → HasTaken text mid → HasTaken text new)
      → ((first found : List (List ℕ)) → Done first found → Next first (found ++ one ∷ []))
      → Goes old piece later new Next
  goes_on {Next = Next} one_is later_is gone let_go_stands more = record {
    seen = goes.seen ++ take n rest;
    parts = ap (λ b. (goes.seen ++ take n rest) ++ b) later_is ∙ piece_is;
    none = ap (λ (j : Joining). j.ready) gone;
    layout_is = ap (λ (j : Joining). j.layout) gone ∙ fed.layout_stays ∙ goes.layout_is;
    stands = λ text stood.
        let_go_stands (text ++ (goes.seen ++ take n rest)) (stands_on goes fed text stood);
    done = λ text stood.
        let first = (front old.layout text).records in
        subst (Next first) (sym (records_on goes fed one_is text stood))
        (more first (front old.layout (text ++ goes.seen)).records (goes.done text stood));
  }

  -- if the rest completes no record, the piece is what was seen and what was taken now,
  all_seen : None ≡ mid.ready → goes.seen ++ take n rest ≡ piece
  all_seen none =
      ap (λ b. goes.seen ++ b) (take_all n rest (omega (arith, fed.all (sym none)))) ∙ goes.parts

  -- so this was done up to the records of the piece,
  pub all_done : None ≡ mid.ready → (text : List ℕ) → HasTaken text old
      → Done (front old.layout text).records (front old.layout (text ++ piece)).records
  all_done none text stood =
      let found = (front old.layout (text ++ goes.seen)).records in
      let same : found ≡ (front old.layout (text ++ piece)).records =
      sym (append-nil found) ∙ sym (records_on goes fed none text stood)
      ∙ ap (λ b. (front old.layout (text ++ b)).records) (all_seen none) in
      subst (Done (front old.layout text).records) same (goes.done text stood)

  -- and the joiner took all of the piece
  pub takes_all : None ≡ mid.ready → TakesAll old piece mid
  takes_all none = record {
    layout_is = fed.layout_stays ∙ goes.layout_is;
    none = sym none;
    stands = λ text stood.
        subst (λ b. HasTaken (text ++ b) mid) (all_seen none) (stands_on goes fed text stood);
    whole = λ text stood. ap (λ b. (front old.layout b).is_broken) (sym (whole_text goes text))
        ∙ subst (λ l. (front l ((text ++ goes.seen) ++ rest)).is_broken ≡ false) goes.layout_is
        (fed.unbroken (text ++ goes.seen) (goes.stands text stood) (sym none));
  }

  -- after the records found come the one that the rest completes, and those of all that follows
  pub records_follow : {one : List ℕ} → Some one ≡ mid.ready → (text more : List ℕ)
      → HasTaken text old
      → (later : List (List ℕ)) × ((front old.layout ((text ++ piece) ++ more)).records
      ≡ (front old.layout (text ++ goes.seen)).records ++ one ∷ later)
  records_follow {one = one} one_is text more stood =
      let seen = goes.seen ++ take n rest in
      let left = drop n rest in
      let last = records_after (fed.layout_stays ∙ goes.layout_is) (stands_on goes fed text stood)
      (left ++ more) in (
        last.0,
        ap (λ b. (front old.layout b).records)
            (ap (λ b. (text ++ b) ++ more) (sym piece_is)
            ∙ ap (λ b. b ++ more) (sym (append_assoc text seen left))
            ∙ append_assoc (text ++ seen) left more)
            ∙ last.1 ∙ ap (λ records. records ++ last.0) (records_on goes fed one_is text stood)
            ∙ append_assoc (front old.layout (text ++ goes.seen)).records (one ∷ []) last.0,
      )

module _ {old joiner mid : Joining} {piece rest : List ℕ} {Done : Doing} {fault : FrameFault}
    (goes : Goes old piece rest joiner Done) (fed : Feeds joiner rest (Err fault) mid) where
  -- a descriptor in the rest has a fault, which breaks the front after the records found,
  pub breaks_here : (text : List ℕ) → HasTaken text old → front old.layout (text ++ piece)
      ≡ broken_by (front old.layout (text ++ goes.seen)).records fault
  breaks_here text stood =
      ap (λ b. front old.layout b) (sym (whole_text goes text))
      ∙ subst (λ l. front l ((text ++ goes.seen) ++ rest)
      ≡ broken_by (front l (text ++ goes.seen)).records fault) goes.layout_is
      ((fed.fault (text ++ goes.seen) fault (goes.stands text stood) goes.none).0 refl)

  -- and it does so whatever bytes follow
  pub breaks : (text more : List ℕ) → HasTaken text old
      → front old.layout ((text ++ piece) ++ more)
      ≡ broken_by (front old.layout (text ++ piece)).records fault
  breaks text more stood =
      let here = breaks_here text stood in
      let lasts : Lasts old.layout (text ++ piece) = subst (Lasts old.layout) (whole_text goes text)
      (subst (λ l. Lasts l ((text ++ goes.seen) ++ rest)) goes.layout_is
      (fed.lasting (text ++ goes.seen) (goes.stands text stood) goes.none)) in
      lasts more ∙ here ∙ sym (ap (λ (f : Front). broken_by f.records fault) here)

  -- and this was done up to the records of the piece
  pub broken_done : (text : List ℕ) → HasTaken text old
      → Done (front old.layout text).records (front old.layout (text ++ piece)).records
  broken_done text stood =
      subst (Done (front old.layout text).records)
      (sym (ap (λ (f : Front). f.records) (breaks_here text stood))) (goes.done text stood)

-- These bytes were taken, and with the records that they complete this was done. The joiner is
-- after them, it holds no record, and no fault breaks their front.
pub record HasPassed (layout : Layout) (bytes : List ℕ) (joiner : Joining)
    (Done : List (List ℕ) → Type 0) : Type 0 where
  pub layout_is : joiner.layout ≡ layout
  pub none : joiner.ready ≡ None
  pub stands : HasTaken bytes joiner
  pub whole : (front layout bytes).is_broken ≡ false
  pub done : Done (front layout bytes).records

module _ {layout : Layout} {bytes : List ℕ} {joiner : Joining} {Done : List (List ℕ) → Type 0}
    (passed : HasPassed layout bytes joiner Done) where
  -- what holds of each text after which the joiner is holds of these bytes
  pub holds_here : (Holds : Layout → List ℕ → Type 0)
      → ((text : List ℕ) → HasTaken text joiner → Holds joiner.layout text)
      → Holds layout bytes
  holds_here Holds holds = subst (λ l. Holds l bytes) passed.layout_is (holds bytes passed.stands)

  -- one more piece
  pub passed_more : {new : Joining} {piece : List ℕ} {Next : List (List ℕ) → Type 0}
      → TakesAll joiner piece new → Next (front layout (bytes ++ piece)).records
      → HasPassed layout (bytes ++ piece) new Next
  passed_more {piece = piece} taken next = record {
    layout_is = taken.layout_is ∙ passed.layout_is;
    none = taken.none;
    stands = taken.stands bytes passed.stands;
    whole = holds_here (λ l text. (front l (text ++ piece)).is_broken ≡ false) taken.whole;
    done = next;
  }

  -- no more pieces come: the stop after these bytes
  pub stop_is : (cut : Option Stop) {stop : Stop} → ((text : List ℕ) → HasTaken text joiner
      → stop ≡ unwrap_or cut (frame_stop (front joiner.layout text).fault))
      → stop ≡ stop_after cut (front layout bytes)
  stop_is cut {stop = stop} stopped =
      let found = front layout bytes in
      holds_here (λ l text. stop ≡ unwrap_or cut (frame_stop (front l text).fault)) stopped
      ∙ ap (λ broken. cond broken (frame_stop found.fault)
      (unwrap_or cut (frame_stop found.fault))) (sym passed.whole)
