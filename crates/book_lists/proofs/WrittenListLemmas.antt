-- Lists that are written while they are read.
use Rattle.std.proofs.Common.{◌≡◌, ◌∙◌, ℕ, ◌+◌, ◌<◌, true, List, [], ◌∷◌, ◌++◌, length, map, take}
use Rattle.std.proofs.Common.{drop, refl, sym, ap, subst, append_assoc, append-nil, length-append}
use Rattle.std.proofs.Common.{arith, Option, Some, None, Result, Ok, Err, inl, inr, IfErr, flat_map}
use Rattle.std.proofs.Common.{option_map, take-append-drop}
use Rattle.book_model.specs.Words.{Book, Naming, after_all, no_event}
use Rattle.book_core.specs.Words.{Seen, IsCall, Reopens, IsTransition, Then}
use Rattle.book_lists.specs.declared.fault.ReportFault.{ReportFault}
use Rattle.book_lists.proofs.Words.{Appends, Appends-nil, LedgerFault, work_as, work_then, IsNext}
use Rattle.book_lists.proofs.Words.{report_fault_of, shown_by, WritesAnswerUntil}
use Rattle.book_lists.proofs.Words.{WritesUntilOrRefuses, WritesFirst, refusal_in, WritesPrefix}
use Rattle.book_lists.proofs.Words.{WritesUntil, is_write_or_memory}
use Rattle.book_lists.specs.Streamed.{WritesSome}
use Rattle.book_lists.specs.WrittenLists.{IsWrittenAs, WritesList, list_answer, list_text}
use Rattle.book_lists.specs.WrittenLists.{parts_from}
use Rattle.book_lists.proofs.AnsweringLemmas.{HasBytes, IsRefusedBy, answer_refused, answer_unread}
use Rattle.book_lists.proofs.AnsweringLemmas.{answer_written, cut_by}
use Rattle.book_lists.proofs.CursorLemmas.{HasRead, first_read, first_refused, map_push}
use Rattle.book_lists.proofs.CursorLemmas.{next_refused, one_more_read, shown_back}
use Rattle.book_lists.proofs.FrontLemmas.{IsFront, front_all, front_taken}
use Rattle.book_lists.proofs.ReadingLemmas.{by_names}
use Rattle.book_lists.proofs.ShownLemmas.{Saw, Shows}
use Rattle.book_lists.proofs.StreamedLemmas.{is_prefix, is_short, none_written, part_written}
use Rattle.book_lists.proofs.StreamedLemmas.{rest_until, rest_written, some_before, written_as}
use Rattle.book_lists.proofs.StreamedLemmas.{written_of_more}
use Rattle.book_lists.proofs.StreamingLemmas.{was_open}

-- ---- texts

parts_after : {X : Type 0} (part : ℕ → X → List ℕ) (number : ℕ) (xs ys : List X)
    → parts_from part number (xs ++ ys)
    ≡ parts_from part number xs ++ parts_from part (number + length xs) ys
parts_after part number [] ys = ap (λ n. parts_from part n ys) (omega arith)
parts_after part number (x ∷ xs) ys =
    ap (λ rest. part number x ++ rest)
    (parts_after part (number + 1) xs ys
    ∙ ap (λ n. parts_from part (number + 1) xs ++ parts_from part n ys) (omega arith))
    ∙ sym (append_assoc (part number x) (parts_from part (number + 1) xs)
    (parts_from part (number + length (x ∷ xs)) ys))

module _ {X : Type 0} (above : List ℕ) (part : ℕ → X → List ℕ) (below : List X → List ℕ) where
  -- what stands before the parts of others
  abbrev pub so_far : List X → List ℕ
  so_far read = above ++ parts_from part 0 read

  so_far_more : (read rest : List X)
      → so_far read ++ parts_from part (0 + length read) rest ≡ so_far (read ++ rest)
  so_far_more read rest =
      append_assoc above (parts_from part 0 read) (parts_from part (0 + length read) rest)
      ∙ ap (λ parts. above ++ parts) (sym (parts_after part 0 read rest))

  -- one part more
  so_far_with : (read : List X) (item : X)
      → so_far read ++ part (length read) item ≡ so_far (read ++ item ∷ [])
  so_far_with read item =
      ap (λ text. so_far read ++ text)
      (sym (append-nil (part (length read) item))
      ∙ ap (λ n. parts_from part n (item ∷ [])) (omega arith))
      ∙ so_far_more read (item ∷ [])

  -- what stands behind so many of all
  abbrev behind : List X → ℕ → List ℕ
  behind all count = parts_from part (0 + length (take count all)) (drop count all) ++ below all

  text_parts : (all : List X) (count : ℕ) (read : List X) → take count all ≡ read
      → so_far read ++ behind all count ≡ list_text above part below all
  text_parts all count read is =
      ap (λ read. so_far read ++ behind all count) (sym is)
      ∙ sym (append_assoc (so_far (take count all))
      (parts_from part (0 + length (take count all)) (drop count all)) (below all))
      ∙ ap (λ lines. lines ++ below all)
      (so_far_more (take count all) (drop count all) ∙ ap so_far (take-append-drop count all))

  -- if the first bytes of what stands before the others were written, a prefix of the text was
  cut_before : (all : List X) (count : ℕ) (read : List X) (left : List ℕ)
      (held holds : Option (List ℕ)) → take count all ≡ read
      → WritesFirst (so_far read) left held holds → 0 < length left
      → (prefix : ℕ) × (prefix < length (list_text above part below all))
      × Appends held holds (take prefix (list_text above part below all))
  cut_before all count read left held holds is written some =
      is_short (list_text above part below all) (left ++ behind all count) held holds
      (some_before left (behind all count) some)
      (written_as (so_far read ++ behind all count) (list_text above part below all)
      (left ++ behind all count) held holds (text_parts all count read is)
      (written_of_more (so_far read) left (behind all count) held holds written))

  -- of the text of those that were read too
  cut_some : (read : List X) (left : List ℕ) (held holds : Option (List ℕ))
      → WritesFirst (so_far read) left held holds
      → (prefix : ℕ) × Appends held holds (take prefix (list_text above part below read))
  cut_some read left held holds written =
      is_prefix (list_text above part below read) (left ++ below read) held holds
      (written_of_more (so_far read) left (below read) held holds written)

  -- and with what stands below them the text is whole, or a prefix
  ended : (read : List X) (waits : List ℕ) (held had has : Option (List ℕ))
      (result : Result (Unit {0}) ReportFault) → WritesFirst (so_far read) waits held had
      → WritesPrefix (waits ++ below read) had has result
      → WritesPrefix (list_text above part below read) held has result
  ended read waits held had has result lines flushed =
      rest_written (so_far read ++ below read) (waits ++ below read) held had has result
      (written_of_more (so_far read) waits (below read) held had lines) flushed

  ended_until : (read : List X) (waits : List ℕ) (held had has : Option (List ℕ))
      (result : Result (Unit {0}) ReportFault) → WritesFirst (so_far read) waits held had
      → WritesUntil (waits ++ below read) had has result
      → WritesUntil (list_text above part below read) held has result
  ended_until read waits held had has result lines flushed =
      rest_until (so_far read ++ below read) (waits ++ below read) held had has result
      (written_of_more (so_far read) waits (below read) held had lines) flushed

  -- the text has bytes too
  pub text_some : 0 < length above → (items : List X) → 0 < length (list_text above part below items)
  text_some some items =
      some_before (so_far items) (below items) (some_before above (parts_from part 0 items) some)

-- the parts of items are those of what the definitions see of them
pub parts_as : {I X : Type 0} (view : I → X) (part : ℕ → I → List ℕ) (part_of : ℕ → X → List ℕ)
    → ((number : ℕ) (item : I) → part number item ≡ part_of number (view item)) → (number : ℕ)
    (items : List I) → parts_from part number items ≡ parts_from part_of number (map view items)
parts_as view part part_of same number [] = refl
parts_as view part part_of same number (item ∷ more) =
    (λ i. same number item i ++ parts_as view part part_of same (number + 1) more i)

-- ---- what the calls did

module _ {I X : Type 0} (view : I → X) (all : Naming → Book → Result (List X) LedgerFault)
    (asked : Naming → ℕ → Option X → Book → Result (Option X) LedgerFault)
    (in_turn : (naming : Naming) (book : Book) (count : ℕ) (last : Option X)
    → IsNext (all naming book) count last (asked naming count last book))
    (above : List ℕ) (part : ℕ → I → List ℕ) (below : List I → List ℕ) (high : 0 < length above)
  where
    -- the text that is answered has bytes
    answer_some : (part_of : ℕ → X → List ℕ) (below_of : List X → List ℕ) (naming : Naming)
        (book : Book) → HasBytes (list_answer above part_of below_of all naming book)
    answer_some part_of below_of naming book text is =
        let it = shown_back (list_text above part_of below_of) (all naming book) text is in
        subst (λ text. 0 < length text) it.2 (text_some above part_of below_of high it.0)

    refused_alike : {A : Type 0} (part_of : ℕ → X → List ℕ) (below_of : List X → List ℕ)
        (naming : Naming) (book : Book) (answer : Result A LedgerFault) (fault : LedgerFault)
        → (answer ≡ Err fault → all naming book ≡ Err fault) → IsRefusedBy fault answer
        → IsRefusedBy fault (list_answer above part_of below_of all naming book)
    refused_alike part_of below_of naming book answer fault refuses (inl hinders) = inl hinders
    refused_alike part_of below_of naming book answer fault refuses (inr is) =
        inr (ap (shown_by (list_text above part_of below_of)) (refuses is))

    -- the first item was refused
    pub list_unread : (old new : Seen) (fault : LedgerFault) (held : Option (List ℕ))
        → IsCall (option_map view) old new (Err fault)
        (λ book. no_event (asked old.naming 0 None book))
        → WritesList view above part below all old new held held (Err (report_fault_of fault))
    list_unread old new fault held call part_of below_of same =
        answer_unread (λ book. refl) fault call (list_answer above part_of below_of all) held
        (answer_some part_of below_of old.naming)
        (λ book. refused_alike part_of below_of old.naming book (asked old.naming 0 None book) fault
        (first_refused view all asked in_turn old.naming book fault))

    -- it was read, and nothing is written
    pub list_unbegun : (old new : Seen) (next : Option I) (held : Option (List ℕ))
        (fault : ReportFault) → is_write_or_memory fault ≡ true
        → IsCall (option_map view) old new (Ok next) (λ book. no_event (asked old.naming 0 None book))
        → WritesList view above part below all old new held held (Err fault)
    list_unbegun old new next held fault plain call part_of below_of same =
        answer_written (first_read view all asked in_turn old new next call).shows
        (list_answer above part_of below_of all) held held (Err fault) plain
        (λ book known. (
          list_text above part_of below_of known.items,
          ap (shown_by (list_text above part_of below_of)) known.answered,
          (0, text_some above part_of below_of high known.items, Appends-nil held),
        ))

    pub some_unbegun : (held : Option (List ℕ)) (fault : ReportFault)
        → WritesSome (list_text above part below) held held (Err fault)
    some_unbegun held fault = ([], (0, Appends-nil held))

    -- ---- the list, item by item

    module _ {S : Type 0} (Has : S → List I → Type 0) where
      -- items were read, the state is what they come to, and their parts were written but for what
      -- waits
      pub record WritesSoFar (old new : Seen) (count : ℕ) (next : Option I) (state : S)
          (waits : List ℕ) (held holds : Option (List ℕ)) : Type 0 where
        pub read : List I
        pub counted : count ≡ length read
        pub far : HasRead all old new count (map view read) (option_map view next)
        pub has : Has state read
        pub lines : WritesFirst (so_far above part below read) waits held holds
        pub some : 0 < length waits

      -- the first call was made, and what stands above waits
      pub list_begun : (old new : Seen) (next : Option I) (state : S) (waits : List ℕ)
          (held : Option (List ℕ)) → waits ≡ above → Has state []
          → IsCall (option_map view) old new (Ok next) (λ book. no_event (asked old.naming 0 None book))
          → WritesSoFar old new 0 next state waits held held
      list_begun old new next state waits held is none call = record {
        read = [];
        counted = refl;
        far = first_read view all asked in_turn old new next call;
        has = none;
        lines = subst (λ text. WritesFirst text waits held held) (is ∙ sym (append-nil above))
            (none_written waits held);
        some = subst (λ text. 0 < length text) (sym is) high;
      }

module _ {I X S : Type 0} {view : I → X} {all : Naming → Book → Result (List X) LedgerFault}
    {asked : Naming → ℕ → Option X → Book → Result (Option X) LedgerFault}
    {in_turn : (naming : Naming) (book : Book) (count : ℕ) (last : Option X)
    → IsNext (all naming book) count last (asked naming count last book)}
    {above : List ℕ} {part : ℕ → I → List ℕ} {below : List I → List ℕ} {high : 0 < length above}
    {Has : S → List I → Type 0} {old mid : Seen} {count : ℕ} {next : Option I} {state : S}
    {waits : List ℕ} {held had : Option (List ℕ)}
    (it : WritesSoFar view all asked in_turn above part below high Has old mid count next state waits
    held had)
  where
    -- by the definitions the same was written
    lines_as : (part_of : ℕ → X → List ℕ) (below_of : List X → List ℕ)
        → IsWrittenAs view part below part_of below_of → (read : List I) (left : List ℕ)
        (has : Option (List ℕ)) → WritesFirst (so_far above part below read) left held has
        → WritesFirst (so_far above part_of below_of (map view read)) left held has
    lines_as part_of below_of same read left has written =
        written_as (so_far above part below read) (so_far above part_of below_of (map view read))
        left held has (ap (λ parts. above ++ parts) (parts_as view part part_of same.parts 0 read))
        written

    -- it went no further
    pub list_stopped : (fault : ReportFault) → is_write_or_memory fault ≡ true
        → WritesList view above part below all old mid held had (Err fault)
    list_stopped fault plain part_of below_of same =
        answer_written it.far.shows (list_answer above part_of below_of all) held had (Err fault)
        plain
        (λ book known. (
          list_text above part_of below_of known.items,
          ap (shown_by (list_text above part_of below_of)) known.answered,
          cut_before above part_of below_of known.items count (map view it.read) waits held had
              known.those.front (lines_as part_of below_of same it.read waits had it.lines)
              it.some,
        ))

    pub some_stopped : (fault : ReportFault)
        → WritesSome (list_text above part below) held had (Err fault)
    some_stopped fault = (it.read, cut_some above part below it.read waits held had it.lines)

    -- it has ended, and what waits and what stands below was written, or a prefix of that
    pub list_ended : (has : Option (List ℕ)) (result : Result (Unit {0}) ReportFault)
        → next ≡ None → IfErr result (λ fault. is_write_or_memory fault ≡ true)
        → ((items : List I) → Has state items → 0 < length waits
        → WritesUntil (waits ++ below items) had has result)
        → WritesList view above part below all old mid held has result
    list_ended has result last plain flushed part_of below_of same =
        answer_written it.far.shows (list_answer above part_of below_of all) held has result plain
        (λ book known. (
          list_text above part_of below_of known.items,
          ap (shown_by (list_text above part_of below_of)) known.answered,
          subst (λ items. WritesUntil (list_text above part_of below_of items) held has result)
              (front_all known.those (ap (option_map view) last))
              (ended_until above part_of below_of (map view it.read) waits held had has result
              (lines_as part_of below_of same it.read waits had it.lines)
              (subst (λ end. WritesUntil (waits ++ end) had has result) (same.ends it.read)
              (flushed it.read it.has it.some))),
        ))

    pub some_ended : (has : Option (List ℕ)) (result : Result (Unit {0}) ReportFault)
        → ((items : List I) → Has state items → WritesPrefix (waits ++ below items) had has result)
        → WritesSome (list_text above part below) held has result
    some_ended has result flushed = (
      it.read,
      ended above part below it.read waits held had has result it.lines (flushed it.read it.has),
    )

    module _ (item : I) (is : next ≡ Some item) (left : List ℕ) (has : Option (List ℕ))
        (line : WritesFirst (waits ++ part count item) left had has) (some : 0 < length left)
      where
        abbrev more : List I
        more = it.read ++ item ∷ []

        more_lines : WritesFirst (so_far above part below more) left held has
        more_lines =
            part_written (so_far above part below it.read) (part count item)
            (so_far above part below more) waits left held had has
            (ap (λ n. so_far above part below it.read ++ part n item) it.counted
            ∙ so_far_with above part below it.read item)
            it.lines line

        more_cut : (part_of : ℕ → X → List ℕ) (below_of : List X → List ℕ)
            → IsWrittenAs view part below part_of below_of → (items : List X)
            → IsFront items count (map view it.read) (option_map view next)
            → (prefix : ℕ) × (prefix < length (list_text above part_of below_of items))
            × Appends held has (take prefix (list_text above part_of below_of items))
        more_cut part_of below_of same items those =
            cut_before above part_of below_of items (count + 1) (map view more) left held has
            (front_taken those (ap (option_map view) is) ∙ map_push view it.read item)
            (lines_as part_of below_of same more left has more_lines) some

        -- a part was not written, or not whole
        pub list_cut : (fault : ReportFault) → is_write_or_memory fault ≡ true
            → WritesList view above part below all old mid held has (Err fault)
        list_cut fault plain part_of below_of same =
            answer_written it.far.shows (list_answer above part_of below_of all) held has
            (Err fault) plain
            (λ book known. (
              list_text above part_of below_of known.items,
              ap (shown_by (list_text above part_of below_of)) known.answered,
              more_cut part_of below_of same known.items known.those,
            ))

        pub some_cut : (fault : ReportFault)
            → WritesSome (list_text above part below) held has (Err fault)
        some_cut fault = (more, cut_some above part below more left held has more_lines)

        -- the ledger refused the next call
        pub list_refused : (new : Seen) (fault : LedgerFault)
            → IsCall (option_map view) mid new (Err fault)
            (λ book. no_event (asked mid.naming (count + 1) (Some (view item)) book))
            → WritesList view above part below all old new held has
            (Err (report_fault_of fault))
        list_refused new fault call part_of below_of same =
            answer_refused it.far.shows (λ book. refl) fault
            (by_names (λ naming book. no_event (asked naming (count + 1) (Some (view item)) book))
            it.far.shows.work.naming call)
            (list_answer above part_of below_of all) held has
            (λ book known said.
            cut_by (list_answer above part_of below_of all old.naming book)
            (list_text above part_of below_of known.items) fault held has
            (ap (shown_by (list_text above part_of below_of)) known.answered)
            (more_cut part_of below_of same known.items known.those)
            (refused_alike view all asked in_turn above part below high part_of below_of old.naming
            book
            (asked old.naming (count + 1) (Some (view item)) book) fault
            (next_refused view all asked in_turn old.naming book (view item) fault
            (ap (option_map view) is) known)
            said))

        -- or it goes on
        pub list_more : (new : Seen) (after : Option I) (state_now : S)
            → ((items : List I) → Has state items → Has state_now (items ++ item ∷ []))
            → IsCall (option_map view) mid new (Ok after)
            (λ book. no_event (asked mid.naming (count + 1) (Some (view item)) book))
            → WritesSoFar view all asked in_turn above part below high Has old new (count + 1) after
            state_now left held has
        list_more new after state_now adds call = record {
          read = more;
          counted = ap (λ n. n + 1) it.counted ∙ sym (length-append it.read (item ∷ []));
          far = subst (λ read. HasRead all old new (count + 1) read (option_map view after))
              (map_push view it.read item)
              (one_more_read view all asked in_turn old mid new count (map view it.read)
              (view item) (option_map view next) after (ap (option_map view) is) it.far call);
          has = adds it.read it.has;
          lines = more_lines;
          some = some;
        }

-- ---- what a list is by the definitions

-- parts that need no number
pub parts_each : {X : Type 0} (part : X → List ℕ) (number : ℕ) (items : List X)
    → parts_from (λ number. part) number items ≡ flat_map part items
parts_each part number [] = refl
parts_each part number (item ∷ more) = ap (λ rest. part item ++ rest) (parts_each part (number + 1) more)

-- another answer that is the same
pub written_by : {old new : Seen} {held holds : Option (List ℕ)} {result : Result (Unit {0}) ReportFault}
    {one : Naming → Book → Result (List ℕ) LedgerFault} (other : Naming → Book → Result (List ℕ) LedgerFault)
    → ((book : Book) → one old.naming book ≡ other old.naming book)
    → IsTransition old new (WritesAnswerUntil one old.naming held holds result)
    → IsTransition old new (WritesAnswerUntil other old.naming held holds result)
written_by {old} {new} {held} {holds} {result} {one} other same work =
    work_as old new (WritesAnswerUntil one old.naming held holds result)
    (WritesAnswerUntil other old.naming held holds result)
    (λ was before events is it. record {
      none = it.none;
      written = subst (λ said. WritesUntilOrRefuses said held holds result) (same before) it.written;
      unread = it.unread;
      reopens = it.reopens;
    })
    work

-- the same after a call that was answered: both are of one book
pub then_written : {Known : Book → Type 0} {old mid new : Seen} {held holds : Option (List ℕ)}
    {result : Result (Unit {0}) ReportFault} {one : Naming → Book → Result (List ℕ) LedgerFault}
    → Shows old mid Known → (other : Naming → Book → Result (List ℕ) LedgerFault)
    → ((book : Book) → Known book → one old.naming book ≡ other old.naming book)
    → IsTransition mid new (WritesAnswerUntil one mid.naming held holds result)
    → IsTransition old new (WritesAnswerUntil other old.naming held holds result)
then_written {Known} {old} {mid} {new} {held} {holds} {result} {one} so_far other same work =
    work_as old new (Then (Saw Known) (WritesAnswerUntil one mid.naming held holds result))
    (WritesAnswerUntil other old.naming held holds result)
    (λ was before events is both.
    let middle : after_all both.early before ≡ before =
    ap (λ events. after_all events before) both.first.none in
    record {
      none = both.all ∙ ap (λ events. both.late ++ events) both.first.none
          ∙ ap (λ events. events ++ []) both.next.none;
      written = subst (λ said. WritesUntilOrRefuses said held holds result)
          ((λ i. one (so_far.work.naming i) (middle i)) ∙ same before both.first.known)
          both.next.written;
      unread = was_open was (sym both.first.at_work);
      reopens = subst (λ between. Reopens (refusal_in result) between is) both.first.stays
          both.next.reopens;
    })
    (work_then old mid new (Saw Known) (WritesAnswerUntil one mid.naming held holds result) so_far.work
    work)

pub some_by : {X Y : Type 0} {one : X → List ℕ} (other : Y → List ℕ) (to : X → Y)
    → ((x : X) → one x ≡ other (to x)) → (held holds : Option (List ℕ))
    (result : Result (Unit {0}) ReportFault)
    → WritesSome one held holds result → WritesSome other held holds result
some_by other to same held holds result some =
    (to some.0, subst (λ text. WritesPrefix text held holds result) (same some.0) some.1)
