-- Where the work on the records of a group stands, before each of them.
use Rattle.std.proofs.Common.{◌≡◌, ◌∙◌, ℕ, ◌+◌, ◌<◌, ◌≤◌, ◌==◌, Bool, true, false, true≢false, List}
use Rattle.std.proofs.Common.{[], ◌∷◌, ◌++◌, length, take, drop, get_or, refl, sym, ap, subst, arith}
use Rattle.std.proofs.Common.{Ok, Err, Option, Some, None, append_assoc}
use Rattle.std.proofs.Common.{Vec, Global, is_some, length-drop}
use Rattle.std.proofs.lemmas.Bool.{eqb-true}
use Rattle.std.proofs.lemmas.List.{drop-map, length-map}
use Rattle.std.proofs.lemmas.List.{take-append-drop}
use Rattle.std.specs.Prelude.{All, IfSome, if◌then◌else◌}
use Rattle.smf_frames.specs.declared.dump.Layout.{Layout}
use Rattle.smf_type30.specs.declared.record_class.Class.{Class}
use Rattle.smf_type30.specs.declared.record_class.Class.TheVariants.{Continuation, Damaged, DataLost}
use Rattle.smf_type30.specs.declared.record_class.Class.TheVariants.{DumpHeader, DumpTrailer, Other}
use Rattle.smf_type30.specs.declared.record_class.Class.TheVariants.{Usage}
use Rattle.book_model.specs.Words.{class_of, front, IsUsageRecord}
use Rattle.book_model.specs.declared.answer.Accepted.{Accepted}
use Rattle.book_model.specs.declared.fault.LedgerFault.{LedgerFault}
use Rattle.book_model.specs.declared.note.Share.{Share}
use Rattle.book_model.specs.declared.note.Stop.{Stop}
use Rattle.book_core.specs.Ledgers.{Seen}
use Rattle.book_core.specs.Transition.{NoEvent, IsTransition}
use Rattle.book_core.specs.Submissions.{records_in}
use Rattle.book_core.proofs.TransitionLemmas.{no_work, work_as}
use Rattle.book_import.specs.declared.group.Group.{Group}
use Rattle.book_import.specs.declared.import_entry.ImportEntry.{ImportEntry}
use Rattle.book_import.specs.declared.receipt.Receipt.{Receipt}
use Rattle.book_import.specs.Receipts.{count_accepted, count_ahead, count_class, counted}
use Rattle.book_import.specs.EntryWork.{AreRead, HasRead, hears, if_whole, keeps_one, note_in, note_of}
use Rattle.book_import.specs.EntryWork.{says_next}
use Rattle.book_import.specs.Groups.{usage_of, AsksOf, Gathers, HandlesGroup, IsAfter, IsGroup}
use Rattle.book_import.proofs.AskLemmas.{IsAsked, heard_note, next_note}
use Rattle.book_import.proofs.GatheringLemmas.{ahead_step, usage_one, usage_other}
use Rattle.book_import.proofs.GroupLemmas.{count_answer}
use Rattle.book_import.proofs.GroupWork.{DoneAfter, IsAhead, group_other, group_refused}
use Rattle.book_import.proofs.GroupWork.{group_usage, next_in}

-- the answers that are left are those to all records that wait, if an end was said with them
abbrev pub IsLast : ImportEntry → List (List ℕ) → List Accepted → Type 0
IsLast entry waiting pending = is_some entry.ended ≡ true → length waiting ≡ length pending

-- the records that wait after the first of them
rest_wait : (waiting : List (Vec ℕ Global)) (bytes : List ℕ) (rest : List (List ℕ))
    → records_in waiting ≡ bytes ∷ rest → records_in (drop 1 waiting) ≡ rest
rest_wait [] bytes rest is = absurd (cc)
rest_wait (one ∷ more) bytes rest is = cc

-- where one waits, some do
some_wait : (waiting : List (Vec ℕ Global)) (bytes : List ℕ) (rest : List (List ℕ))
    → records_in waiting ≡ bytes ∷ rest → 0 < length waiting
some_wait [] bytes rest is = absurd (cc)
some_wait (one ∷ more) bytes rest is = omega arith

-- Before a record of a group: those before it were counted, and the books gave the answers that
-- are left to the first of the usage records that wait. The import has counted ahead, and said an
-- end with the last of them alone.
pub record Stands (begins : Seen) (before : Receipt) (group : Group) (entry : ImportEntry)
    (ending : Option Stop) (i : ℕ) (now : Seen) (receipt ahead : Receipt)
    (waiting : List (Vec ℕ Global)) (pending : List Accepted) (so : ImportEntry) : Type 0 where
  pub usable : All (λ (one : Vec ℕ Global). IsUsageRecord one.items) waiting
  pub counts : counted receipt ≡ counted before + i
  pub ahead_is : ahead ≡ count_ahead (drop i group.classes.items) receipt
  pub waits : (records : List (List ℕ)) → IsGroup records group
      → usage_of (drop i records) ≡ records_in waiting
  pub note : note_of so ≡ note_of entry
  pub read : so.bytes ≡ entry.bytes
  pub last : IsLast so (records_in waiting) pending
  pub ended : IfSome so.ended (λ said. ending ≡ Some said)
  pub goes : (layout : Layout) (text piece : List ℕ) (gathered : Gathers layout text piece group)
      → HasRead (text ++ piece) entry
      → DoneAfter begins layout text piece entry before now
      (IsAhead begins layout text piece entry before so (take i gathered.records)
      (usage_of (drop i gathered.records)) pending receipt)

-- an import that has the note of another has read what that has
still_read : (Read : Type 0) (one other : Option Share) → note_in one ≡ note_in other
    → IfSome other (λ share. Read) → IfSome one (λ share. Read)
still_read Read None other same read = tt
still_read Read (Some share) None same read = absurd (cc)
still_read Read (Some share) (Some also) same read = read

pub still_has : (bytes : List ℕ) (one other : ImportEntry) → note_of one ≡ note_of other
    → one.bytes ≡ other.bytes → HasRead bytes other → HasRead bytes one
still_has bytes one other note same has =
    subst (λ read. IfSome one.share (λ share. AreRead bytes read)) (sym same)
    (still_read (AreRead bytes other.bytes) one.share other.share note has)

-- where an end was said, it was this one
ended_as : (ending ended given : Option Stop) (kept whole : Bool) → given ≡ None
    → ended ≡ (if kept then if whole then ending else None else given)
    → IfSome ended (λ said. ending ≡ Some said)
ended_as ending ended given true true none is =
    subst (λ ended. IfSome ended (λ said. ending ≡ Some said)) (sym is) (itself ending)
  where
    itself : (ending : Option Stop) → IfSome ending (λ said. ending ≡ Some said)
    itself None = tt
    itself (Some stop) = refl
ended_as ending ended given true false none is =
    subst (λ ended. IfSome ended (λ said. ending ≡ Some said)) (sym is) tt
ended_as ending ended given false whole none is =
    subst (λ ended. IfSome ended (λ said. ending ≡ Some said)) (sym (is ∙ none)) tt

-- and then all records that wait were answered
ended_whole : (ending ended given : Option Stop) (kept : Bool) (answers waiting : ℕ)
    → given ≡ None
    → ended ≡ (if kept then if answers == waiting then ending else None else given)
    → is_some ended ≡ true → answers ≡ waiting
ended_whole ending ended given true answers waiting none is some =
    elim (answers == waiting) as (λ whole. (answers == waiting) ≡ whole
    → ended ≡ (if whole then ending else None) → answers ≡ waiting) [
      | true ↦ λ same this. eqb-true answers waiting same
      | false ↦ λ apart this.
          absurd (true≢false (sym some ∙ ap (λ (ended : Option Stop). is_some ended) this))
    ] refl is
ended_whole ending ended given false answers waiting none is some =
    absurd (true≢false (sym some ∙ ap (λ (ended : Option Stop). is_some ended) (is ∙ none)))

-- the end that an import has said once the books answered
ended_in : (answers : List Accepted) (ended : Option Stop) (entry : ImportEntry)
    → (hears answers ended entry).ended ≡ (if keeps_one answers then ended else entry.ended)
ended_in answers ended entry =
    elim (keeps_one answers) as (λ kept.
    (if kept then record entry { begun = true; ended = ended } else entry).ended
    ≡ (if kept then ended else entry.ended)) [ true ↦ refl | false ↦ refl ]

bytes_still : (answers : List Accepted) (ended : Option Stop) (entry : ImportEntry)
    → (hears answers ended entry).bytes ≡ entry.bytes
bytes_still answers ended entry =
    elim (keeps_one answers) as (λ kept.
    (if kept then record entry { begun = true; ended = ended } else entry).bytes ≡ entry.bytes)
    [ true ↦ refl | false ↦ refl ]

-- What is known of the entry once the first record that waits was answered.
record EntryStands (ending : Option Stop) (waiting : List (List ℕ)) (left : List Accepted)
    (so after : ImportEntry) : Type 0 where
  note : note_of after ≡ note_of so
  read : after.bytes ≡ so.bytes
  last : is_some after.ended ≡ true → length waiting ≡ length left + 1
  ended : IfSome after.ended (λ said. ending ≡ Some said)

entry_stands : (so after : ImportEntry) (counts : Receipt)
    (ending : Option Stop) (waiting : List (List ℕ)) (pending left : List Accepted)
    (answer : Accepted) → (pending ≡ [] → so.ended ≡ None) → IsLast so waiting pending
    → IfSome so.ended (λ said. ending ≡ Some said)
    → IsAfter so counts ending waiting pending (Ok answer) left after
    → EntryStands ending waiting left so after
entry_stands so after counts ending waiting (one ∷ later) left answer none last ended heard = record {
  note = ap note_of heard.2;
  read = ap (λ (entry : ImportEntry). entry.bytes) heard.2;
  last = λ some.
      last (sym (ap (λ (entry : ImportEntry). is_some entry.ended) heard.2) ∙ some)
      ∙ omega (arith, ap length heard.1);
  ended = subst (λ (entry : ImportEntry). IfSome entry.ended (λ said. ending ≡ Some said))
      (sym heard.2) ended;
}
entry_stands so after counts ending waiting [] left answer none last ended heard =
    let next = says_next so counts ending in
    let said = if_whole (answer ∷ left) waiting ending in
    let is_so : after.ended ≡ (if keeps_one (answer ∷ left) then said else so.ended) =
    ap (λ (entry : ImportEntry). entry.ended) heard ∙ ended_in (answer ∷ left) said next in
    record {
      note = ap note_of heard ∙ heard_note (answer ∷ left) said next ∙ next_note so counts ending;
      read = ap (λ (entry : ImportEntry). entry.bytes) heard
          ∙ bytes_still (answer ∷ left) said next;
      last = λ some.
          let same = ended_whole ending after.ended so.ended (keeps_one (answer ∷ left))
          (length (answer ∷ left)) (length waiting) (none refl) is_so some in
          omega (arith, same);
      ended = ended_as ending after.ended so.ended (keeps_one (answer ∷ left))
          (length (answer ∷ left) == length waiting) (none refl) is_so;
    }

-- where a record waits and no answer is left, no end was said yet
none_ended : (so : ImportEntry) (waiting : List (List ℕ)) (pending : List Accepted)
    → 0 < length waiting → IsLast so waiting pending → pending ≡ [] → so.ended ≡ None
none_ended so waiting pending some last none =
    by_ended so.ended refl
  where
    by_ended : (ended : Option Stop) → so.ended ≡ ended → so.ended ≡ None
    by_ended None is = is
    by_ended (Some stop) is =
        absurd (omega (
          arith,
          some,
          last (ap (λ (ended : Option Stop). is_some ended) is),
          ap length none,
        ))

-- where the books refused, the import has said no end
pub record IsRefused (so after : ImportEntry) : Type 0 where
  pub note : note_of after ≡ note_of so
  pub read : after.bytes ≡ so.bytes
  pub none : after.ended ≡ None

refused_entry : (so after : ImportEntry) (counts : Receipt) (ending : Option Stop)
    (waiting : List (List ℕ)) (pending left : List Accepted) (fault : LedgerFault)
    → (pending ≡ [] → so.ended ≡ None)
    → IsAfter so counts ending waiting pending (Err fault) left after → IsRefused so after
refused_entry so after counts ending waiting (one ∷ later) left fault none heard =
    absurd (let no = heard.0 in cc)
refused_entry so after counts ending waiting [] left fault none heard = record {
  note = ap note_of heard ∙ next_note so counts ending;
  read = ap (λ (entry : ImportEntry). entry.bytes) heard;
  none = ap (λ (entry : ImportEntry). entry.ended) heard ∙ none refl;
}

module _ {begins : Seen} {before : Receipt} {group : Group} {entry : ImportEntry}
    {ending : Option Stop} {i : ℕ} {now : Seen} {receipt ahead : Receipt}
    {waiting : List (Vec ℕ Global)} {pending : List Accepted} {so : ImportEntry}
    (stands : Stands begins before group entry ending i now receipt ahead waiting pending so)
    {class : Class} (d : Class) (within : i < length group.classes.items)
    (here : class ≡ get_or group.classes.items i d) where
  -- what was counted ahead, by this record and those behind it
  ahead_next : ahead ≡ count_ahead (drop (i + 1) group.classes.items) (count_class class receipt)
  ahead_next =
      let classes = group.classes.items in
      stands.ahead_is ∙ ahead_step classes i d receipt within
      ∙ ap (λ class. count_ahead (drop (i + 1) classes) (count_class class receipt)) (sym here)

  -- a record of another class
  pub stands_other : {next : Receipt} → (class ≡ Usage → ⊥) → next ≡ count_class class receipt
      → counted next ≡ counted receipt + 1
      → Stands begins before group entry ending (i + 1) now next ahead waiting pending so
  stands_other {next} other value more = record {
    usable = stands.usable;
    counts = omega (arith, more, stands.counts);
    ahead_is = ahead_next ∙ ap (count_ahead (drop (i + 1) group.classes.items)) (sym value);
    waits = λ records is.
        let one = next_in records i class d is within here in
        sym (usage_other one.bytes (drop (i + 1) records) class one.of other)
        ∙ ap usage_of (sym one.left) ∙ stands.waits records is;
    note = stands.note;
    read = stands.read;
    last = stands.last;
    ended = stands.ended;
    goes = λ layout text piece gathered has.
        group_other begins layout text piece entry before now gathered.records i
        (next_in gathered.records i class d gathered.is within here) so pending receipt next
        (stands.goes layout text piece gathered has) other value;
  }

  -- a usage record waits
  waits_first : class ≡ Usage → (group_of : (records : List (List ℕ)) × IsGroup records group)
      → (bytes : List ℕ) × (records_in waiting ≡ bytes ∷ usage_of (drop (i + 1) group_of.0))
  waits_first usage group_of =
      let one = next_in group_of.0 i class d group_of.1 within here in (
        one.bytes,
        sym (stands.waits group_of.0 group_of.1) ∙ ap usage_of one.left
            ∙ usage_one one.bytes (drop (i + 1) group_of.0) (one.of ∙ usage),
      )

  pub usage_waits : class ≡ Usage → (records : List (List ℕ)) × IsGroup records group
      → 0 < length waiting
  usage_waits usage group_of =
      let first = waits_first usage group_of in
      some_wait waiting first.0 (usage_of (drop (i + 1) group_of.0)) first.1

  -- and if no answer is left, no end was said yet
  open_here : class ≡ Usage → (records : List (List ℕ)) × IsGroup records group → pending ≡ []
      → so.ended ≡ None
  open_here usage group_of none =
      let first = waits_first usage group_of in
      none_ended so (records_in waiting) pending (omega (arith, ap length first.1)) stands.last none

  -- what is known as the books are asked
  asked_here : class ≡ Usage → (layout : Layout) (text piece : List ℕ)
      (gathered : Gathers layout text piece group) → HasRead (text ++ piece) entry → pending ≡ []
      → IsAsked layout (text ++ piece) ((front layout text).records ++ take i gathered.records)
      (drop i gathered.records) receipt ahead so
  asked_here usage layout text piece gathered has none =
      let records = gathered.records in
      let first = (front layout text).records in
      record {
        found = append_assoc first (take i records) (drop i records)
            ∙ ap (λ those. first ++ those) (take-append-drop i records) ∙ sym gathered.found;
        counted = stands.ahead_is
            ∙ ap (λ classes. count_ahead classes receipt)
            (ap (drop i) (sym gathered.is.classes) ∙ drop-map class_of i records);
        read = still_has (text ++ piece) so entry stands.note stands.read has;
        none = open_here usage (records, gathered.is) none;
      }

  -- it was answered and counted
  pub stands_usage : {next next_ahead : Receipt} (then_now : Seen) (left : List Accepted)
      (answer : Accepted) (after : ImportEntry) → class ≡ Usage
      → (records : List (List ℕ)) × IsGroup records group
      → IsTransition now then_now
      (AsksOf now.naming so ahead ending (records_in waiting) pending (Ok answer) left)
      → IsAfter so ahead ending (records_in waiting) pending (Ok answer) left after
      → next ≡ count_accepted answer receipt → counted next ≡ counted receipt + 1
      → next_ahead ≡ count_accepted answer ahead
      → All (λ (one : Vec ℕ Global). IsUsageRecord one.items) (drop 1 waiting)
      → Stands begins before group entry ending (i + 1) then_now next next_ahead (drop 1 waiting)
      left after
  stands_usage {next} {next_ahead} then_now left answer after usage group_of asks heard value more
      value_ahead usable =
      let known = entry_stands so after ahead ending (records_in waiting) pending left answer
      (open_here usage group_of) stands.last stands.ended heard in
      let some = usage_waits usage group_of in
      record {
        usable = usable;
        counts = omega (arith, more, stands.counts);
        ahead_is = value_ahead
            ∙ count_answer (drop (i + 1) group.classes.items) answer ahead receipt
            (ahead_next ∙ ap (λ class. count_ahead (drop (i + 1) group.classes.items)
            (count_class class receipt)) usage)
            ∙ ap (count_ahead (drop (i + 1) group.classes.items)) (sym value);
        waits = λ records is.
            let one = next_in records i class d is within here in
            sym (rest_wait waiting one.bytes (usage_of (drop (i + 1) records))
            (sym (stands.waits records is) ∙ ap usage_of one.left
            ∙ usage_one one.bytes (drop (i + 1) records) (one.of ∙ usage)));
        note = known.note ∙ stands.note;
        read = known.read ∙ stands.read;
        last = λ said.
            omega (
              arith,
              known.last said,
              some,
              length-map waiting (λ (one : Vec ℕ Global). one.items),
              length-map (drop 1 waiting) (λ (one : Vec ℕ Global). one.items),
              length-drop 1 waiting,
            );
        ended = known.ended;
        goes = λ layout text piece gathered has.
            let records = gathered.records in
            let waits = sym (stands.waits records gathered.is) in
            group_usage begins layout text piece entry before now records i
            (next_in records i class d gathered.is within here) so pending receipt next
            (stands.goes layout text piece gathered has) then_now ahead ending left after usage
            (asked_here usage layout text piece gathered has) answer
            (subst (λ those. IsTransition now then_now
            (AsksOf now.naming so ahead ending those pending (Ok answer) left)) waits asks)
            (subst (λ those. IsAfter so ahead ending those pending (Ok answer) left after) waits heard)
            value;
      }

  -- it was refused
  pub stands_refused : (then_now : Seen) (left : List Accepted) (fault : LedgerFault)
      (after : ImportEntry) → class ≡ Usage
      → IsTransition now then_now
      (AsksOf now.naming so ahead ending (records_in waiting) pending (Err fault) left)
      → IsAfter so ahead ending (records_in waiting) pending (Err fault) left after
      → (layout : Layout) (text piece : List ℕ) (gathered : Gathers layout text piece group)
      → HasRead (text ++ piece) entry
      → IsTransition begins then_now
      (HandlesGroup begins.naming layout text piece gathered.records entry after before receipt
      (Err fault))
  stands_refused then_now left fault after usage asks heard layout text piece gathered has =
      let records = gathered.records in
      let waits = sym (stands.waits records gathered.is) in
      group_refused begins layout text piece entry before now records i
      (next_in records i class d gathered.is within here) so pending receipt receipt
      (stands.goes layout text piece gathered has) then_now ahead ending left after usage
      (asked_here usage layout text piece gathered has) fault
      (subst (λ those. IsTransition now then_now
      (AsksOf now.naming so ahead ending those pending (Err fault) left)) waits asks)
      (subst (λ those. IsAfter so ahead ending those pending (Err fault) left after) waits heard)

  -- and the entry then
  pub entry_refused : (left : List Accepted) (fault : LedgerFault) (after : ImportEntry)
      → class ≡ Usage → (records : List (List ℕ)) × IsGroup records group
      → IsAfter so ahead ending (records_in waiting) pending (Err fault) left after
      → IsRefused entry after
  entry_refused left fault after usage group_of heard =
      let refused = refused_entry so after ahead ending (records_in waiting) pending left fault
      (open_here usage group_of) heard in
      record {
        note = refused.note ∙ stands.note;
        read = refused.read ∙ stands.read;
        none = refused.none;
      }

-- as many are counted ahead as there are records, or fewer
pub counted_ahead : (classes : List Class) (receipt : Receipt)
    → counted (count_ahead classes receipt) ≤ counted receipt + length classes
counted_ahead [] receipt = omega arith
counted_ahead (class ∷ later) receipt =
    omega (arith, counted_ahead later (count_class class receipt), one_counted class receipt)
  where
    one_counted : (class : Class) (receipt : Receipt)
        → counted (count_class class receipt) ≤ counted receipt + 1
    one_counted DumpHeader receipt = omega arith
    one_counted DumpTrailer receipt = omega arith
    one_counted DataLost receipt = omega arith
    one_counted Other receipt = omega arith
    one_counted Continuation receipt = omega arith
    one_counted (Damaged damage) receipt = omega arith
    one_counted Usage receipt = omega arith

pub ahead_few : {begins : Seen} {before : Receipt} {group : Group} {entry : ImportEntry}
    {ending : Option Stop} {i : ℕ} {now : Seen} {receipt ahead : Receipt}
    {waiting : List (Vec ℕ Global)} {pending : List Accepted} {so : ImportEntry}
    → Stands begins before group entry ending i now receipt ahead waiting pending so
    → i < length group.classes.items
    → counted ahead ≤ counted before + length group.classes.items
ahead_few {group = group} {i = i} {receipt = receipt} stands within =
    omega (
      arith,
      within,
      ap counted stands.ahead_is,
      counted_ahead (drop i group.classes.items) receipt,
      stands.counts,
      length-drop i group.classes.items,
    )

-- the same, in other words
pub stands_so : {begins : Seen} {before : Receipt} {group : Group} {entry : ImportEntry}
    {ending : Option Stop} {i : ℕ} {now seen : Seen} {receipt told ahead counts : Receipt}
    {waiting later : List (Vec ℕ Global)} {pending left : List Accepted} {so after : ImportEntry}
    → seen ≡ now → told ≡ receipt → counts ≡ ahead → later ≡ waiting → left ≡ pending → after ≡ so
    → Stands begins before group entry ending i now receipt ahead waiting pending so
    → Stands begins before group entry ending i seen told counts later left after
stands_so {begins} {before} {group} {entry} {ending} {i} {now} {seen} {receipt} {told} {ahead}
    {counts} {waiting} {later} {pending} {left} {so} {after} sees receipts aheads waits answers
    entries stands =
    subst (λ seen. Stands begins before group entry ending i seen told counts later left after)
    (sym sees)
    (subst (λ told. Stands begins before group entry ending i now told counts later left after)
    (sym receipts)
    (subst (λ counts. Stands begins before group entry ending i now receipt counts later left after)
    (sym aheads)
    (subst (λ later. Stands begins before group entry ending i now receipt ahead later left after)
    (sym waits)
    (subst (λ left. Stands begins before group entry ending i now receipt ahead waiting left after)
    (sym answers)
    (subst (λ after. Stands begins before group entry ending i now receipt ahead waiting pending
    after) (sym entries) stands)))))

-- an answer that was left is taken
pub next_left : (seen : Seen) (entry : ImportEntry) (counts : Receipt) (ending : Option Stop)
    (waiting : List (List ℕ)) {pending left : List Accepted} {answer : Accepted}
    → pending ≡ answer ∷ left
    → IsTransition seen seen
    (AsksOf seen.naming entry counts ending waiting pending (Ok answer) left)
next_left seen entry counts ending waiting {pending} {left} {answer} is =
    subst (λ pending. IsTransition seen seen
    (AsksOf seen.naming entry counts ending waiting pending (Ok answer) left)) (sym is)
    (work_as seen seen NoEvent
    (AsksOf seen.naming entry counts ending waiting (answer ∷ left) (Ok answer) left)
    (λ was before events is none. (none, refl, refl)) (no_work seen))

-- and the entry stays
pub left_after : (entry : ImportEntry) (counts : Receipt) (ending : Option Stop)
    (waiting : List (List ℕ)) {pending left : List Accepted} {answer : Accepted}
    → pending ≡ answer ∷ left
    → IsAfter entry counts ending waiting pending (Ok answer) left entry
left_after entry counts ending waiting {pending} {left} {answer} is =
    subst (λ pending. IsAfter entry counts ending waiting pending (Ok answer) left entry) (sym is)
    (refl, refl, refl)

-- where all classes were counted, all records were
pub all_counted : {group : Group} (records : List (List ℕ)) (i : ℕ) → IsGroup records group
    → length group.classes.items ≤ i → length records ≤ i
all_counted records i is ended =
    omega (arith, ap length is.classes, length-map records class_of, ended)
