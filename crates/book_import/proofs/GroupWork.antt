-- Work on the records of a group, one after another.
use Rattle.std.proofs.Common.{◌≡◌, ◌∙◌, ℕ, ◌+◌, ◌<◌, ◌≤◌, List}
use Rattle.std.proofs.Common.{[], ◌∷◌, ◌++◌, length, take, drop, get_or, sym, ap, subst, arith}
use Rattle.std.proofs.Common.{Ok, Err, Option, append_assoc, append-nil, add-one, drop-cons}
use Rattle.std.proofs.Common.{take_all}
use Rattle.std.proofs.lemmas.List.{drop_all, get_or-map, length-map, take_more}
use Rattle.std.proofs.lemmas.List.{take-append-drop}
use Rattle.smf_frames.specs.declared.dump.Layout.{Layout}
use Rattle.smf_type30.specs.declared.record_class.Class.{Class}
use Rattle.smf_type30.specs.declared.record_class.Class.TheVariants.{Usage}
use Rattle.book_model.specs.JournalLaws.{unjournaled, without_notes}
use Rattle.book_model.specs.Words.{class_of, front}
use Rattle.book_model.specs.declared.answer.Accepted.{Accepted}
use Rattle.book_model.specs.declared.fault.LedgerFault.{LedgerFault}
use Rattle.book_model.specs.declared.note.Stop.{Stop}
use Rattle.book_model.specs.declared.note.Stop.TheVariants.{Ledger}
use Rattle.book_core.specs.Ledgers.{Seen}
use Rattle.book_core.specs.Transition.{Transition, NoEvent, Then, IsTransition}
use Rattle.book_core.proofs.ThenLemmas.{nothing_more}
use Rattle.book_core.proofs.TransitionLemmas.{no_work, work_then, work_as}
use Rattle.book_import.specs.declared.group.Group.{Group}
use Rattle.book_import.specs.declared.import_entry.ImportEntry.{ImportEntry}
use Rattle.book_import.specs.declared.receipt.Receipt.{Receipt}
use Rattle.book_import.specs.Receipts.{count_accepted, count_class, counted}
use Rattle.book_import.specs.Imports.{Handles}
use Rattle.book_import.specs.EntryWork.{note_of}
use Rattle.book_import.specs.Pieces.{Follows, LeadsSaying, LeadsTo, Saying, SaysAt, SaysSo}
use Rattle.book_import.specs.Groups.{usage_of, AsksOf, HandlesGroup, IsAfter, IsGroup}
use Rattle.book_import.specs.Groups.{StopsAmong}
use Rattle.book_import.proofs.AskLemmas.{IsAsked, asked_saying, refused_saying}
use Rattle.book_import.proofs.EntryLemmas.{says_longer}
use Rattle.book_import.proofs.PieceLemmas.{behind_nothing, behind_then}
use Rattle.book_import.proofs.GatheringLemmas.{usage_one, usage_other}
use Rattle.book_import.proofs.GroupLemmas.{Ahead, ahead_done, other_ahead, usage_ahead}
use Rattle.book_import.proofs.SayingLemmas.{saying_as}

-- what is known at a record of a group
pub record IsNext (records : List (List ℕ)) (i : ℕ) (class : Class) : Type 0 where
  pub bytes : List ℕ
  pub of : class_of bytes ≡ class
  pub more : take (i + 1) records ≡ take i records ++ bytes ∷ []
  pub left : drop i records ≡ bytes ∷ drop (i + 1) records

-- it is known
pub next_in : {group : Group} (records : List (List ℕ)) (i : ℕ) (class d : Class)
    → IsGroup records group → i < length group.classes.items → class ≡ get_or group.classes.items i d
    → IsNext records i class
next_in {group = group} records i class d is within here =
    let short : i < length records =
    omega (arith, within, ap length is.classes, length-map records class_of) in
    record {
      bytes = get_or records i [];
      of = sym (here ∙ ap (λ classes. get_or classes i d) (sym is.classes)
          ∙ get_or-map class_of records i [] d short);
      more = take_more records i [] short;
      left = drop-cons records i [] short ∙ ap (λ n. get_or records i [] ∷ drop n records) (sym (add-one i));
    }

module _ (begins : Seen) (layout : Layout) (text piece : List ℕ) (entry : ImportEntry)
    (before : Receipt) where
  -- the records of the text, under the naming of the beginning
  abbrev pub Begun : Transition
  Begun = LeadsSaying entry begins.naming layout text before

  -- this was done on a ledger after them
  abbrev pub DoneAfter : Seen → Transition → Type 0
  DoneAfter now Made = IsTransition begins now (Follows Begun Made)

  -- so many more were counted, the books gave answers to the first of those that wait, and the import
  -- has said so much
  abbrev pub IsAhead : ImportEntry → List (List ℕ) → List (List ℕ) → List Accepted → Receipt
      → Transition
  IsAhead so records waiting pending receipt =
      Saying (SaysSo so begins.naming layout (text ++ piece))
      (Ahead begins.naming ((front layout text).records ++ records) waiting pending receipt)

  -- nothing yet
  pub group_begins : (waiting : List (List ℕ)) (pending : List Accepted) → pending ≡ []
      → DoneAfter begins (IsAhead entry [] waiting pending before)
  group_begins waiting pending none =
      let naming = begins.naming in
      let first = (front layout text).records in
      work_as begins begins NoEvent (Follows Begun (IsAhead entry [] waiting pending before))
      (λ was book events is nothing begun early book_is leads.
      let all = without_notes (events ++ early) in
      let now = behind_nothing Begun was book events is nothing begun early book_is leads in
      record {
        records = subst (λ pending. Ahead naming (first ++ []) waiting pending before was
            (unjournaled begun) all is) (sym none)
            (nothing_more (LeadsTo naming (first ++ []) before) was (unjournaled begun) all is
            (subst (λ those. LeadsTo naming those before was (unjournaled begun) all is)
            (sym (append-nil first)) now.records));
        said = says_longer (note_of entry) entry.begun entry.ended naming layout text piece begun
            (events ++ early) now.said;
      })
      (no_work begins)

  module _ (now : Seen) (records : List (List ℕ)) (i : ℕ) {class : Class}
      (next_one : IsNext records i class) (so : ImportEntry) (pending : List Accepted)
      (receipt next : Receipt)
      (work : DoneAfter now
      (IsAhead so (take i records) (usage_of (drop i records)) pending receipt)) where
    abbrev started : List (List ℕ)
    started = (front layout text).records ++ take i records

    abbrev rest : List (List ℕ)
    rest = drop (i + 1) records

    -- those before it, and it
    front_more : started ++ next_one.bytes ∷ []
        ≡ (front layout text).records ++ take (i + 1) records
    front_more =
        append_assoc (front layout text).records (take i records) (next_one.bytes ∷ [])
        ∙ ap (λ those. (front layout text).records ++ those) (sym next_one.more)

    -- a record of another class was counted
    pub group_other : (class ≡ Usage → ⊥) → next ≡ count_class class receipt
        → DoneAfter now (IsAhead so (take (i + 1) records) (usage_of rest) pending next)
    group_other other counted =
        let naming = begins.naming in
        let Said = SaysSo so naming layout (text ++ piece) in
        let same : usage_of (drop i records) ≡ usage_of rest =
        ap usage_of next_one.left ∙ usage_other next_one.bytes rest class next_one.of other in
        subst (λ those. DoneAfter now (Saying Said (Ahead naming those (usage_of rest) pending next)))
        front_more
        (work_as begins now _
        (Follows Begun
        (Saying Said (Ahead naming (started ++ next_one.bytes ∷ []) (usage_of rest) pending next)))
        (λ was book events is behind begun early book_is leads.
        saying_as Said (Ahead naming started (usage_of rest) pending receipt)
        (Ahead naming (started ++ next_one.bytes ∷ []) (usage_of rest) pending next)
        (other_ahead naming started (usage_of rest) pending receipt next next_one.bytes class
        next_one.of other counted) was begun (events ++ early) is
        (subst (λ waiting. Saying Said (Ahead naming started waiting pending receipt) was begun
        (events ++ early) is) same (behind begun early book_is leads)))
        work)

    module _ (then_now : Seen) (counts : Receipt) (ending : Option Stop) (left : List Accepted)
        (after : ImportEntry) (usage : class ≡ Usage)
        (asked : pending ≡ []
        → IsAsked layout (text ++ piece) started (drop i records) receipt counts so) where
      -- a usage record was counted
      pub group_usage : (answer : Accepted)
          → IsTransition now then_now (AsksOf now.naming so counts ending
          (usage_of (drop i records)) pending (Ok answer) left)
          → IsAfter so counts ending (usage_of (drop i records)) pending (Ok answer) left after
          → next ≡ count_accepted answer receipt
          → DoneAfter then_now (IsAhead after (take (i + 1) records) (usage_of rest) left next)
      group_usage answer asks heard counted =
          let naming = begins.naming in
          let waiting = usage_of (drop i records) in
          let Said = SaysSo after naming layout (text ++ piece) in
          let Behind = IsAhead so (take i records) waiting pending receipt in
          let Asked : Transition = AsksOf naming so counts ending waiting pending (Ok answer) left in
          let Counted = Saying Said
          (Ahead naming (started ++ next_one.bytes ∷ []) (usage_of rest) left next) in
          let waits : waiting ≡ next_one.bytes ∷ usage_of rest =
          ap usage_of next_one.left ∙ usage_one next_one.bytes rest (next_one.of ∙ usage) in
          subst (λ those. DoneAfter then_now (Saying Said (Ahead naming those (usage_of rest) left next)))
          front_more
          (work_as begins then_now _ (Follows Begun Counted)
          (behind_then Begun Behind Asked Counted
          (λ was book events is both.
          saying_as Said (Ahead naming started (next_one.bytes ∷ usage_of rest) (answer ∷ left) receipt)
          (Ahead naming (started ++ next_one.bytes ∷ []) (usage_of rest) left next)
          (usage_ahead naming started (usage_of rest) left receipt next next_one.bytes answer
          (next_one.of ∙ usage) counted) was book events is
          (subst (λ waiting. Saying Said (Ahead naming started waiting (answer ∷ left) receipt) was book
          events is) waits
          (asked_saying naming layout (text ++ piece) started (drop i records) receipt counts so ending
          pending left answer after asked heard was book events is both))))
          (work_then begins now then_now (Follows Begun Behind) Asked work
          (subst (λ naming. IsTransition now then_now
          (AsksOf naming so counts ending waiting pending (Ok answer) left)) work.naming asks)))

      -- it was refused
      pub group_refused : (fault : LedgerFault)
          → IsTransition now then_now (AsksOf now.naming so counts ending
          (usage_of (drop i records)) pending (Err fault) left)
          → IsAfter so counts ending (usage_of (drop i records)) pending (Err fault) left after
          → IsTransition begins then_now
          (HandlesGroup begins.naming layout text piece records entry after before receipt (Err fault))
      group_refused fault asks heard =
          let naming = begins.naming in
          let first = (front layout text).records in
          let those = drop i records in
          let Behind = IsAhead so (take i records) (usage_of those) pending receipt in
          let Asked : Transition = AsksOf naming so counts ending (usage_of those) pending (Err fault)
          left in
          let told = record receipt { stop = Ledger fault } in
          let Said = SaysAt (Ledger fault) after naming layout (text ++ piece) in
          work_as begins then_now _ (Follows Begun (Saying Said (StopsAmong naming first records told)))
          (behind_then Begun Behind Asked (Saying Said (StopsAmong naming first records told))
          (λ was book events is both.
          let stopped = refused_saying naming layout (text ++ piece) started rest next_one.bytes receipt
          counts so ending pending left fault after (next_one.of ∙ usage)
          (λ none. subst (λ those. IsAsked layout (text ++ piece) started those receipt counts so)
          next_one.left (asked none))
          (subst (λ those. IsAfter so counts ending (usage_of those) pending (Err fault) left after)
          next_one.left heard)
          was book events is
          (subst (λ those. Then (IsAhead so (take i records) (usage_of those) pending receipt)
          (AsksOf naming so counts ending (usage_of those) pending (Err fault) left) was book
          events is) next_one.left both) in
          record {
            records = λ stop more. subst (λ all. Handles naming stop all told was (unjournaled book)
                (without_notes events) is)
                (append_assoc first (take i records) ((next_one.bytes ∷ rest) ++ more)
                ∙ ap (λ those. first ++ those)
                (sym (append_assoc (take i records) (next_one.bytes ∷ rest) more)
                ∙ ap (λ those. (take i records ++ those) ++ more) (sym next_one.left)
                ∙ ap (λ those. those ++ more) (take-append-drop i records)))
                (stopped.records stop more);
            said = stopped.said;
          }))
          (work_then begins now then_now (Follows Begun Behind) Asked work
          (subst (λ naming. IsTransition now then_now
          (AsksOf naming so counts ending (usage_of those) pending (Err fault) left))
          work.naming asks))

  -- all were handled
  pub group_done : (now : Seen) (records : List (List ℕ)) (i : ℕ) (so : ImportEntry)
      (pending : List Accepted) (receipt : Receipt) → length records ≤ i
      → DoneAfter now (IsAhead so (take i records) (usage_of (drop i records)) pending receipt)
      → IsTransition begins now
      (HandlesGroup begins.naming layout text piece records entry so before receipt (Ok tt))
  group_done now records i so pending receipt long work =
      let naming = begins.naming in
      let first = (front layout text).records in
      let Said = SaysSo so naming layout (text ++ piece) in
      let none : usage_of (drop i records) ≡ [] = ap usage_of (drop_all i records long) in
      work_as begins now _
      (Follows Begun (Saying Said (LeadsTo naming (first ++ records) receipt)))
      (λ was book events is behind begun early book_is leads.
      subst (λ those. Saying Said (LeadsTo naming (first ++ those) receipt) was begun
      (events ++ early) is) (take_all i records long)
      (saying_as Said (Ahead naming (first ++ take i records) [] pending receipt)
      (LeadsTo naming (first ++ take i records) receipt)
      (ahead_done naming (first ++ take i records) pending receipt) was begun (events ++ early) is
      (subst (λ waiting. Saying Said (Ahead naming (first ++ take i records) waiting pending receipt)
      was begun (events ++ early) is) none (behind begun early book_is leads))))
      work
