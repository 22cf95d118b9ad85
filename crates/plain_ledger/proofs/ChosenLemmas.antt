-- What a plain ledger answers to a choice, by the record that is meant.
use Rattle.std.proofs.Common.{◌≡◌, ◌∙◌, ◌++◌, ℕ, List, [], ◌∷◌, length, refl, sym, ap, map, Bool}
use Rattle.std.proofs.Common.{true, false, true≢false, cond, Option, Some, None, is_some, Result}
use Rattle.std.proofs.Common.{Ok, Err, ◌≤◌, ◌<◌, subst, arith, if◌then◌else◌, All, nat_le, not, ◌&&◌}
use Rattle.std.specs.BTreeMap.{is_at}
use Rattle.std.specs.Map.{keys_of, lookup}
use Rattle.std.specs.Rc.{rc_slice_items}
use Rattle.book_model.proofs.Std.{IsStrictlySortedBy, nat_tests, map-append, All-head, All-tail}
use Rattle.book_model.proofs.Std.{exact_bytes, tells_apart}
use Rattle.book_model.specs.declared.answer.Ruled.{Ruled}
use Rattle.book_model.specs.declared.answer.Ruled.TheVariants.{Done, Already}
use Rattle.book_model.specs.declared.fault.LedgerFault.{LedgerFault}
use Rattle.book_model.specs.declared.fault.LedgerFault.TheVariants.{Full, NoSuchRecord, NotDisputed}
use Rattle.book_model.specs.Words.{Book, Choice, IsBookCall, Naming, Rulings, after_any, by_bytes}
use Rattle.book_model.specs.Words.{if_done, choose_outcome, chosen_answer, is_chosen, is_withheld}
use Rattle.book_model.specs.Words.{is_unrivalled, most_choices, open_by, record_named, with_named}
use Rattle.book_model.specs.Words.{was_withheld, withheld_answer, withhold_outcome}
use Rattle.book_model.proofs.AnswerLemmas.{answers_itself, ruling_calls}
use Rattle.book_model.proofs.Lemmas.{named_held}
use Rattle.plain_ledger.specs.declared.chosen.ChosenRecord.{ChosenRecord}
use Rattle.plain_ledger.specs.declared.treatment.ClosedPeriod.{ClosedPeriod}
use Rattle.plain_ledger.specs.declared.held.HeldRecord.{HeldRecord}
use Rattle.plain_ledger.specs.Choices.{choice_of}
use Rattle.plain_ledger.specs.Plain.{AreBooked, Entry, held_in, is_alone, record_of, with_choices}
use Rattle.plain_ledger.specs.PlainBook.{book_with}
use Rattle.plain_ledger.specs.Treatments.{Names, under_name}
use Rattle.plain_ledger.proofs.ChargedLemmas.{each_unrivalled}
use Rattle.plain_ledger.proofs.HeldLemmas.{bytes_of, has-found, named-held}
use Rattle.book_core.proofs.NamedLemmas.{is_some-named, its_name, same_texts}
use Rattle.book_core.proofs.RulingLemmas.{meant_by, withheld_by}

-- what holds of each entry holds of the one that is found by a test that only its key passes
pub found_holds : {K X : Type 0} (P : K × X → Type 0) (test : K → Bool) (key : K)
    → ((other : K) → test other ≡ true → key ≡ other)
    → (entries : List (K × X)) (x : X) → All P entries → lookup test entries ≡ Some x → P (key, x)
found_holds P test key exact [] x all found = cc
found_holds P test key exact (entry ∷ entries) x all found =
    elim (test entry.0) as (λ b. test entry.0 ≡ b
    → cond b (Some entry.1) (lookup test entries) ≡ Some x → P (key, x)) [
      | true ↦ λ passes found.
          let same : entry.1 ≡ x = cc in
          subst P (λ i. (sym (exact entry.0 passes) i, same i)) (All-head P entry entries all)
      | false ↦ λ fails found.
          found_holds P test key exact entries x (All-tail P entry entries all) found
    ] refl found

-- the answer to the choice of a record, by the tests in their order
abbrev pub chosen_by : Bool → Bool → Bool → Result Ruled LedgerFault
chosen_by alone chosen full =
    if alone then Err NotDisputed
    else if chosen then Ok Already
    else if full then Err Full
    else Ok Done

-- a choice that was asked for, by the record that is meant
choose_calls : (naming : Naming) (name : List ℕ) (old new : Book) (meant : Option (List ℕ))
    (result : Result Ruled LedgerFault) → record_named naming old.held name ≡ meant
    → chosen_answer old meant ≡ result → new ≡ after_any (if_done (meant_by None meant) result) old
    → IsBookCall (λ (value : Ruled). value) old new result (choose_outcome naming None name)
choose_calls naming name old new meant result found answer changed =
    ruling_calls (choose_outcome naming None name)
    (meant_by None (record_named naming old.held name)) old new result refl
    (answers_itself result _ (ap (chosen_answer old) found ∙ answer))
    (changed ∙ ap (λ one. after_any (if_done (meant_by None one) result) old) (sym found))

-- the answer to the choice of none, by the tests in their order
abbrev pub none_by : Bool → Bool → Result Ruled LedgerFault
none_by withheld full =
    if withheld then Ok Already
    else if full then Err Full
    else Ok Done

-- a choice of none that was asked for, by the record that is meant
withhold_calls : (naming : Naming) (name : List ℕ) (old new : Book) (meant : Option (List ℕ))
    (result : Result Ruled LedgerFault) → record_named naming old.held name ≡ meant
    → withheld_answer old meant ≡ result
    → new ≡ after_any (if_done (withheld_by None meant) result) old
    → IsBookCall (λ (value : Ruled). value) old new result (withhold_outcome naming None name)
withhold_calls naming name old new meant result found answer changed =
    ruling_calls (withhold_outcome naming None name)
    (withheld_by None (record_named naming old.held name)) old new result refl
    (answers_itself result _ (ap (withheld_answer old) found ∙ answer))
    (changed ∙ ap (λ one. after_any (if_done (withheld_by None one) result) old) (sym found))

-- whether there are that many, by the comparison
pub at_least : (most n : ℕ) → most ≤ n → true ≡ nat_le most n
at_least most n many = grind (arith, nat_tests)

pub below : (most n : ℕ) → n < most → false ≡ nat_le most n
below most n few = grind (arith, nat_tests)

module _ {naming : Naming} {rulings : Rulings} {entries : List Entry} {total : ℕ}
    (kept : AreBooked naming rulings entries total)
    (rising : IsStrictlySortedBy by_bytes (keys_of entries)) where
  -- no record is meant where none has the name
  pub named-missing : (name : List ℕ) → under_name name entries ≡ None
      → record_named naming (held_in entries) name ≡ None
  named-missing name missing =
      is_none (record_named naming (held_in entries) name)
      (is_some-named naming (held_in entries) name ∙ named-held kept name ∙ ap is_some missing)
    where
      is_none : (found : Option (List ℕ)) → is_some found ≡ false → found ≡ None
      is_none None none = refl
      is_none (Some one) none = absurd (true≢false none)

  -- else the one that does
  pub named-found : (name : List ℕ) (h : HeldRecord) → under_name name entries ≡ Some h
      → record_named naming (held_in entries) name ≡ Some (record_of h)
  named-found name h found =
      elim (record_named naming (held_in entries) name) as (λ meant.
      record_named naming (held_in entries) name ≡ meant → meant ≡ Some (record_of h)) [
        | None ↦ λ none. absurd (true≢false
            (ap is_some (sym found) ∙ sym (named-held kept name)
            ∙ sym (is_some-named naming (held_in entries) name) ∙ ap is_some none))
        | Some one ↦ λ is.
            let named = sym (its_name naming (held_in entries) name one is) in
            let held = named_held naming (held_in entries) name one is in
            ap Some (sym (same_texts (record_of h) one
            (sym (has-found kept rising one name h named found) ∙ held)))
      ] refl

module _ {naming : Naming} {rulings : Rulings} {entries : List Entry} {total : ℕ}
    (kept : AreBooked naming rulings entries total)
    (rising : IsStrictlySortedBy by_bytes (keys_of entries)) (posted : Names)
    (closed : List ClosedPeriod) (name : List ℕ) where
  abbrev book : Book
  book = book_with rulings entries posted closed

  -- the call, where no record has the name
  pub choose_calls-missing : under_name name entries ≡ None
      → IsBookCall (λ (value : Ruled). value) book book (Err NoSuchRecord)
      (choose_outcome naming None name)
  choose_calls-missing missing =
      choose_calls naming name book book None (Err NoSuchRecord)
      (named-missing kept rising name missing) refl refl

  -- and where one does, by the tests in their order
  pub choose_calls-found : (h : HeldRecord) (new : Book) (alone chosen full : Bool)
      → under_name name entries ≡ Some h
      → alone ≡ (is_alone rulings entries (name, h) && not (was_withheld rulings (record_of h)))
      → chosen ≡ (is_chosen rulings (record_of h) && not (is_withheld rulings (record_of h)))
      → full ≡ nat_le most_choices (length rulings.choices)
      → new ≡ after_any (if_done (meant_by None (Some (record_of h))) (chosen_by alone chosen full)) book
      → IsBookCall (λ (value : Ruled). value) book new (chosen_by alone chosen full)
      (choose_outcome naming None name)
  choose_calls-found h new alone chosen full found is_alone' is_chosen' is_full changed =
      let unrivalled : is_unrivalled rulings (held_in entries) (record_of h)
      ≡ is_alone rulings entries (name, h) =
      found_holds (λ entry. is_unrivalled rulings (held_in entries) (bytes_of entry)
      ≡ is_alone rulings entries entry) (is_at (by_bytes name)) name
      (tells_apart exact_bytes name) entries h (each_unrivalled kept rising) found in
      choose_calls naming name book new (Some (record_of h)) (chosen_by alone chosen full)
      (named-found kept rising name h found)
      (λ i. chosen_by
      ((ap (λ b. b && not (was_withheld rulings (record_of h))) unrivalled ∙ sym is_alone') i)
      (sym is_chosen' i) (sym is_full i))
      changed

  -- the choice of none, where no record has the name
  pub withhold_calls-missing : under_name name entries ≡ None
      → IsBookCall (λ (value : Ruled). value) book book (Err NoSuchRecord)
      (withhold_outcome naming None name)
  withhold_calls-missing missing =
      withhold_calls naming name book book None (Err NoSuchRecord)
      (named-missing kept rising name missing) refl refl

  -- and where one does
  pub withhold_calls-found : (h : HeldRecord) (new : Book) (withheld full : Bool)
      → under_name name entries ≡ Some h
      → withheld ≡ is_withheld rulings (record_of h)
      → full ≡ nat_le most_choices (length rulings.choices)
      → new ≡ after_any (if_done (withheld_by None (Some (record_of h))) (none_by withheld full)) book
      → IsBookCall (λ (value : Ruled). value) book new (none_by withheld full)
      (withhold_outcome naming None name)
  withhold_calls-found h new withheld full found is_withheld' is_full changed =
      withhold_calls naming name book new (Some (record_of h)) (none_by withheld full)
      (named-found kept rising name h found)
      (λ i. none_by (sym is_withheld' i) (sym is_full i))
      changed

-- the rulings with one choice more
pub ruled-chosen : (ruled : Rulings) (choices after : List ChosenRecord) (choice : ChosenRecord)
    (counts : Bool) (bytes : List ℕ) → after ≡ choices ++ choice ∷ []
    → rc_slice_items choice.bytes ≡ bytes → choice.counts ≡ counts
    → choice.period ≡ open_by ruled
    → with_choices after ruled ≡ with_named counts bytes (with_choices choices ruled)
ruled-chosen ruled choices after choice counts bytes is_all is_bytes is_counts is_open =
    let one : choice_of choice
    ≡ record { chosen = bytes; counts = counts; period = open_by ruled } =
    λ i. record { chosen = is_bytes i; counts = is_counts i; period = is_open i } in
    ap (λ (all : List Choice). record ruled { choices = all })
    (ap (map choice_of) is_all ∙ map-append choice_of choices (choice ∷ [])
    ∙ ap (λ last. map choice_of choices ++ last ∷ []) one)
