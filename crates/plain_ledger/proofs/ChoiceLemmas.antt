-- The choices of a plain ledger: which record was chosen last of an identity, which identities are
-- settled, and which works are withheld.
use Rattle.std.proofs.Common.{◌≡◌, ◌∙◌, ◌++◌, ◌+◌, ◌<◌, ℕ, List, [], ◌∷◌, length, get_or, take}
use Rattle.std.proofs.Common.{refl, sym, ap, map, Bool, true, false, cond, not, ◌||◌, ◌&&◌, Option}
use Rattle.std.proofs.Common.{Some, None, append-nil, filter, find, reverse, BTreeSet, Global}
use Rattle.std.proofs.Common.{option_map}
use Rattle.std.specs.BTreeMap.{get, is_at}
use Rattle.std.specs.BTreeSet.{contains}
use Rattle.std.specs.Rc.{rc_slice_items}
use Rattle.std.specs.declared.rc.RcSlice.{RcSlice}
use Rattle.std.proofs.Math.Bool.{and-false, or-false, or-true}
use Rattle.book_model.proofs.Std.{texts_ties, last_or, option_map_or, option_or, nat_list_eq_equiv}
use Rattle.book_model.proofs.Std.{reverse-append, take_more, filter-append, find-append}
use Rattle.book_model.proofs.Std.{list_any, list_any-append, map-append, map-map}
use Rattle.book_model.specs.Words.{by_bytes, same_bytes, identity_by, is_chosen, is_settled, Choice}
use Rattle.book_model.specs.Words.{Rulings, is_withheld, last_choice, share_identity, was_withheld}
use Rattle.book_model.proofs.LatestLemmas.{or-none}
use Rattle.book_model.proofs.Lemmas.{filter-map, last_or-behind, list_any-map}
use Rattle.plain_ledger.specs.declared.chosen.ChosenRecord.{ChosenRecord}
use Rattle.plain_ledger.specs.declared.held.HeldRecord.{HeldRecord}
use Rattle.plain_ledger.specs.Choices.{AreLast, ByIdentity, Counts, DoCount, choice_of, is_of}
use Rattle.plain_ledger.specs.Choices.{last_at, last_of, withholds}
use Rattle.plain_ledger.specs.Plain.{record_of, rulings_of}

-- the choices so far, and the next one
pub next_choices : (choices : List ChosenRecord) (i : ℕ) (choice : ChosenRecord)
    → i < length choices → choice ≡ get_or choices i choice
    → take (i + 1) choices ≡ take i choices ++ choice ∷ []
next_choices choices i choice within is =
    take_more choices i choice within ∙ ap (λ one. take i choices ++ one ∷ []) (sym is)

-- what is found from the end of a list is the last that passes
last-passing : {X : Type 0} (p : X → Bool) (was : Option X) (xs : List X)
    → last_or was (filter p xs) ≡ option_or (find p (reverse xs)) was
last-passing p was [] = refl
last-passing p was (x ∷ xs) =
    let behind = find p (reverse xs) in
    elim (p x) as (λ b. last_or was (cond b (x ∷ filter p xs) (filter p xs))
    ≡ option_or (option_or behind (cond b (Some x) None)) was) [
      | true ↦ last-passing p (Some x) xs ∙ either behind x
      | false ↦ last-passing p was xs ∙ ap (λ found. option_or found was) (sym (or-none behind))
    ]
    ∙ ap (λ found. option_or found was) (sym (find-append p (reverse xs) (x ∷ [])))
    ∙ ap (λ all. option_or (find p all) was) (sym (reverse-append (x ∷ []) xs))
  where
    either : (found : Option _) (x : _)
        → option_or found (Some x) ≡ option_or (option_or found (Some x)) was
    either None x = refl
    either (Some y) x = refl

-- the last of results is the result of the last
last_or-map : {X Y : Type 0} (f : X → Y) (was : Option X) (xs : List X)
    → last_or (option_map f was) (map f xs) ≡ option_map f (last_or was xs)
last_or-map f was [] = refl
last_or-map f was (x ∷ xs) = last_or-map f (Some x) xs

-- a choice counts
abbrev counts_of : Choice → Bool
counts_of choice = choice.counts

-- the bytes of a record that was chosen
abbrev chosen_bytes : ChosenRecord → List ℕ
chosen_bytes choice = rc_slice_items choice.bytes

-- a key of a map by identities is the identity that is looked for
key_is : (identity key : List ℕ) → is_at (by_bytes key) identity ≡ same_bytes identity key
key_is identity key = sym (texts_ties key identity) ∙ nat_list_eq_equiv.symm key identity

module _ (adopted : Option ℕ) where
  -- the rulings of such choices, by the rule in force
  abbrev pub ruled : List ChosenRecord → Rulings
  ruled choices = rulings_of choices adopted

  -- a choice is of an identity
  abbrev of_it : List ℕ → ChosenRecord → Bool
  of_it identity choice = is_of (ruled []) identity choice

  -- the record that was chosen last of an identity is that of the last choice of the identity
  last_of-choice : (choices : List ChosenRecord) (identity : List ℕ)
      → last_of (ruled choices) identity
      ≡ option_map chosen_bytes (last_or None (filter (of_it identity) choices))
  last_of-choice choices identity =
      let own : List ℕ → Bool = λ bytes. same_bytes identity (identity_by (ruled []) bytes) in
      let chosen : Choice → List ℕ = λ choice. choice.chosen in
      ap (λ all. last_or None (filter own all)) (map-map chosen choice_of choices)
      ∙ ap (last_or None) (filter-map own chosen_bytes choices)
      ∙ last_or-map chosen_bytes None (filter (of_it identity) choices)

  -- so the last choice of a record's identity determines whether the record is chosen
  pub is_chosen-by : (choices : List ChosenRecord) (held : HeldRecord) (identity : List ℕ)
      (found : Option ChosenRecord)
      → identity ≡ identity_by (ruled []) (record_of held)
      → found ≡ find (of_it identity) (reverse choices)
      → option_map_or (λ choice. same_bytes (record_of held) (chosen_bytes choice)) found false
      ≡ is_chosen (ruled choices) (record_of held)
  is_chosen-by choices held identity found own_is is =
      let own = record_of held in
      at_once found
      ∙ ap (λ one. option_map_or (same_bytes own) (option_map chosen_bytes one) false)
      (is ∙ sym (or-none (find (of_it identity) (reverse choices)))
      ∙ sym (last-passing (of_it identity) None choices))
      ∙ ap (λ one. option_map_or (same_bytes own) one false)
      (sym (last_of-choice choices identity) ∙ ap (last_of (ruled choices)) own_is)
    where
      at_once : (found : Option ChosenRecord)
          → option_map_or (λ choice. same_bytes (record_of held) (chosen_bytes choice)) found false
          ≡ option_map_or (same_bytes (record_of held)) (option_map chosen_bytes found) false
      at_once None = refl
      at_once (Some choice) = refl

  -- the last choice of a record's identity is the last one that is of it
  pub last_choice-by : (choices : List ChosenRecord) (bytes identity : List ℕ)
      (found : Option ChosenRecord) → identity ≡ identity_by (ruled []) bytes
      → found ≡ find (of_it identity) (reverse choices)
      → option_map choice_of found ≡ last_choice (ruled choices) bytes
  last_choice-by choices bytes identity found own_is is =
      let own : Choice → Bool =
      λ choice. same_bytes identity (identity_by (ruled []) choice.chosen) in
      ap (option_map choice_of)
      (is ∙ sym (or-none (find (of_it identity) (reverse choices)))
      ∙ sym (last-passing (of_it identity) None choices))
      ∙ sym (last_or-map choice_of None (filter (of_it identity) choices))
      ∙ ap (last_or None) (sym (filter-map own choice_of choices))
      ∙ ap (λ identity. last_or None
      (filter (λ (choice : Choice). same_bytes identity (identity_by (ruled []) choice.chosen))
      (map choice_of choices))) own_is

  -- so it determines whether the work is withheld
  pub is_withheld-by : (choices : List ChosenRecord) (bytes identity : List ℕ)
      (found : Option ChosenRecord) → identity ≡ identity_by (ruled []) bytes
      → found ≡ find (of_it identity) (reverse choices)
      → option_map_or (λ choice. not choice.counts) found false
      ≡ is_withheld (ruled choices) bytes
  is_withheld-by choices bytes identity found own_is is =
      at_once found
      ∙ ap (λ last. option_map_or (λ (choice : Choice). not choice.counts) last false)
      (last_choice-by choices bytes identity found own_is is)
    where
      at_once : (found : Option ChosenRecord)
          → option_map_or (λ choice. not choice.counts) found false
          ≡ option_map_or (λ (choice : Choice). not choice.counts) (option_map choice_of found) false
      at_once None = refl
      at_once (Some choice) = refl

  -- and whether it ever was, any of them
  pub was_withheld-by : (choices : List ChosenRecord) (bytes identity : List ℕ)
      → identity ≡ identity_by (ruled []) bytes
      → list_any (withholds (ruled []) identity) choices ≡ was_withheld (ruled choices) bytes
  was_withheld-by choices bytes identity own_is =
      let none : Choice → Bool =
      λ choice. not choice.counts && share_identity (ruled choices) bytes choice.chosen in
      ap (λ identity. list_any (withholds (ruled []) identity) choices) own_is
      ∙ sym (list_any-map none choice_of choices)

  -- with one choice more, it is the last of its identity
  last_at-more : (done : List ChosenRecord) (choice : ChosenRecord) (identity : List ℕ)
      → option_map counts_of (last_at (ruled (done ++ choice ∷ [])) identity)
      ≡ cond (of_it identity choice) (Some choice.counts)
      (option_map counts_of (last_at (ruled done) identity))
  last_at-more done choice identity =
      let own : Choice → Bool = λ one. same_bytes identity (identity_by (ruled []) one.chosen) in
      let before = filter own (map choice_of done) in
      ap (λ all. option_map counts_of (last_or None (filter own all)))
      (map-append choice_of done (choice ∷ []))
      ∙ ap (λ all. option_map counts_of (last_or None all))
      (filter-append own (map choice_of done) (choice_of choice ∷ []))
      ∙ elim (of_it identity choice) as (λ b. option_map counts_of
      (last_or None (before ++ cond b (choice_of choice ∷ []) []))
      ≡ cond b (Some choice.counts) (option_map counts_of (last_or None before))) [
        | true ↦ ap (option_map counts_of) (last_or-behind None before (choice_of choice))
        | false ↦ ap (λ all. option_map counts_of (last_or None all)) (append-nil before)
      ]

  -- with one choice more, its record is the last of its identity
  last_of-more : (done : List ChosenRecord) (choice : ChosenRecord) (identity : List ℕ)
      → last_of (ruled (done ++ choice ∷ [])) identity
      ≡ cond (of_it identity choice) (Some (chosen_bytes choice)) (last_of (ruled done) identity)
  last_of-more done choice identity =
      let before = filter (of_it identity) done in
      last_of-choice (done ++ choice ∷ []) identity
      ∙ ap (λ all. option_map chosen_bytes (last_or None all))
      (filter-append (of_it identity) done (choice ∷ []))
      ∙ elim (of_it identity choice) as (λ b. option_map chosen_bytes
      (last_or None (before ++ cond b (choice ∷ []) []))
      ≡ cond b (Some (chosen_bytes choice)) (option_map chosen_bytes (last_or None before))) [
        | true ↦ ap (option_map chosen_bytes) (last_or-behind None before choice)
        | false ↦ ap (λ all. option_map chosen_bytes (last_or None all)) (append-nil before)
      ]
      ∙ ap (cond (of_it identity choice) (Some (chosen_bytes choice)))
      (sym (last_of-choice done identity))

  -- with one choice more, its identity is settled too
  settled-more : (done : List ChosenRecord) (choice : ChosenRecord) (identity : List ℕ)
      → is_settled (ruled (done ++ choice ∷ [])) identity
      ≡ (of_it identity choice || is_settled (ruled done) identity)
  settled-more done choice identity =
      let test : Choice → Bool = λ one. same_bytes (identity_by (ruled []) one.chosen) identity in
      let own : ChosenRecord → Bool = λ one. test (choice_of one) in
      list_any-map test choice_of (done ++ choice ∷ [])
      ∙ list_any-append own done (choice ∷ [])
      ∙ (λ i. sym (list_any-map test choice_of done) i || or-false (own choice) i)
      ∙ ap (λ b. is_settled (ruled done) identity || b)
      (nat_list_eq_equiv.symm (identity_by (ruled []) (chosen_bytes choice)) identity)
      ∙ either (is_settled (ruled done) identity) (of_it identity choice)
    where
      either : (a b : Bool) → (a || b) ≡ (b || a)
      either true b = sym (or-true b)
      either false b = sym (or-false b)

  -- one choice more, by the key of its record
  module _ (done : List ChosenRecord) (choice : ChosenRecord) (key : List ℕ)
      (is : key ≡ identity_by (ruled []) (chosen_bytes choice)) where
    of_key : (identity : List ℕ) → is_at (by_bytes key) identity ≡ of_it identity choice
    of_key identity = key_is identity key ∙ ap (same_bytes identity) is

    -- a map of the last ones has it, once it was put there
    pub last-put : (copy : RcSlice ℕ Global) (records next : ByIdentity)
        → rc_slice_items copy ≡ chosen_bytes choice → AreLast (ruled done) records
        → ((identity : List ℕ) → get by_bytes next identity
        ≡ cond (is_at (by_bytes key) identity) (Some copy) (get by_bytes records identity))
        → AreLast (ruled (done ++ choice ∷ [])) next
    last-put copy records next copied are put identity =
        let items : RcSlice ℕ Global → List ℕ = λ bytes. rc_slice_items bytes in
        ap (option_map items) (put identity)
        ∙ ap (λ b. option_map items (cond b (Some copy) (get by_bytes records identity)))
        (of_key identity)
        ∙ elim (of_it identity choice) as (λ b.
        option_map items (cond b (Some copy) (get by_bytes records identity))
        ≡ cond b (Some (chosen_bytes choice)) (last_of (ruled done) identity)) [
          | true ↦ ap Some copied
          | false ↦ are identity
        ]
        ∙ sym (last_of-more done choice identity)

    -- so does a map that says whether it counts
    pub counts-put : (counts next : Counts) → DoCount (ruled done) counts
        → ((identity : List ℕ) → get by_bytes next identity
        ≡ cond (is_at (by_bytes key) identity) (Some choice.counts) (get by_bytes counts identity))
        → DoCount (ruled (done ++ choice ∷ [])) next
    counts-put counts next are put identity =
        put identity
        ∙ ap (λ b. cond b (Some choice.counts) (get by_bytes counts identity)) (of_key identity)
        ∙ ap (cond (of_it identity choice) (Some choice.counts)) (are identity)
        ∙ sym (last_at-more done choice identity)

    -- a set of those that are not settled loses its identity
    pub unsettled-more : (shared : List ℕ → Bool) (before after : BTreeSet (List ℕ))
        → ((identity : List ℕ) → contains by_bytes before identity
        ≡ (shared identity && not (is_settled (ruled done) identity)))
        → ((identity : List ℕ) → contains by_bytes after identity
        ≡ cond (is_at (by_bytes key) identity) false (contains by_bytes before identity))
        → (identity : List ℕ) → contains by_bytes after identity
        ≡ (shared identity && not (is_settled (ruled (done ++ choice ∷ [])) identity))
    unsettled-more shared before after are dropped identity =
        let settled = is_settled (ruled done) identity in
        dropped identity
        ∙ ap (λ b. cond b false (contains by_bytes before identity)) (of_key identity)
        ∙ ap (cond (of_it identity choice) false) (are identity)
        ∙ elim (of_it identity choice) as (λ b. cond b false (shared identity && not settled)
        ≡ (shared identity && not (b || settled))) [
          | true ↦ sym (and-false (shared identity))
          | false ↦ refl
        ]
        ∙ ap (λ b. shared identity && not b) (sym (settled-more done choice identity))
