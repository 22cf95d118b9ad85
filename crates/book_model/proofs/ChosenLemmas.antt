-- Which records are chosen, and which works are withheld: a new record is not chosen, and a new work
-- not withheld; a choice takes the place of the one before; a record that is alone in its identity is
-- chosen where it was ever chosen.
use Rattle.std.proofs.Common.{◌≡◌, ℕ, List, [], ◌∷◌, ◌++◌, map, refl, sym, ap, ◌∙◌, true, false}
use Rattle.std.proofs.Common.{true≢false, Bool, cond, not, ◌||◌, ◌&&◌, Option, Some, None, All}
use Rattle.std.proofs.Common.{filter, option_map}
use Rattle.std.proofs.Math.Bool.{and-false, or-true, or-false}
use Rattle.book_model.proofs.Std.{list_any, last_or, option_map_or, nat_list_eq_equiv, map-append}
use Rattle.book_model.proofs.Std.{All-head, All-tail, filter-append, exact_bytes, tells_apart}
use Rattle.book_model.proofs.Std.{false_from_ne_true}
use Rattle.book_model.specs.Words.{share_identity, is_unrivalled, last_chosen, is_chosen}
use Rattle.book_model.specs.Words.{is_undisputed, charged_now, Records, same_bytes, Rulings, Choice}
use Rattle.book_model.specs.Words.{identity_by, with_choice, with_named, with_withheld, open_by}
use Rattle.book_model.specs.Words.{has, with, those, IsChoiceOf, is_preferred, is_withheld}
use Rattle.book_model.specs.Words.{last_choice}
use Rattle.book_model.proofs.ChargedChanges.{share_back, share_on, do_conflict, rivalled_by}
use Rattle.book_model.proofs.ListLemmas.{last_or-behind}
use Rattle.book_model.proofs.RecordSets.{is, is_itself, same_records, has_with, has_those, is_first}
use Rattle.book_model.proofs.RecordSets.{first_of, second_of, in_those}
use Rattle.book_model.proofs.SetChanges.{except, is_back}
use Rattle.book_model.proofs.SetLemmas.{same_bytes-by_cmp}

-- the records that were chosen
abbrev pub all_chosen : Rulings → List (List ℕ)
all_chosen rulings = map (λ (choice : Choice). choice.chosen) rulings.choices

-- each of them is held
pub chosen_held : (held : Records) (choices : List Choice) → All (IsChoiceOf held) choices
    → (one : List ℕ) → list_any (is one) (map (λ (choice : Choice). choice.chosen) choices) ≡ true
    → has held one ≡ true
chosen_held held [] all one among = absurd (true≢false (sym among))
chosen_held held (choice ∷ choices) all one among =
    let first = All-head (IsChoiceOf held) choice choices all in
    let rest = chosen_held held choices (All-tail (IsChoiceOf held) choice choices all) one in
    elim (is one choice.chosen) as (λ t. is one choice.chosen ≡ t
    → (t || list_any (is one) (map (λ (choice : Choice). choice.chosen) choices)) ≡ true
    → has held one ≡ true) [
      | true ↦ λ same among. ap (has held) (tells_apart exact_bytes one choice.chosen same) ∙ first
      | false ↦ λ apart among. rest among
    ] refl among

-- the last of those of a list that pass a test passes it, and is one of the list, or came before
pub last_passes : {X : Type 0} (p : List ℕ → Bool) (list : List (List ℕ)) (was : Option (List ℕ))
    (one : List ℕ) → last_or was (filter p list) ≡ Some one
    → (was ≡ Some one → X)
    → (list_any (is one) list ≡ true → p one ≡ true → X) → X
last_passes p [] was one found before among = before found
last_passes {X} p (first ∷ list) was one found before among =
    let later = λ (on : list_any (is one) list ≡ true) (passes : p one ≡ true).
    among (ap (λ b. is one first || b) on ∙ or-true (is one first)) passes in
    elim (p first) as (λ b. p first ≡ b
    → last_or was (cond b (first ∷ filter p list) (filter p list)) ≡ Some one → X) [
      | true ↦ λ e found. last_passes p list (Some first) one found
          (λ at. let same : first ≡ one = cc in
          among (ap (λ b. b || list_any (is one) list) (ap (is one) same ∙ is_itself one))
          (ap p (sym same) ∙ e)) later
      | false ↦ λ e found. last_passes p list was one found before later
    ] refl found

-- a list has a last element, and what comes before it
last_some : {X : Type 0} (was : X) (list : List X)
    → (last : X) × (last_or (Some was) list ≡ Some last)
last_some was [] = (was, refl)
last_some was (x ∷ list) = last_some x list

-- so there is a last of those that pass a test, where one does
pub last_passing : (p : List ℕ → Bool) (list : List (List ℕ)) (was : Option (List ℕ))
    → list_any p list ≡ true → (last : List ℕ) × (last_or was (filter p list) ≡ Some last)
last_passing p [] was some = absurd (true≢false (sym some))
last_passing p (x ∷ list) was some =
    elim (p x) as (λ b. (b || list_any p list) ≡ true
    → (last : List ℕ) × (last_or was (cond b (x ∷ filter p list) (filter p list)) ≡ Some last)) [
      | true ↦ λ some. last_some x (filter p list)
      | false ↦ λ some. last_passing p list was some
    ] some

-- a record of a list that passes a test, and one that it is
pub any_is : (p : List ℕ → Bool) (list : List (List ℕ)) (one : List ℕ)
    → list_any (is one) list ≡ true → p one ≡ true → list_any p list ≡ true
any_is p [] one on passes = absurd (true≢false (sym on))
any_is p (x ∷ list) one on passes =
    elim (is one x) as (λ t. is one x ≡ t → (t || list_any (is one) list) ≡ true
    → (p x || list_any p list) ≡ true) [
      | true ↦ λ same on.
          ap (λ b. b || list_any p list)
          (ap p (sym (tells_apart exact_bytes one x same)) ∙ passes)
      | false ↦ λ apart on. ap (λ b. p x || b) (any_is p list one on passes) ∙ or-true (p x)
    ] refl on

-- the last name that passes a test is the name of the last choice whose name does
last-named : (p : List ℕ → Bool) (choices : List Choice) (was : Option Choice)
    → last_or (option_map (λ (choice : Choice). choice.chosen) was)
    (filter p (map (λ (choice : Choice). choice.chosen) choices))
    ≡ option_map (λ (choice : Choice). choice.chosen)
    (last_or was (filter (λ (choice : Choice). p choice.chosen) choices))
last-named p [] was = refl
last-named p (first ∷ choices) was =
    let named : Choice → List ℕ = λ choice. choice.chosen in
    let passing : List Choice = filter (λ (choice : Choice). p choice.chosen) choices in
    elim (p first.chosen) as (λ b. last_or (option_map named was)
    (cond b (first.chosen ∷ filter p (map named choices)) (filter p (map named choices)))
    ≡ option_map named (last_or was (cond b (first ∷ passing) passing))) [
      | true ↦ last-named p choices (Some first)
      | false ↦ last-named p choices was
    ]

-- nothing is something
nothing : (one : List ℕ) → ◌≡◌ {A = Option (List ℕ)} None (Some one) → ⊥
nothing one same = cc

module _ (rulings : Rulings) where
  -- a record that is chosen is one of those that were chosen
  pub chosen_among : (one : List ℕ) → is_chosen rulings one ≡ true
      → list_any (is one) (all_chosen rulings) ≡ true
  chosen_among one chosen =
      elim (last_chosen rulings one) as (λ last. last_chosen rulings one ≡ last
      → option_map_or (same_bytes one) last false ≡ true
      → list_any (is one) (all_chosen rulings) ≡ true) [
        | None ↦ λ e none. absurd (true≢false (sym none))
        | Some other ↦ λ e same.
            let it : one ≡ other =
            tells_apart exact_bytes one other (sym (λ i. same_bytes-by_cmp i one other) ∙ same) in
            ap (λ q. list_any (is q) (all_chosen rulings)) it
            ∙ last_passes (share_identity rulings one) (all_chosen rulings) None other e
            (λ none. absurd (nothing other none)) (λ on passes. on)
      ] refl chosen

  -- so a record that is not held is not chosen
  pub new_unchosen : (held : Records) (one : List ℕ) → All (IsChoiceOf held) rulings.choices
      → has held one ≡ false → is_chosen rulings one ≡ false
  new_unchosen held one all new =
      elim (is_chosen rulings one) as (λ b. is_chosen rulings one ≡ b → b ≡ false) [
        | true ↦ λ chosen. absurd (true≢false
            (sym (chosen_held held rulings.choices all one (chosen_among one chosen)) ∙ new))
        | false ↦ λ unchosen. refl
      ] refl

  -- records of one identity have one last choice
  pub same_last : (a b : List ℕ) → share_identity rulings a b ≡ true
      → last_chosen rulings a ≡ last_chosen rulings b
  same_last a b shared =
      λ i. last_or None (filter (λ c. share_on rulings a b c shared i) (all_chosen rulings))

  -- and are withheld together
  pub same_withheld : (a b : List ℕ) → share_identity rulings a b ≡ true
      → is_withheld rulings a ≡ is_withheld rulings b
  same_withheld a b shared =
      λ i. option_map_or (λ (choice : Choice). not choice.counts)
      (last_or None (filter (λ (choice : Choice). share_on rulings a b choice.chosen shared i)
      rulings.choices)) false

  -- the record that was named last is the one of the last choice
  pub last_chosen-is : (one : List ℕ)
      → last_chosen rulings one
      ≡ option_map (λ (choice : Choice). choice.chosen) (last_choice rulings one)
  last_chosen-is one = last-named (share_identity rulings one) rulings.choices None

  -- the last choice, where there is one, names a record of the work
  pub choice_names : {X : Type 0} (one : List ℕ) (choice : Choice)
      → last_choice rulings one ≡ Some choice
      → (last_chosen rulings one ≡ Some choice.chosen
      → list_any (is choice.chosen) (all_chosen rulings) ≡ true
      → share_identity rulings one choice.chosen ≡ true → X) → X
  choice_names one choice found use_it =
      let named : last_chosen rulings one ≡ Some choice.chosen =
      last_chosen-is one
      ∙ ap (option_map (λ (choice : Choice). choice.chosen)) found in
      last_passes (share_identity rulings one) (all_chosen rulings) None choice.chosen named
      (λ none. absurd (nothing choice.chosen none)) (λ on shares. use_it named on shares)

  -- so does the choice that withholds it
  pub withheld_names : {X : Type 0} (one : List ℕ) → is_withheld rulings one ≡ true
      → ((named : List ℕ) → last_chosen rulings one ≡ Some named
      → list_any (is named) (all_chosen rulings) ≡ true
      → share_identity rulings one named ≡ true → X) → X
  withheld_names {X} one withheld use_it =
      elim (last_choice rulings one) as (λ last. last_choice rulings one ≡ last
      → option_map_or (λ (choice : Choice). not choice.counts) last false ≡ true → X) [
        | None ↦ λ e none. absurd (true≢false (sym none))
        | Some choice ↦ λ e counts_not.
            choice_names one choice e (λ named on shares. use_it choice.chosen named on shares)
      ] refl withheld

  -- a work of which no record is held is not withheld
  pub new_unwithheld : (held : Records) (one : List ℕ) → All (IsChoiceOf held) rulings.choices
      → ((q : List ℕ) → has held q ≡ true → share_identity rulings one q ≡ false)
      → is_withheld rulings one ≡ false
  new_unwithheld held one all none =
      false_from_ne_true (is_withheld rulings one) (λ withheld.
      withheld_names one withheld (λ named last on shares.
      true≢false (sym shares ∙ none named (chosen_held held rulings.choices all named on))))

  -- nor is a record that is alone in its identity, and was not chosen
  pub lone_unwithheld : (held : Records) (one : List ℕ) → All (IsChoiceOf held) rulings.choices
      → ((q : List ℕ) → has held q ≡ true → share_identity rulings one q ≡ is one q)
      → is_chosen rulings one ≡ false → is_withheld rulings one ≡ false
  lone_unwithheld held one all alone unchosen =
      false_from_ne_true (is_withheld rulings one) (λ withheld.
      withheld_names one withheld (λ named last on shares.
      let it : is one named ≡ true =
      sym (alone named (chosen_held held rulings.choices all named on)) ∙ shares in
      true≢false (sym (ap (λ found. option_map_or (same_bytes one) found false) last
      ∙ (λ i. same_bytes-by_cmp i one named) ∙ it) ∙ unchosen)))

  -- so one of them is chosen at most
  pub one_chosen : (a b : List ℕ) → share_identity rulings a b ≡ true → is_chosen rulings a ≡ true
      → is_chosen rulings b ≡ true → a ≡ b
  one_chosen a b shared first second =
      elim (last_chosen rulings a) as (λ last. last_chosen rulings a ≡ last
      → option_map_or (same_bytes a) last false ≡ true → a ≡ b) [
        | None ↦ λ e none. absurd (true≢false (sym none))
        | Some other ↦ λ e same.
            let a_is : a ≡ other =
            tells_apart exact_bytes a other (sym (λ i. same_bytes-by_cmp i a other) ∙ same) in
            let too : same_bytes b other ≡ true =
            sym (ap (λ last. option_map_or (same_bytes b) last false)
            (sym (same_last a b shared) ∙ e)) ∙ second in
            a_is ∙ sym (tells_apart exact_bytes b other
            (sym (λ i. same_bytes-by_cmp i b other) ∙ too))
      ] refl first

  -- nothing behind a list leaves it
  behind_none : {X : Type 0} (list : List X) → list ++ [] ≡ list
  behind_none [] = refl
  behind_none (x ∷ list) = ap (λ rest. x ∷ rest) (behind_none list)

  -- a choice takes the place of the last one of its identity
  pub chosen-next : (counts : Bool) (bytes q : List ℕ)
      → is_chosen (with_named counts bytes rulings) q
      ≡ cond (share_identity rulings q bytes) (is q bytes) (is_chosen rulings q)
  chosen-next counts bytes q =
      let choice : Choice =
      record { chosen = bytes; counts = counts; period = open_by rulings } in
      let share : List ℕ → Bool = share_identity rulings q in
      let before : List (List ℕ) = filter share (all_chosen rulings) in
      ap (λ list. option_map_or (same_bytes q) (last_or None (filter share list)) false)
      (map-append (λ (choice : Choice). choice.chosen) rulings.choices (choice ∷ []))
      ∙ ap (λ list. option_map_or (same_bytes q) (last_or None list) false)
      (filter-append share (all_chosen rulings) (bytes ∷ []))
      ∙ elim (share bytes) as (λ b. option_map_or (same_bytes q)
      (last_or None (before ++ cond b (bytes ∷ []) [])) false
      ≡ cond b (is q bytes) (is_chosen rulings q)) [
        | true ↦ ap (λ last. option_map_or (same_bytes q) last false)
            (last_or-behind None before bytes)
            ∙ (λ i. same_bytes-by_cmp i q bytes)
        | false ↦ ap (λ list. option_map_or (same_bytes q) (last_or None list) false)
            (behind_none before)
      ]

  -- and says whether the work is withheld
  pub withheld-next : (counts : Bool) (bytes q : List ℕ)
      → is_withheld (with_named counts bytes rulings) q
      ≡ cond (share_identity rulings q bytes) (not counts) (is_withheld rulings q)
  withheld-next counts bytes q =
      let choice : Choice =
      record { chosen = bytes; counts = counts; period = open_by rulings } in
      let share : Choice → Bool = λ choice. share_identity rulings q choice.chosen in
      let before : List Choice = filter share rulings.choices in
      let withholds : Choice → Bool = λ choice. not choice.counts in
      ap (λ list. option_map_or withholds (last_or None list) false)
      (filter-append share rulings.choices (choice ∷ []))
      ∙ elim (share_identity rulings q bytes) as (λ b. option_map_or withholds
      (last_or None (before ++ cond b (choice ∷ []) [])) false
      ≡ cond b (not counts) (is_withheld rulings q)) [
        | true ↦ ap (λ last. option_map_or withholds last false)
            (last_or-behind None before choice)
        | false ↦ ap (λ list. option_map_or withholds (last_or None list) false)
            (behind_none before)
      ]

  -- Of tests alone: s that a record shares the identity, t that it is the chosen one, u that it has
  -- no rival, x that it was chosen, h that it is held, w that its work was withheld.
  by_choice : (s t u x h w : Bool) → (t ≡ true → s ≡ true) → (t ≡ true → h ≡ true)
      → (s ≡ true → h ≡ true → t ≡ false → u ≡ false)
      → ((not (cond s false w) && (u || cond s t x)) && h)
      ≡ (t || (not s && ((not w && (u || x)) && h)))
  by_choice true true u x true w shares held rival = ap (λ b. b && true) (or-true u)
  by_choice true true u x false w shares held rival = absurd (true≢false (sym (held refl)))
  by_choice true false u x true w shares held rival =
      ap (λ u. (u || false) && true) (rival refl refl refl)
  by_choice true false u x false w shares held rival = and-false (u || false)
  by_choice false true u x h w shares held rival = absurd (true≢false (sym (shares refl)))
  by_choice false false u x h w shares held rival = refl

  -- the same, where the choice is of none
  by_none : (s t u x h w : Bool)
      → ((not (cond s true w) && (u || cond s t x)) && h)
      ≡ (not s && ((not w && (u || x)) && h))
  by_none true t u x h w = refl
  by_none false t u x h w = refl

  -- of a work that is withheld nothing is charged
  pub withheld_uncharged : (held : Records) (bytes : List ℕ) → is_withheld rulings bytes ≡ true
      → has (charged_now rulings held) bytes ≡ false
  withheld_uncharged held bytes withheld =
      has_those (is_undisputed rulings held) held bytes
      ∙ ap (λ w. (not w && is_preferred rulings held bytes) && has held bytes) withheld

  module _ (held : Records) where
    -- what is charged, and has a rival, is chosen
    pub rivalled_chosen : (q : List ℕ) → has (charged_now rulings held) q ≡ true
        → is_unrivalled rulings held q ≡ false → is_chosen rulings q ≡ true
    rivalled_chosen q charged rival =
        let undisputed = first_of (is_undisputed rulings held q) (has held q)
        (sym (has_those (is_undisputed rulings held) held q) ∙ charged) in
        sym (ap (λ u. u || is_chosen rulings q) rival)
        ∙ second_of (not (is_withheld rulings q)) (is_preferred rulings held q) undisputed

    -- so of one identity one record is charged at most: each of two would be the other's rival
    pub one_charged : (a b : List ℕ) → has (charged_now rulings held) a ≡ true
        → has (charged_now rulings held) b ≡ true → share_identity rulings a b ≡ true → a ≡ b
    one_charged a b first second shared =
        elim (is a b) as (λ same. is a b ≡ same → a ≡ b) [
          | true ↦ λ same. tells_apart exact_bytes a b same
          | false ↦ λ apart.
              let in_a = in_those (is_undisputed rulings held) held a first in
              let in_b = in_those (is_undisputed rulings held) held b second in
              let rival = rivalled_by rulings held a b in_b (do_conflict rulings a b apart shared) in
              let rival_too = rivalled_by rulings held b a in_a
              (do_conflict rulings b a (is_back b a ∙ apart) (share_back rulings b a ∙ shared)) in
              one_chosen a b shared (rivalled_chosen a first rival)
              (rivalled_chosen b second rival_too)
        ] refl

  module _ (held : Records) (bytes : List ℕ) where
    -- what was charged before the choice
    abbrev before : Records
    before = charged_now rulings held

    -- what was charged that does not share the identity
    abbrev others : Records
    others = those (λ q. not (share_identity rulings q bytes)) before

    -- a held record of the identity has a rival where this one has
    pub all_rivalled : has held bytes ≡ true → is_unrivalled rulings held bytes ≡ false
        → (q : List ℕ) → share_identity rulings q bytes ≡ true → has held q ≡ true
        → is_unrivalled rulings held q ≡ false
    all_rivalled there rivalled q shared in_it =
        elim (is q bytes) as (λ t. is q bytes ≡ t → is_unrivalled rulings held q ≡ false) [
          | true ↦ λ same.
              ap (is_unrivalled rulings held) (tells_apart exact_bytes q bytes same) ∙ rivalled
          | false ↦ λ apart.
              rivalled_by rulings held q bytes there (do_conflict rulings q bytes apart shared)
        ] refl

    -- what shares the identity, or not, after what was charged before
    others_has : (q : List ℕ) → has others q
        ≡ (not (share_identity rulings q bytes)
        && ((not (is_withheld rulings q) && is_preferred rulings held q) && has held q))
    others_has q =
        has_those (λ q. not (share_identity rulings q bytes)) before q
        ∙ ap (λ b. not (share_identity rulings q bytes) && b)
        (has_those (is_undisputed rulings held) held q)

    -- After the choice it is charged, and of its identity nothing else.
    pub charged-choice : has held bytes ≡ true
        → charged_now (with_choice bytes rulings) held ≡ with others bytes
    charged-choice there =
        same_records (charged_now (with_choice bytes rulings) held) (with others bytes) (λ q.
        let s : Bool = share_identity rulings q bytes in
        let u : Bool = is_unrivalled rulings held q in
        has_those (is_undisputed (with_choice bytes rulings) held) held q
        ∙ (λ i. (not (withheld-next true bytes q i) && (u || chosen-next true bytes q i))
        && has held q)
        ∙ by_choice s (is q bytes) u (is_chosen rulings q) (has held q) (is_withheld rulings q)
        (λ same. ap (λ r. share_identity rulings r bytes) (tells_apart exact_bytes q bytes same)
        ∙ nat_list_eq_equiv.refl (identity_by rulings bytes))
        (λ same. ap (has held) (tells_apart exact_bytes q bytes same) ∙ there)
        (λ shared in_it apart.
        rivalled_by rulings held q bytes there (do_conflict rulings q bytes apart shared))
        ∙ sym (has_with others bytes q ∙ ap (λ b. is q bytes || b) (others_has q)))

    -- After the choice of none nothing of its identity is charged.
    pub charged-withheld : charged_now (with_withheld bytes rulings) held ≡ others
    charged-withheld =
        same_records (charged_now (with_withheld bytes rulings) held) others (λ q.
        let s : Bool = share_identity rulings q bytes in
        let u : Bool = is_unrivalled rulings held q in
        has_those (is_undisputed (with_withheld bytes rulings) held) held q
        ∙ (λ i. (not (withheld-next false bytes q i) && (u || chosen-next false bytes q i))
        && has held q)
        ∙ by_none s (is q bytes) u (is_chosen rulings q) (has held q) (is_withheld rulings q)
        ∙ sym (others_has q))

    -- where nothing of the identity was charged, the others are all that was
    pub others-all : ((q : List ℕ) → has before q ≡ true → share_identity rulings q bytes ≡ false)
        → others ≡ before
    others-all none = same_records others before (λ q.
        has_those (λ q. not (share_identity rulings q bytes)) before q
        ∙ keeps (share_identity rulings q bytes) (has before q) (none q))
      where
        keeps : (s b : Bool) → (b ≡ true → s ≡ false) → (not s && b) ≡ b
        keeps s true apart = ap (λ s. not s && true) (apart refl)
        keeps s false apart = and-false (not s)

    -- where one was, they are all but that one
    pub others-except : (one : List ℕ) → has before one ≡ true
        → share_identity rulings one bytes ≡ true → others ≡ except one before
    others-except one was shared = same_records others (except one before) (λ q.
        has_those (λ q. not (share_identity rulings q bytes)) before q
        ∙ drops (share_identity rulings q bytes) (is q one) (has before q)
        (λ same. ap (λ r. share_identity rulings r bytes) (tells_apart exact_bytes q one same)
        ∙ shared)
        (λ shares in_it. is_one q shares in_it)
        ∙ sym (has_those (λ b. not (is b one)) before q))
      where
        is_one : (q : List ℕ) → share_identity rulings q bytes ≡ true → has before q ≡ true
            → is q one ≡ true
        is_one q shares in_it =
            let back = share_back rulings bytes q ∙ shares in
            let both = sym (share_on rulings bytes q one back)
            ∙ (share_back rulings bytes one ∙ shared) in
            ap (is q) (sym (one_charged held q one in_it was both)) ∙ is_itself q

        drops : (s t b : Bool) → (t ≡ true → s ≡ true) → (s ≡ true → b ≡ true → t ≡ true)
            → (not s && b) ≡ (not t && b)
        drops true t true shares only = ap (λ t. not t && true) (sym (only refl refl))
        drops true t false shares only = sym (and-false (not t))
        drops false true b shares only = absurd (true≢false (sym (shares refl)))
        drops false false b shares only = refl

  -- A record that is alone in its identity among those that were ever chosen is chosen where it was
  -- ever chosen.
  lone_last : (one : List ℕ) (list : List (List ℕ)) (was : Option (List ℕ))
      → ((q : List ℕ) → list_any (is q) list ≡ true → share_identity rulings one q ≡ is one q)
      → option_map_or (same_bytes one) (last_or was (filter (share_identity rulings one) list)) false
      ≡ (list_any (is one) list || option_map_or (same_bytes one) was false)
  lone_last one [] was alone = refl
  lone_last one (first ∷ list) was alone =
      let share : List ℕ → Bool = share_identity rulings one in
      let own = alone first (is_first first list) in
      let rest = λ (q : List ℕ) (among : list_any (is q) list ≡ true).
      alone q (ap (λ b. is q first || b) among ∙ or-true (is q first)) in
      ap (λ s. option_map_or (same_bytes one) (last_or was
      (cond s (first ∷ filter share list) (filter share list))) false) own
      ∙ elim (is one first) as (λ t. is one first ≡ t → option_map_or (same_bytes one)
      (last_or was (cond t (first ∷ filter share list) (filter share list))) false
      ≡ ((t || list_any (is one) list) || option_map_or (same_bytes one) was false)) [
        | true ↦ λ same. lone_last one list (Some first) rest
            ∙ ap (λ b. list_any (is one) list || b)
            ((λ i. same_bytes-by_cmp i one first) ∙ same)
            ∙ or-true (list_any (is one) list)
        | false ↦ λ apart. lone_last one list was rest
      ] refl

  pub lone_chosen : (held : Records) (one : List ℕ) → All (IsChoiceOf held) rulings.choices
      → ((q : List ℕ) → has held q ≡ true → share_identity rulings one q ≡ is one q)
      → is_chosen rulings one ≡ list_any (is one) (all_chosen rulings)
  lone_chosen held one all alone =
      lone_last one (all_chosen rulings) None
      (λ q among. alone q (chosen_held held rulings.choices all q among))
      ∙ or-false (list_any (is one) (all_chosen rulings))
