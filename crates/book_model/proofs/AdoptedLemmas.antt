-- Under the second rule of identity what was charged stays charged: identities only split.
use Rattle.std.proofs.Common.{◌≡◌, ℕ, List, [], ◌∷◌, ◌++◌, refl, sym, ap, ◌∙◌, true, false}
use Rattle.std.proofs.Common.{true≢false, Bool, cond, not, ◌||◌, ◌&&◌, Option, Some, None, length}
use Rattle.std.proofs.Common.{All, filter, map, take, ◌==◌, if◌then◌else◌, Result, Ok, Err, is_some}
use Rattle.std.proofs.Common.{option_map}
use Rattle.std.proofs.Math.Bool.{and-false, or-true}
use Rattle.std.proofs.Math.Seq.{take-append_seam}
use Rattle.book_model.proofs.Std.{list_any, last_or, option_map_or, nat_list_cmp_total}
use Rattle.book_model.proofs.Std.{false_from_ne_true, nat_list_eq_equiv, exact_bytes, tells_apart}
use Rattle.smf_type30.specs.Usage.{identity2_of}
use Rattle.smf_type30.proofs.IdentityLength.{identity-long}
use Rattle.book_model.specs.declared.answer.Ruled.{Ruled}
use Rattle.book_model.specs.declared.answer.Ruled.TheVariants.{Done, Already}
use Rattle.book_model.specs.declared.fault.LedgerFault.{LedgerFault}
use Rattle.book_model.specs.declared.fault.LedgerFault.TheVariants.{OldRule}
use Rattle.book_model.specs.Words.{IsUsage, identity_of, initiation_of, share_identity, conflict}
use Rattle.book_model.specs.Words.{is_unrivalled, is_chosen, is_preferred, is_undisputed}
use Rattle.book_model.specs.Words.{is_withheld, last_choice, Choice}
use Rattle.book_model.specs.Words.{charged_now, Book, adopt_answer, first_rule, second_rule}
use Rattle.book_model.specs.Words.{Records, same_bytes, Rulings, identity_by, with_second_rule}
use Rattle.book_model.specs.Words.{members, has, IsChoiceOf, AreAmong}
use Rattle.book_model.specs.Laws.{AdoptionTakesNothing}
use Rattle.book_model.proofs.ChargedChanges.{do_conflict, rivalled_by}
use Rattle.book_model.proofs.ChosenLemmas.{all_chosen, any_is, choice_names, chosen_held}
use Rattle.book_model.proofs.ChosenLemmas.{last_chosen-is, last_passing, withheld_names}
use Rattle.book_model.proofs.RecordSets.{is, has_those, first_of, in_those, is_first, not_true}
use Rattle.book_model.proofs.RecordSets.{second_of}
use Rattle.book_model.proofs.SetChanges.{none_passes}
use Rattle.book_model.proofs.SetLemmas.{fails_too, same_bytes-by_cmp}

-- Of some choices, the last whose name passes one test is the last whose name passes a narrower one,
-- where it passes it.
last_narrower : (wide narrow : List ℕ → Bool) (one : Choice) → narrow one.chosen ≡ true
    → (list : List Choice) (was so : Option Choice)
    → ((q : List ℕ) → list_any (is q) (map (λ (choice : Choice). choice.chosen) list) ≡ true
    → narrow q ≡ true → wide q ≡ true)
    → (was ≡ Some one → so ≡ Some one)
    → last_or was (filter (λ (choice : Choice). wide choice.chosen) list) ≡ Some one
    → last_or so (filter (λ (choice : Choice). narrow choice.chosen) list) ≡ Some one
last_narrower wide narrow one passes [] was so narrower before found = before found
last_narrower wide narrow one passes (first ∷ list) was so narrower before found =
    let named : List (List ℕ) = map (λ (choice : Choice). choice.chosen) list in
    let rest = λ (q : List ℕ) (among : list_any (is q) named ≡ true).
    narrower q (ap (λ b. is q first.chosen || b) among ∙ or-true (is q first.chosen)) in
    let own = narrower first.chosen (is_first first.chosen named) in
    let wides : List Choice = filter (λ (choice : Choice). wide choice.chosen) list in
    let narrows : List Choice = filter (λ (choice : Choice). narrow choice.chosen) list in
    elim (narrow first.chosen) as (λ n. narrow first.chosen ≡ n
    → last_or so (cond n (first ∷ narrows) narrows) ≡ Some one) [
      | true ↦ λ in_narrow.
          last_narrower wide narrow one passes list (Some first) (Some first) rest (λ same. same)
          (sym (ap (λ w. last_or was (cond w (first ∷ wides) wides)) (own in_narrow)) ∙ found)
      | false ↦ λ out. elim (wide first.chosen) as (λ w.
          last_or was (cond w (first ∷ wides) wides) ≡ Some one
          → last_or so narrows ≡ Some one) [
            | true ↦ λ found. last_narrower wide narrow one passes list (Some first) so rest
                (λ same. let it : first ≡ one = cc in
                absurd (true≢false (sym passes
                ∙ ap (λ (choice : Choice). narrow choice.chosen) (sym it) ∙ out))) found
            | false ↦ λ found. last_narrower wide narrow one passes list was so rest before found
          ] found
    ] refl

module _ (rulings : Rulings) (held : Records) (chosen : All (IsChoiceOf held) rulings.choices)
    (splits : (a b : List ℕ) → has held a ≡ true → has held b ≡ true
    → share_identity (with_second_rule rulings) a b ≡ true → share_identity rulings a b ≡ true)
  where
    -- the rulings with the second rule
    abbrev ruled : Rulings
    ruled = with_second_rule rulings

    -- a record that had no rival has none
    unrivalled_still : (one : List ℕ) → has held one ≡ true
        → is_unrivalled rulings held one ≡ true → is_unrivalled ruled held one ≡ true
    unrivalled_still one there alone =
        ap not (none_passes (conflict ruled one) held (λ q in_it.
        no_more (same_bytes one q) (share_identity ruled one q) (share_identity rulings one q)
        (splits one q there in_it)
        (fails_too nat_list_cmp_total exact_bytes (conflict rulings one) held q
        (none_any (list_any (conflict rulings one) (members held)) alone) in_it)))
      where
        none_any : (b : Bool) → not b ≡ true → b ≡ false
        none_any true is_not = sym is_not
        none_any false is_not = refl

        no_more : (same narrow wide : Bool) → (narrow ≡ true → wide ≡ true)
            → (not same && wide) ≡ false → (not same && narrow) ≡ false
        no_more same false wide splits apart = and-false (not same)
        no_more same true wide splits apart =
            sym (ap (λ w. not same && w) (splits refl)) ∙ apart

    -- where nothing was chosen of a work, its record is not withheld
    free_still : (one : List ℕ) → has held one ≡ true → last_choice rulings one ≡ None
        → is_withheld ruled one ≡ false
    free_still one there none =
        false_from_ne_true (is_withheld ruled one) (λ withheld.
        withheld_names ruled one withheld (λ named found on shares.
        let wide = splits one named there (chosen_held held rulings.choices chosen named on) shares in
        let some = last_passing (share_identity rulings one) (all_chosen rulings) None
        (any_is (share_identity rulings one) (all_chosen rulings) named on wide) in
        nothing_some some.0 (sym (last_chosen-is rulings one
        ∙ ap (option_map (λ (choice : Choice). choice.chosen)) none) ∙ some.1)))
      where
        nothing_some : (one : List ℕ) → ◌≡◌ {A = Option (List ℕ)} None (Some one) → ⊥
        nothing_some one same = cc

    -- a record that is charged and whose work has a last choice is the one that it names
    is_named : (one : List ℕ) (choice : Choice) → last_choice rulings one ≡ Some choice
        → is_preferred rulings held one ≡ true → one ≡ choice.chosen
    is_named one choice found preferred =
        choice_names rulings one choice found (λ named on shares.
        elim (is one choice.chosen) as (λ t. is one choice.chosen ≡ t → one ≡ choice.chosen) [
          | true ↦ λ same. tells_apart exact_bytes one choice.chosen same
          | false ↦ λ apart.
              let rival = rivalled_by rulings held one choice.chosen
              (chosen_held held rulings.choices chosen choice.chosen on)
              (do_conflict rulings one choice.chosen apart shares) in
              let not_it : is_chosen rulings one ≡ false =
              ap (λ last. option_map_or (same_bytes one) last false) named
              ∙ (λ i. same_bytes-by_cmp i one choice.chosen) ∙ apart in
              absurd (true≢false (sym preferred ∙ (λ i. rival i || not_it i)))
        ] refl)

    -- so what was charged is charged
    pub charged_still : AreAmong (charged_now rulings held) (charged_now ruled held)
    charged_still one was =
        let there = in_those (is_undisputed rulings held) held one was in
        let undisputed = first_of (is_undisputed rulings held one) (has held one)
        (sym (has_those (is_undisputed rulings held) held one) ∙ was) in
        let counts : is_withheld rulings one ≡ false =
        not_true (is_withheld rulings one)
        (first_of (not (is_withheld rulings one)) (is_preferred rulings held one) undisputed) in
        let preferred : is_preferred rulings held one ≡ true =
        second_of (not (is_withheld rulings one)) (is_preferred rulings held one) undisputed in
        has_those (is_undisputed ruled held) held one
        ∙ elim (last_choice rulings one) as (λ last. last_choice rulings one ≡ last
        → (is_undisputed ruled held one && has held one) ≡ true) [
          | None ↦ λ none.
              let lone : is_unrivalled rulings held one ≡ true =
              alone (is_unrivalled rulings held one) (is_chosen rulings one) preferred
              (ap (λ last. option_map_or (same_bytes one) last false)
              (last_chosen-is rulings one
              ∙ ap (option_map (λ (choice : Choice). choice.chosen)) none)) in
              λ i. (not (free_still one there none i)
              && (unrivalled_still one there lone i || is_chosen ruled one)) && there i
          | Some choice ↦ λ found.
              let it : one ≡ choice.chosen = is_named one choice found preferred in
              let last : last_choice ruled one ≡ Some choice =
              last_narrower (share_identity rulings one) (share_identity ruled one) choice
              (ap (share_identity ruled one) (sym it)
              ∙ nat_list_eq_equiv.refl (identity_by ruled one)) rulings.choices None None
              (λ q among. splits one q there
              (chosen_held held rulings.choices chosen q among))
              (λ same. same) found in
              let counts_too : is_withheld ruled one ≡ false =
              ap (λ last. option_map_or (λ (choice : Choice). not choice.counts) last false)
              (last ∙ sym found) ∙ counts in
              let chosen_too : is_chosen ruled one ≡ true =
              ap (λ last. option_map_or (same_bytes one) last false)
              (last_chosen-is ruled one
              ∙ ap (option_map (λ (choice : Choice). choice.chosen)) last)
              ∙ ap (same_bytes one) (sym it) ∙ nat_list_eq_equiv.refl one in
              (λ i. (not (counts_too i) && (is_unrivalled ruled held one || chosen_too i)) && there i)
              ∙ ap (λ b. b && true) (or-true (is_unrivalled ruled held one))
        ] refl
      where
        alone : (u x : Bool) → (u || x) ≡ true → x ≡ false → u ≡ true
        alone true x both none = refl
        alone false x both none = absurd (true≢false (sym both ∙ none))

-- Records that measure work and have one identity by the second rule have one by the first: its
-- bytes come first.
pub identities_split : (a b : List ℕ) → IsUsage a → IsUsage b
    → same_bytes (identity2_of a) (identity2_of b) ≡ true
    → same_bytes (identity_of a) (identity_of b) ≡ true
unfolding identity2_of
identities_split a b usage_a usage_b same =
    let behind : List ℕ → List ℕ = λ bytes. initiation_of bytes in
    let both : identity_of a ++ behind a ≡ identity_of b ++ behind b =
    tells_apart exact_bytes (identity_of a ++ behind a) (identity_of b ++ behind b)
    (sym (λ i. same_bytes-by_cmp i (identity_of a ++ behind a) (identity_of b ++ behind b))
    ∙ same) in
    let one : identity_of a ≡ identity_of b =
    sym (take-append_seam (identity_of a) (behind a))
    ∙ ap (λ n. take n (identity_of a ++ behind a))
    (identity-long a usage_a ∙ sym (identity-long b usage_b))
    ∙ ap (take (length (identity_of b))) both
    ∙ take-append_seam (identity_of b) (behind b) in
    ap (same_bytes (identity_of a)) (sym one) ∙ nat_list_eq_equiv.refl (identity_of a)

-- the second rule is adopted where no period adopted it
none_adopted : (was : Option ℕ)
    → ◌≡◌ {A = Result Ruled LedgerFault} (if second_rule == (if is_some was then second_rule
    else first_rule) then Ok Already
    else if second_rule == second_rule then Ok Done else Err OldRule) (Ok Done)
    → was ≡ None
none_adopted None done = refl
none_adopted (Some period) done = cc

-- so the rule was the first until then
pub first_adopted : (book : Book) → adopt_answer book.rulings second_rule ≡ Ok Done
    → book.rulings.adopted ≡ None
first_adopted book done = none_adopted book.rulings.adopted done

-- the law of it
pub adoption_takes_nothing : AdoptionTakesNothing
adoption_takes_nothing naming book sound usage done =
    charged_still book.rulings book.held sound.chosen (λ a b there too same.
    ap (λ was. same_bytes (option_map_or (λ period. identity2_of a) was (identity_of a))
    (option_map_or (λ period. identity2_of b) was (identity_of b))) (first_adopted book done)
    ∙ identities_split a b ((usage a there).usage) ((usage b too).usage) same)
