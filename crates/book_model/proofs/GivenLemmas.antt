-- Results of a partial function for distinct records: they are distinct, and which they are.
use Rattle.std.proofs.Common.{◌≡◌, ℕ, List, [], ◌∷◌, refl, sym, ap, ◌∙◌, subst, true, false}
use Rattle.std.proofs.Common.{true≢false, Bool, ◌||◌, Option, Some, None, filter_map, Contains}
use Rattle.std.proofs.Math.Bool.{or-true}
use Rattle.book_model.proofs.Std.{list_any, cons_option, option_map_or, Contains-append_right}
use Rattle.book_model.proofs.Std.{exact_bytes, tells_apart}
use Rattle.book_model.proofs.PermutedSets.{Apart, first_or, has_first, has_none}
use Rattle.book_model.proofs.RecordSets.{is, is_first}
use Rattle.book_model.proofs.SetChanges.{none_among}

-- one result of a partial function passes a test
pub any-given : {X Y : Type 0} (p : Y → Bool) (give : X → Option Y) (xs : List X)
    → list_any p (filter_map give xs) ≡ list_any (λ x. option_map_or p (give x) false) xs
any-given p give [] = refl
any-given p give (x ∷ xs) =
    let rest = any-given p give xs in
    elim (give x) as (λ given. list_any p (cons_option given (filter_map give xs))
    ≡ (option_map_or p given false || list_any (λ x. option_map_or p (give x) false) xs)) [
      | None ↦ rest
      | Some y ↦ ap (λ b. p y || b) rest
    ]

-- the results of a partial function for distinct records are distinct, if it distinguishes them
pub given-apart : {Y : Type 0} (e : Y → Y → Bool) (give : List ℕ → Option Y) (ks : List (List ℕ))
    → ((a b : List ℕ) → list_any (is a) ks ≡ true → list_any (is b) ks ≡ true
    → (y z : Y) → give a ≡ Some y → give b ≡ Some z → e y z ≡ true → a ≡ b)
    → Apart is ks → Apart e (filter_map give ks)
given-apart e give [] tells apart = tt
given-apart {Y} e give (k ∷ ks) tells apart =
    let later : (other : List ℕ) → list_any (is other) ks ≡ true
    → list_any (is other) (k ∷ ks) ≡ true =
    λ other among. ap (λ b. is other k || b) among ∙ or-true (is other k) in
    let first : list_any (is k) (k ∷ ks) ≡ true = is_first k ks in
    let rest =
    given-apart e give ks (λ a b one two. tells a b (later a one) (later b two)) apart.1 in
    elim (give k) as (λ given. give k ≡ given → Apart e (cons_option given (filter_map give ks))) [
      | None ↦ λ none. rest
      | Some y ↦ λ some. (
        any-given (e y) give ks
            ∙ none_among (λ other. option_map_or (e y) (give other) false) ks (λ other among.
            elim (give other) as (λ given. give other ≡ given → option_map_or (e y) given false
            ≡ false) [
              | None ↦ λ none. refl
              | Some z ↦ λ too. elim (e y z) as (λ b. e y z ≡ b → b ≡ false) [
                | true ↦ λ tied.
                    let same = tells k other first (later other among) y z some too tied in
                    absurd (true≢false
                    (sym among ∙ ap (λ k. list_any (is k) ks) (sym same) ∙ apart.0))
                | false ↦ λ differ. refl
              ] refl
            ] refl),
        rest,
      )
    ] refl

-- what is given of a record of a list is among what is given of all,
pub given_contains : {Y : Type 0} (give : List ℕ → Option Y) (ks : List (List ℕ)) (k : List ℕ) (y : Y)
    → list_any (is k) ks ≡ true → give k ≡ Some y → Contains (filter_map give ks) y
given_contains give [] k y among its = absurd (true≢false (sym among))
given_contains {Y} give (x ∷ xs) k y among its =
    let others : List Y = filter_map give xs in
    elim (is k x) as (λ b. is k x ≡ b → (b || list_any (is k) xs) ≡ true
    → Contains (cons_option (give x) others) y) [
      | true ↦ λ one there.
          subst (λ given. Contains (cons_option given others) y)
          (sym (ap give (sym (tells_apart exact_bytes k x one)) ∙ its)) (has_first y others)
      | false ↦ λ other there.
          let rest = given_contains give xs k y there its in
          elim (give x) as (λ given. Contains (cons_option given others) y) [
            | None ↦ rest
            | Some z ↦ Contains-append_right (z ∷ []) others y rest
          ]
    ] refl among

-- and what is among that was given of one of them
pub contains_given : {Y : Type 0} (give : List ℕ → Option Y) (ks : List (List ℕ)) (y : Y)
    → Contains (filter_map give ks) y
    → (k : List ℕ) × (list_any (is k) ks ≡ true) × (give k ≡ Some y)
contains_given give [] y among = has_none y among
contains_given {Y} give (x ∷ xs) y among =
    let others : List Y = filter_map give xs in
    let behind : Contains others y
    → (k : List ℕ) × (list_any (is k) (x ∷ xs) ≡ true) × (give k ≡ Some y) =
    λ later.
    let its = contains_given give xs y later in
    (its.0, ap (λ b. is its.0 x || b) its.1 ∙ or-true (is its.0 x), its.2) in
    elim (give x) as (λ given. give x ≡ given → Contains (cons_option given others) y
    → (k : List ℕ) × (list_any (is k) (x ∷ xs) ≡ true) × (give k ≡ Some y)) [
      | None ↦ λ none later. behind later
      | Some z ↦ λ some there. first_or z others y there
          (λ same. (x, is_first x xs, some ∙ ap Some same)) behind
    ] refl among
