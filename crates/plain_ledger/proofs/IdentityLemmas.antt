-- Identities of records: which are shared, and what is in dispute.
use Rattle.std.proofs.Common.{◌≡◌, ◌++◌, not, ◌&&◌, ◌||◌, Vec, Global, ◌∙◌, ℕ, List, [], ◌∷◌, refl}
use Rattle.std.proofs.Common.{sym, ap, true, false, Bool, cond, Option, Some, None, vec_len, get_or}
use Rattle.std.proofs.Common.{unwrap_or, filter, map, All, is_eq, option_map, Less, Equal, Greater}
use Rattle.std.proofs.Common.{BTreeSet}
use Rattle.std.specs.Map.{lookup}
use Rattle.std.specs.Option.{UnwrapsOrElse}
use Rattle.std.specs.BTreeMap.{insert_entry, is_at}
use Rattle.std.specs.BTreeSet.{contains}
use Rattle.std.proofs.lemmas.Map.Made.{lookup-map_values}
use Rattle.book_model.proofs.Std.{match_ordering, eq_by_cmp, list_any, texts_ties, bytes_decides}
use Rattle.book_model.proofs.Std.{nat_list_cmp_total, filter-append, map-append, map-map}
use Rattle.book_model.proofs.Std.{exact_bytes}
use Rattle.book_model.specs.declared.dispute.Variant.{Variant}
use Rattle.book_model.specs.Words.{by_bytes, Disputed, set_of, members, Rulings, is_settled}
use Rattle.plain_ledger.specs.Plain.{Entry, variant_at, group_shown, dispute_among, disputes_among}
use Rattle.plain_ledger.specs.Plain.{entry_identity, entry_has_identity, is_disputed, HasDisputed}
use Rattle.plain_ledger.specs.Plain.{is_lone}
use Rattle.book_core.proofs.GroupLemmas.{groups-none, groups-push, lookup-groups}
use Rattle.plain_ledger.proofs.DisputeLemmas.{shared-not_alone}
use Rattle.book_model.proofs.SetLemmas.{map-members_agree}

-- the set holds the identity of the entry
abbrev pub is_among : Rulings → BTreeSet (List ℕ) → Entry → Bool
is_among rulings disputed entry = contains by_bytes disputed (entry_identity rulings entry)

-- the entries with an identity that the set holds are those in dispute
pub among-disputed : (rulings : Rulings) (disputed : BTreeSet (List ℕ)) (entries : List Entry)
    → HasDisputed rulings entries disputed
    → All (λ (entry : Entry).
    is_among rulings disputed entry ≡ is_disputed rulings entries entry) entries
among-disputed rulings disputed entries are k d within =
    let identity = entry_identity rulings (get_or entries k d) in
    are identity
    ∙ ap (λ b. b && not (is_settled rulings identity))
    (shared-not_alone rulings entries k d within)

-- the entries of a map from identities to vectors, with the vectors' items
abbrev pub shown_groups : List (List ℕ × Vec Variant Global) → List (List ℕ × List Variant)
shown_groups groups = map (λ group. (group.0, group.1.items)) groups

-- entries by identity, as a list of disputes shows them
abbrev pub groups_of : Rulings → List Entry → List (List ℕ × List Variant)
groups_of rulings entries =
    map (λ identity. (identity, map variant_at (filter (entry_has_identity rulings identity) entries)))
    (members (set_of by_bytes (map (entry_identity rulings) entries)))

-- no entry makes no group
pub groups_of-none : (rulings : Rulings) → groups_of rulings [] ≡ []
groups_of-none rulings = groups-none nat_list_cmp_total exact_bytes texts_ties
    (entry_identity rulings) (λ identity. map variant_at)

-- the items of the vector that is found, or of a new one
items_found : (found : Option (Vec Variant Global)) (vector : Vec Variant Global)
    → UnwrapsOrElse found (λ (v : Vec Variant Global). (v.items ≡ []) × (vec_len v ≡ 0)) vector
    → vector.items ≡ unwrap_or (option_map (λ (v : Vec Variant Global). v.items) found) []
items_found None vector made = made.0
items_found (Some v) vector same = ap (λ (w : Vec Variant Global). w.items) same

-- an insertion, with the vectors' items
shown_groups-insert_entry : (groups : List (List ℕ × Vec Variant Global)) (identity : List ℕ)
    (vector : Vec Variant Global) → shown_groups (insert_entry by_bytes groups identity vector)
    ≡ insert_entry by_bytes (shown_groups groups) identity vector.items
shown_groups-insert_entry [] identity vector = refl
shown_groups-insert_entry (group ∷ groups) identity vector =
    elim (by_bytes identity group.0)
    as (λ r.
    shown_groups
    (match_ordering r ((identity, vector) ∷ group ∷ groups) ((group.0, vector) ∷ groups)
    (group ∷ insert_entry by_bytes groups identity vector))
    ≡ match_ordering r ((identity, vector.items) ∷ shown_groups (group ∷ groups))
    ((group.0, vector.items) ∷ shown_groups groups)
    ((group.0, group.1.items) ∷ insert_entry by_bytes (shown_groups groups) identity vector.items)) [
      | Less ↦ refl
      | Equal ↦ refl
      | Greater ↦ ap (λ rest. (group.0, group.1.items) ∷ rest)
          (shown_groups-insert_entry groups identity vector)
    ]

-- one more entry joins its group
groups_of-push : (rulings : Rulings) (entries : List Entry) (entry : Entry)
    → groups_of rulings (entries ++ entry ∷ [])
    ≡ insert_entry by_bytes (groups_of rulings entries) (entry_identity rulings entry)
    (unwrap_or (lookup (is_at (by_bytes (entry_identity rulings entry)))
    (groups_of rulings entries)) []
    ++ variant_at entry ∷ [])
groups_of-push rulings entries entry =
    let own = entry_identity rulings entry in
    let here = filter (entry_has_identity rulings own) entries in
    groups-push nat_list_cmp_total exact_bytes texts_ties (entry_identity rulings)
    (λ identity. map variant_at) entries entry
    ∙ ap (insert_entry by_bytes (groups_of rulings entries) own)
    (map-append variant_at here (entry ∷ [])
    ∙ ap (λ items. items ++ variant_at entry ∷ [])
    (sym (lookup-groups nat_list_cmp_total exact_bytes texts_ties (entry_identity rulings)
    (λ identity. map variant_at) entries own)))

-- the map holds one more record that passes a test
pub shown_groups-more : (rulings : Rulings) (test : Entry → Bool) (done : List Entry)
    (entry : Entry) (own : List ℕ) (groups next : List (List ℕ × Vec Variant Global))
    (had : Option (Vec Variant Global)) (found grown : Vec Variant Global)
    → own ≡ entry_identity rulings entry
    → test entry ≡ true
    → shown_groups groups ≡ groups_of rulings (filter test done)
    → had ≡ lookup (is_at (by_bytes own)) groups
    → UnwrapsOrElse had (λ (v : Vec Variant Global). (v.items ≡ []) × (vec_len v ≡ 0)) found
    → grown.items ≡ found.items ++ variant_at entry ∷ []
    → next ≡ insert_entry by_bytes groups own grown
    → shown_groups next ≡ groups_of rulings (filter test (done ++ entry ∷ []))
shown_groups-more rulings test done entry own groups next had found grown own_is passes kept
    looked_up unwrapped pushed written =
    let all : List Entry → List (List ℕ × List Variant) = groups_of rulings in
    let shown_items : Vec Variant Global → List Variant = λ v. v.items in
    let items = items_found had found unwrapped
    ∙ ap (λ o. unwrap_or (option_map shown_items o) []) looked_up
    ∙ ap (λ o. unwrap_or o [])
    (sym (lookup-map_values shown_items (is_at (by_bytes own)) groups)) in
    ap shown_groups written ∙ shown_groups-insert_entry groups own grown
    ∙ ap (insert_entry by_bytes (shown_groups groups) own)
    (pushed ∙ ap (λ front. front ++ variant_at entry ∷ []) items)
    ∙ ap (λ shown. insert_entry by_bytes shown own
    (unwrap_or (lookup (is_at (by_bytes own)) shown) [] ++ variant_at entry ∷ [])) kept
    ∙ ap (λ own. insert_entry by_bytes (all (filter test done)) own
    (unwrap_or (lookup (is_at (by_bytes own)) (all (filter test done))) []
    ++ variant_at entry ∷ [])) own_is
    ∙ sym (groups_of-push rulings (filter test done) entry)
    ∙ ap (λ more. all (filter test done ++ more))
    (ap (λ b. cond b (entry ∷ []) []) (sym passes))
    ∙ ap all (sym (filter-append test done (entry ∷ [])))

-- the identity is that of other than one entry, and none of it was chosen
abbrev in_dispute : Rulings → List Entry → List ℕ → Bool
in_dispute rulings entries identity =
    not (is_lone rulings entries identity) && not (is_settled rulings identity)

module _ (rulings : Rulings) (entries : List Entry) where
  abbrev disputed : Entry → Bool
  disputed = is_disputed rulings entries

  abbrev known : Entry → List ℕ
  known = entry_identity rulings

  abbrev having : List ℕ → Entry → Bool
  having = entry_has_identity rulings

  -- so it is with an identity of an entry in dispute
  known_disputed : (some : List Entry) (identity : List ℕ)
      → list_any (eq_by_cmp by_bytes identity) (map known (filter disputed some)) ≡ true
      → in_dispute rulings entries identity ≡ true
  known_disputed [] identity has = cc
  known_disputed (entry ∷ some) identity has =
      let rest = filter disputed some in
      elim (disputed entry) as (λ b. disputed entry ≡ b
      → list_any (eq_by_cmp by_bytes identity) (map known (cond b (entry ∷ rest) rest)) ≡ true
      → in_dispute rulings entries identity ≡ true) [
        | false ↦ λ alone. known_disputed some identity
        | true ↦ λ is.
            elim (by_bytes identity (known entry)) as (λ r.
            by_bytes identity (known entry) ≡ r
            → (is_eq r || list_any (eq_by_cmp by_bytes identity) (map known rest)) ≡ true
            → in_dispute rulings entries identity ≡ true) [
              | Less ↦ λ tied. known_disputed some identity
              | Equal ↦ λ tied _. ap (in_dispute rulings entries)
                  (exact_bytes identity (known entry) tied) ∙ is
              | Greater ↦ λ tied. known_disputed some identity
            ] refl
      ] refl has

  -- the entries of an identity in dispute are all in dispute
  filter-disputed : (some : List Entry) (identity : List ℕ)
      → in_dispute rulings entries identity ≡ true
      → filter (having identity) (filter disputed some) ≡ filter (having identity) some
  filter-disputed [] identity is = refl
  filter-disputed (entry ∷ some) identity is =
      let rest = filter-disputed some identity is in
      let left = filter disputed some in
      elim (having identity entry) as (λ b. having identity entry ≡ b
      → filter (having identity) (cond (disputed entry) (entry ∷ left) left)
      ≡ cond b (entry ∷ filter (having identity) some) (filter (having identity) some)) [
        | true ↦ λ has.
            let own : disputed entry ≡ true = ap (in_dispute rulings entries)
            ((bytes_decides (known entry) identity).0 has) ∙ is in
            (λ i. filter (having identity) (cond (own i) (entry ∷ left) left))
            ∙ (λ i. cond (has i) (entry ∷ rest i) (rest i))
        | false ↦ λ has.
            elim (disputed entry)
            as (λ b. filter (having identity) (cond b (entry ∷ left) left)
            ≡ filter (having identity) some) [
              | true ↦ λ i. cond (has i) (entry ∷ rest i) (rest i)
              | false ↦ rest
            ]
      ] refl

  -- the groups of all entries in dispute are the disputes
  pub disputes_among-groups : (groups : List (List ℕ × Vec Variant Global))
      → shown_groups groups ≡ groups_of rulings (filter disputed entries)
      → map group_shown groups ≡ disputes_among rulings entries
  disputes_among-groups groups kept =
      let shown : List ℕ × List Variant
      → Disputed = λ group. record { identity = group.0; members = group.1 } in
      let all = filter disputed entries in
      let identities = map known all in
      sym (map-map shown (λ (group : List ℕ × Vec Variant Global). (group.0, group.1.items)) groups)
      ∙ ap (map shown) kept
      ∙ map-map shown (λ identity. (identity, map variant_at (filter (having identity) all)))
      (members (set_of by_bytes identities))
      ∙ map-members_agree nat_list_cmp_total _ (dispute_among rulings entries) identities
      (λ identity has i. record {
        identity = identity;
        members =
            map variant_at
            (filter-disputed entries identity (known_disputed entries identity has) i);
      })
