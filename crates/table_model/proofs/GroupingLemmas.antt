-- Rows in groups: one more row after them, and rows of one identity before others.
use Rattle.std.proofs.Common.{◌≡◌, ℕ, List, [], ◌∷◌, ◌++◌, map, refl, sym, ap, ◌∙◌, true, false}
use Rattle.std.proofs.Common.{Bool, if◌then◌else◌}
use Rattle.book_model.proofs.Std.{AllByRecursion, nat_list_eq_equiv}
use Rattle.book_model.specs.Words.{Disputed, same_bytes}
use Rattle.book_core.proofs.NamedLemmas.{same_texts}
use Rattle.table_model.specs.Words.{NamedRow, variant_read, grouped, join_last}
use Rattle.table_model.specs.DisputesRead.{dispute_of_one, join_first}

-- two rows alone, whichever is joined to the other
two_rows : (first last : NamedRow)
    → join_first first (dispute_of_one last ∷ []) ≡ join_last (dispute_of_one first ∷ []) last
two_rows first last =
    elim (same_bytes first.1.identity last.1.identity) as (λ b.
    same_bytes first.1.identity last.1.identity ≡ b
    → (if b
    then record (dispute_of_one last) { members = variant_read first ∷ variant_read last ∷ [] } ∷ []
    else dispute_of_one first ∷ dispute_of_one last ∷ [])
    ≡ (if b
    then record (dispute_of_one first) { members = variant_read first ∷ variant_read last ∷ [] } ∷ []
    else dispute_of_one first ∷ dispute_of_one last ∷ [])) [
      | true ↦ λ same i. record (dispute_of_one last) {
        identity = sym (same_texts first.1.identity last.1.identity same) i;
        members = variant_read first ∷ variant_read last ∷ [];
      } ∷ []
      | false ↦ λ differ. refl
    ] refl

-- a row before disputes, by whether it has the identity of the first
abbrev in_front : NamedRow → Bool → Disputed → List Disputed → List Disputed
in_front row same first others =
    if same
    then record first { members = variant_read row ∷ first.members } ∷ others
    else dispute_of_one row ∷ first ∷ others

-- a row after a dispute, by whether it has its identity
abbrev behind_one : NamedRow → Bool → Disputed → List Disputed
behind_one row same last =
    if same
    then record last { members = last.members ++ variant_read row ∷ [] } ∷ []
    else last ∷ dispute_of_one row ∷ []

-- a row before a dispute and a row after it, by these tests
around_one : (first last : NamedRow) (one : Disputed) (before after : Bool)
    → same_bytes first.1.identity one.identity ≡ before
    → same_bytes one.identity last.1.identity ≡ after
    → join_first first (behind_one last after one) ≡ join_last (in_front first before one []) last
around_one first last one before true own its =
    ap (λ b. in_front first b (record one { members = one.members ++ variant_read last ∷ [] }) [])
    own
    ∙ by_front before own
  where
    by_front : (b : Bool) → same_bytes first.1.identity one.identity ≡ b
        → in_front first b (record one { members = one.members ++ variant_read last ∷ [] }) []
        ≡ join_last (in_front first b one []) last
    by_front true e =
        ap (λ b. behind_one last b (record one { members = variant_read first ∷ one.members }))
        (sym its)
    by_front false e = ap (λ b. dispute_of_one first ∷ behind_one last b one) (sym its)
around_one first last one before false own its =
    ap (λ b. in_front first b one (dispute_of_one last ∷ [])) own ∙ by_front before
  where
    by_front : (b : Bool) → in_front first b one (dispute_of_one last ∷ [])
        ≡ join_last (in_front first b one []) last
    by_front true =
        ap (λ b. behind_one last b (record one { members = variant_read first ∷ one.members }))
        (sym its)
    by_front false = ap (λ b. dispute_of_one first ∷ behind_one last b one) (sym its)

-- a row before and a row after may be joined in either order
both_ends : (first : NamedRow) (disputes : List Disputed) (last : NamedRow)
    → join_first first (join_last disputes last) ≡ join_last (join_first first disputes) last
both_ends first [] last = two_rows first last
both_ends first (one ∷ []) last =
    around_one first last one (same_bytes first.1.identity one.identity)
    (same_bytes one.identity last.1.identity) refl refl
both_ends first (one ∷ next ∷ others) last =
    elim (same_bytes first.1.identity one.identity) as (λ b.
    in_front first b one (join_last (next ∷ others) last)
    ≡ join_last (in_front first b one (next ∷ others)) last) [ true ↦ refl | false ↦ refl ]

-- a row after others joins the last group, or starts one
pub grouped-push : (rows : List NamedRow) (row : NamedRow)
    → grouped (rows ++ row ∷ []) ≡ join_last (grouped rows) row
grouped-push [] row = refl
grouped-push (first ∷ rows) row =
    ap (join_first first) (grouped-push rows row) ∙ both_ends first (grouped rows) row

-- rows before disputes
abbrev pub join_all : List NamedRow → List Disputed → List Disputed
join_all [] disputes = disputes
join_all (row ∷ rows) disputes = join_first row (join_all rows disputes)

-- rows before other rows
pub grouped-append : (rows others : List NamedRow)
    → grouped (rows ++ others) ≡ join_all rows (grouped others)
grouped-append [] others = refl
grouped-append (row ∷ rows) others = ap (join_first row) (grouped-append rows others)

-- the first dispute has another identity
abbrev pub StartsOther : List ℕ → List Disputed → Type 0
StartsOther identity [] = Unit {0}
StartsOther identity (first ∷ others) = same_bytes identity first.identity ≡ false

-- the dispute of an identity with these rows
abbrev pub of_rows : List ℕ → List NamedRow → Disputed
of_rows identity rows = record { identity = identity; members = map variant_read rows }

-- a row before disputes that begin with another identity is a dispute of its own
alone_first : (identity : List ℕ) (row : NamedRow) (disputes : List Disputed)
    → row.1.identity ≡ identity → StartsOther identity disputes
    → join_first row disputes ≡ of_rows identity (row ∷ []) ∷ disputes
alone_first identity row [] own other =
    (λ i. record { identity = own i; members = variant_read row ∷ [] } ∷ [])
alone_first identity row (first ∷ others) own other =
    ap (λ b. in_front row b first others) (ap (λ k. same_bytes k first.identity) own ∙ other)
    ∙ (λ i. record { identity = own i; members = variant_read row ∷ [] } ∷ first ∷ others)

-- rows of one identity before disputes that begin with another are one dispute
pub one_group : (identity : List ℕ) (row : NamedRow) (rows : List NamedRow)
    (disputes : List Disputed)
    → AllByRecursion (λ (row : NamedRow). row.1.identity ≡ identity) (row ∷ rows)
    → StartsOther identity disputes
    → join_all (row ∷ rows) disputes ≡ of_rows identity (row ∷ rows) ∷ disputes
one_group identity row [] disputes own other = alone_first identity row disputes own.0 other
one_group identity row (next ∷ rows) disputes own other =
    ap (join_first row) (one_group identity next rows disputes own.1 other)
    ∙ ap (λ b. in_front row b (of_rows identity (next ∷ rows)) disputes)
    (ap (λ k. same_bytes k identity) own.0 ∙ nat_list_eq_equiv.refl identity)
