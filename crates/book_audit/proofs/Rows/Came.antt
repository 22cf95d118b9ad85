-- By which entries records came, as a list: the numbers of the entries by the records' names.
use Rattle.std.proofs.Common.{◌≡◌, ◌∙◌, ◌+◌, ◌==◌, ◌++◌, ◌∷◌, [], ℕ, List, Bool, true, false, Option}
use Rattle.std.proofs.Common.{None, Some, ap, arith, cond, filter, is_eq, length, map, refl, subst, sym}
use Rattle.std.proofs.Common.{Ordering, Less, Equal, Greater}
use Rattle.std.specs.FinMap.{find}
use Rattle.sqlite_trees.specs.Tree.{IsAscending}
use Rattle.book_model.proofs.Std.{AllByRecursion, entries, from_entries, get, nat_list_cmp_total}
use Rattle.book_model.proofs.Std.{tied_itself}
use Rattle.book_model.specs.Words.{by_bytes}
use Rattle.book_model.proofs.Lemmas.{entries-sorted}
use Rattle.table_model.specs.Tables.{CameTable}
use Rattle.tree_rows.proofs.IndexOrders.{by_bytes_exact}
use Rattle.tree_tables.specs.Columns.{came_columns, record_columns, record_front}
use Rattle.book_audit.specs.Came.{came_one}
use Rattle.book_audit.specs.Records.{Told, came_by, told_row}
use Rattle.book_audit.proofs.Held.Maps.{sorted}
use Rattle.book_audit.proofs.Held.Pigeonhole.{not_below}

-- the names of the records rise
abbrev pub NamesRise : List Told → Type 0
NamesRise = IsAscending (λ (a : Told) (b : Told). by_bytes a.0.0 b.0.0 ≡ Less)

-- a name with the number of an entry, or nothing
abbrev pub came_pair : List ℕ → Option ℕ → List (List ℕ × ℕ)
came_pair name None = []
came_pair name (Some number) = (name, number) ∷ []

-- those of all records that came by one
abbrev pub came_pairs : List Told → List (List ℕ × ℕ)
came_pairs [] = []
came_pairs (told ∷ more) = came_pair told.0.0 told.2 ++ came_pairs more

-- ---- what holds of each

-- what holds of the first, if there is one, and of the others
add_pair : (P : List ℕ × ℕ → Type 0) (name : List ℕ) (came : Option ℕ) (more : List (List ℕ × ℕ))
    → ((number : ℕ) → came ≡ Some number → P (name, number)) → AllByRecursion P more
    → AllByRecursion P (came_pair name came ++ more)
add_pair P name None more own others = others
add_pair P name (Some number) more own others = (own number refl, others)

-- what holds of the records that came by an entry holds of each
pub each_pair : (P : List ℕ × ℕ → Type 0) (Q : Told → Type 0)
    → ((told : Told) (number : ℕ) → Q told → told.2 ≡ Some number → P (told.0.0, number))
    → (all : List Told) → AllByRecursion Q all → AllByRecursion P (came_pairs all)
each_pair P Q from [] each = tt
each_pair P Q from (told ∷ more) each =
    add_pair P told.0.0 told.2 (came_pairs more) (λ number is. from told number each.0 is)
    (each_pair P Q from more each.1)

-- ---- each name is found with its own number

-- a name that ties with another is it, so none below another does
not_tied : (a b : List ℕ) → by_bytes a b ≡ Less → is_eq (by_bytes b a) ≡ false
not_tied a b less = elim (by_bytes b a) as (λ (o : Ordering). by_bytes b a ≡ o → is_eq o ≡ false) [
  | Less ↦ λ at. refl
  | Equal ↦ λ at.
      let same : b ≡ a = by_bytes_exact b a at in
      absurd (not_below nat_list_cmp_total a (subst (λ (x : List ℕ). by_bytes a x ≡ Less) same less))
  | Greater ↦ λ at. refl
] refl

passed_pair : (name own : List ℕ) (came : Option ℕ) (more : List (List ℕ × ℕ))
    → is_eq (by_bytes name own) ≡ false
    → find by_bytes name (came_pair own came ++ more) ≡ find by_bytes name more
passed_pair name own None more other = refl
passed_pair name own (Some number) more other =
    ap (λ b. cond b (Some number) (find by_bytes name more)) other

own_pair : (name : List ℕ) (came : Option ℕ) (more : List (List ℕ × ℕ))
    → find by_bytes name more ≡ None → find by_bytes name (came_pair name came ++ more) ≡ came
own_pair name None more none = none
own_pair name (Some number) more none =
    ap (λ o. cond (is_eq o) (Some number) (find by_bytes name more)) (tied_itself nat_list_cmp_total name)

none_below : (name : List ℕ) (told : List Told)
    → AllByRecursion (λ (b : Told). by_bytes name b.0.0 ≡ Less) told
    → find by_bytes name (came_pairs told) ≡ None
none_below name [] below = refl
none_below name (one ∷ told) below =
    passed_pair name one.0.0 one.2 (came_pairs told) (ap is_eq below.0) ∙ none_below name told below.1

-- later ones are found behind the first
behind_pair : (first : Told) (told : List Told) (pairs : List (List ℕ × ℕ))
    → AllByRecursion (λ (b : Told). by_bytes first.0.0 b.0.0 ≡ Less) told
    → AllByRecursion (λ (x : Told). find by_bytes x.0.0 pairs ≡ x.2) told
    → AllByRecursion (λ (x : Told). find by_bytes x.0.0 (came_pair first.0.0 first.2 ++ pairs) ≡ x.2) told
behind_pair first [] pairs below found = tt
behind_pair first (x ∷ told) pairs below found = (
  passed_pair x.0.0 first.0.0 first.2 pairs (not_tied first.0.0 x.0.0 below.0) ∙ found.0,
  behind_pair first told pairs below.1 found.1,
)

pub each_came : (told : List Told) → NamesRise told
    → AllByRecursion (λ (x : Told). find by_bytes x.0.0 (came_pairs told) ≡ x.2) told
each_came [] rise = tt
each_came (one ∷ told) rise = (
  own_pair one.0.0 one.2 (came_pairs told) (none_below one.0.0 told rise.0),
  behind_pair one told (came_pairs told) rise.0 (each_came told rise.1),
)

-- so the rows of the records are those of their table
pub same_rows : (came : CameTable) (told : List Told)
    → AllByRecursion (λ (one : Told). get came one.0.0 ≡ one.2) told
    → map told_row told ≡ map (λ (one : Told). record_columns came one.0) told
same_rows came [] found = refl
same_rows came (one ∷ told) found =
    let own = sym found.0 in
    let rest = same_rows came told found.1 in
    λ i. (record_front one.0 ++ came_columns (own i)) ∷ rest i

-- ---- they are the entries of their map

first_pair : (name : List ℕ) (came : Option ℕ) (more : List (List ℕ × ℕ))
    → AllByRecursion (λ (b : List ℕ × ℕ). by_bytes name b.0 ≡ Less) more
    → IsAscending (λ (a : List ℕ × ℕ) (b : List ℕ × ℕ). by_bytes a.0 b.0 ≡ Less) more
    → IsAscending (λ (a : List ℕ × ℕ) (b : List ℕ × ℕ). by_bytes a.0 b.0 ≡ Less) (came_pair name came ++ more)
first_pair name None more below rise = rise
first_pair name (Some number) more below rise = (below, rise)

pub pairs_rise : (told : List Told) → NamesRise told
    → IsAscending (λ (a : List ℕ × ℕ) (b : List ℕ × ℕ). by_bytes a.0 b.0 ≡ Less) (came_pairs told)
pairs_rise [] rise = tt
pairs_rise (one ∷ told) rise =
    first_pair one.0.0 one.2 (came_pairs told)
    (each_pair (λ (b : List ℕ × ℕ). by_bytes one.0.0 b.0 ≡ Less)
    (λ (b : Told). by_bytes one.0.0 b.0.0 ≡ Less) (λ b number below is. below) told rise.0)
    (pairs_rise told rise.1)

pub pairs_kept : (told : List Told) → NamesRise told
    → entries (from_entries {R = by_bytes} (came_pairs told)) ≡ came_pairs told
pairs_kept told rise =
    entries-sorted nat_list_cmp_total by_bytes_exact (came_pairs told)
    (sorted by_bytes (came_pairs told) (pairs_rise told rise))

-- ---- how many came by an entry

-- a record came by the entry of a number
abbrev pub is_of : ℕ → List ℕ × ℕ → Bool
is_of number one = one.1 == number

one_counted : (number : ℕ) (name : List ℕ) (came : Option ℕ) (more : List (List ℕ × ℕ))
    → length (filter (is_of number) (came_pair name came ++ more))
    ≡ length (filter (is_of number) more) + came_one number came
one_counted number name None more = omega arith
one_counted number name (Some own) more =
    let others : List (List ℕ × ℕ) = filter (is_of number) more in
    elim (own == number) as (λ b. length (cond b ((name, own) ∷ others) others)
    ≡ length others + cond b 1 0) [
      | true ↦ omega arith
      | false ↦ omega arith
    ]

pub pairs_counted : (number : ℕ) (told : List Told)
    → length (filter (is_of number) (came_pairs told)) ≡ came_by number told
pairs_counted number [] = refl
pairs_counted number (one ∷ told) =
    one_counted number one.0.0 one.2 (came_pairs told)
    ∙ ap (λ n. n + came_one number one.2) (pairs_counted number told)
