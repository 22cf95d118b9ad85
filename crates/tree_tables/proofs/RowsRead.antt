-- What is read of the rows of entries, by what each row says.
use Rattle.std.proofs.Common.{◌≡◌, ◌||◌, ℕ, ℤ, pos, List, [], ◌∷◌, Bool, true, false, cond, map, Some, refl}
use Rattle.std.proofs.Common.{subst}
use Rattle.std.specs.Cmp.{IsTotalOrder}
use Rattle.std.specs.FinMap.{FinMap, IsAntisymmetric, entries, entries_sorted, find, get}
use Rattle.std.specs.FinMap.{get-entries, is_sorted}
use Rattle.std.specs.List.{AllByRecursion, AllZip, list_any}
use Rattle.std.specs.Prelude.{T, filter}
use Rattle.std.specs.declared.cmp.Ordering.{Ordering}
use Rattle.std.proofs.lemmas.List.{map-id}
use Rattle.std.proofs.Common.{◌∙◌}
use Rattle.sqlite_value.specs.Order.{Row}
use Rattle.sqlite_value.specs.declared.value.Value.TheVariants.{Blob, Int, Text}
use Rattle.tree_rows.specs.Rows.{IsFirst}
use Rattle.tree_rows.proofs.Maps.{second}
use Rattle.tree_rows.proofs.Moving.{find_later}
use Rattle.tree_rows.proofs.Passing.{find_front}

-- numbers, texts and bytes are known by the values in columns
pub same_int : (m n : ℤ) → Int m ≡ Int n → m ≡ n
same_int m n same = cc

pub same_count : (m n : ℕ) → Int (pos m) ≡ Int (pos n) → m ≡ n
same_count m n same = cc

pub same_text : (one other : List ℕ) → Text one ≡ Text other → one ≡ other
same_text one other same = cc

pub same_blob : (one other : List ℕ) → Blob one ≡ Blob other → one ≡ other
same_blob one other same = cc

-- whether a list has an element
abbrev pub has_one : {X : Type 0} → List X → Bool
has_one [] = false
has_one (x ∷ xs) = true

-- what is made of each element is as many
pub made_has : {X Y : Type 0} (f : X → Y) (xs : List X) → has_one (map f xs) ≡ has_one xs
made_has f [] = refl
made_has f (x ∷ xs) = refl

-- a first row is there where there is a row
pub first_has : (rows : List Row) (row : Row) (there : Bool) → IsFirst rows row there
    → there ≡ has_one rows
first_has [] row true begins = absurd (let e = begins.1 in cc)
first_has [] row false begins = refl
first_has (one ∷ rows) row true begins = refl
first_has (one ∷ rows) row false begins = absurd (let e = begins in cc)

-- a test is passed where something is left of it
pub any_is : {X : Type 0} (p : X → Bool) (xs : List X) → list_any p xs ≡ has_one (filter p xs)
any_is p [] = refl
any_is p (x ∷ xs) =
    elim (p x) as (λ b. (b || list_any p xs)
    ≡ has_one (cond b (x ∷ filter p xs) (filter p xs))) [
      | true ↦ refl
      | false ↦ any_is p xs
    ]

-- what asks nothing holds of all
pub nothing_asked : {E : Type 0} (list : List E) → AllByRecursion (λ (entry : E). Unit {0}) list
nothing_asked [] = tt
nothing_asked (entry ∷ list) = (tt, nothing_asked list)

module _ {T E Y : Type 0} (columns : E → Row) (Says : Row → T → Type 0) (told : T → Y)
    (of : E → Y) (Good : E → Type 0)
    (tells : (one : T) (entry : E) (row : Row) → Good entry → row ≡ columns entry → Says row one
    → told one ≡ of entry)
  where
    -- Where what is read of the row of a good entry determines it, what is read of all rows of good
    -- entries determines all of them.
    pub told_of_all : (rows : List Row) (all : List T) (list : List E)
        → AllByRecursion Good list → AllZip Says rows all → rows ≡ map columns list
        → map told all ≡ map of list
    told_of_all [] [] [] good says are = refl
    told_of_all [] [] (entry ∷ list) good says are = absurd (let e = are in cc)
    told_of_all [] (one ∷ all) list good says are = absurd says
    told_of_all (row ∷ rows) [] list good says are = absurd says
    told_of_all (row ∷ rows) (one ∷ all) [] good says are = absurd (let e = are in cc)
    told_of_all (row ∷ rows) (one ∷ all) (entry ∷ list) good says are =
        let first : row ≡ columns entry = (let e = are in cc) in
        let rest : rows ≡ map columns list = (let e = are in cc) in
        let one_is = tells one entry row good.0 first says.0 in
        let rest_is = told_of_all rows all list good.1 says.1 rest in
        λ i. one_is i ∷ rest_is i

-- Where what is read of the row of an entry is the entry, what is read of all rows are all entries.
pub told_of_each : {T E : Type 0} (columns : E → Row) (Says : Row → T → Type 0) (told : T → E)
    → ((entry : E) (one : T) → Says (columns entry) one → told one ≡ entry)
    → (list : List E) (all : List T) → AllZip Says (map columns list) all → map told all ≡ list
told_of_each columns Says told tells list all says =
    told_of_all columns Says told (λ entry. entry) (λ entry. Unit {0})
    (λ one entry row good is said. tells entry one (subst (λ row. Says row one) is said))
    (map columns list) all list (nothing_asked list) says refl ∙ map-id list

module _ {K V : Type 0} {R : K → K → Ordering} (total : IsTotalOrder R)
    (exact : IsAntisymmetric R) (Good : K × V → Type 0) where
  -- what holds of each entry that is found holds of all entries
  found_all : (es : List (K × V)) → T (is_sorted R es)
      → ((k : K) (v : V) → find R k es ≡ Some v → Good (k, v)) → AllByRecursion Good es
  found_all [] up each = tt
  found_all (e ∷ es) up each = (
    each e.0 e.1 (find_front total exact e.0 e.1 es),
    found_all es (second _ _ up)
        (λ k v there. each k v (find_later total exact k v e es up there)),
  )

  -- what holds of each entry that a map has holds of its entries
  pub all_entries : (m : FinMap R V) → ((k : K) (v : V) → get m k ≡ Some v → Good (k, v))
      → AllByRecursion Good (entries m)
  all_entries m each =
      found_all (entries m) (entries_sorted m) (λ k v there. each k v (get-entries m k ∙ there))
