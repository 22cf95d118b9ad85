-- The order of details, and details that are read one after another.
use Rattle.std.proofs.Common.{◌≡◌, ℕ, zero, suc, List, [], ◌∷◌, ◌++◌, refl, sym, ap, ◌∙◌, subst}
use Rattle.std.proofs.Common.{true, false, true≢false, Bool, ◌&&◌, cond, append_assoc, drop, take}
use Rattle.std.proofs.Common.{Option, Some, None, filter, find, slice_get, Contains, is_eq, is_lt}
use Rattle.std.proofs.Common.{Less, Equal, Greater, take-append-drop}
use Rattle.book_model.proofs.Std.{IsTotalOrder, AllByRecursion, IsStrictlySortedBy}
use Rattle.book_model.proofs.Std.{ordering_reverse, eq_by_cmp_equiv, nat_cmp_total}
use Rattle.book_model.proofs.Std.{nat_list_cmp_total, on_total, then_total, All-contains}
use Rattle.book_model.proofs.Std.{All-from_recursion, Contains-append_right, sorted_head}
use Rattle.book_model.proofs.Std.{sorted_tail}
use Rattle.book_model.specs.declared.detail.Detail.{Detail}
use Rattle.book_model.specs.Words.{by_detail, comes_after, details_asked, first_detail, is_asked}
use Rattle.book_model.specs.Words.{next_after, key_of}
use Rattle.book_model.proofs.PermutedSets.{first_or, has_first, has_none}
use Rattle.book_model.proofs.RowLemmas.{by_key_total}

-- the order of details is total
pub by_detail_total : IsTotalOrder by_detail
by_detail_total =
    let by_place = on_total (λ (detail : Detail). key_of detail.priced) by_key_total in
    let by_time = on_total (λ (detail : Detail). detail.time) nat_cmp_total in
    let by_name = on_total (λ (detail : Detail). detail.name) nat_list_cmp_total in
    then_total by_place (then_total by_time by_name)

-- what holds of all elements of a list holds of one
holds_at : {X : Type 0} (P : X → Type 0) (read : List X) (last : X) (rest : List X)
    → AllByRecursion P (read ++ last ∷ rest) → P last
holds_at P [] last rest all = all.0
holds_at P (x ∷ read) last rest all = holds_at P read last rest all.1

-- an element is not below itself, nor is one below what comes before it
not_itself : (detail : Detail) → is_lt (by_detail detail detail) ≡ false
not_itself detail =
    let ties = (eq_by_cmp_equiv by_detail_total).refl detail in
    elim (by_detail detail detail) as (λ r. is_eq r ≡ true → is_lt r ≡ false) [
      | Less ↦ λ tied. cc
      | Equal ↦ λ tied. refl
      | Greater ↦ λ tied. refl
    ] ties

not_back : (one other : Detail) → by_detail one other ≡ Less → is_lt (by_detail other one) ≡ false
not_back one other below =
    ap is_lt (by_detail_total.antisymm other one ∙ ap ordering_reverse below)

-- after the last that was read comes the first of the rest
pub next_in : (read : List Detail) (last : Detail) (rest : List Detail)
    → IsStrictlySortedBy by_detail (read ++ last ∷ rest)
    → find (λ detail. is_lt (by_detail last detail)) (read ++ last ∷ rest) ≡ first_detail rest
next_in [] last [] rising = ap (λ b. cond b (Some last) None) (not_itself last)
next_in [] last (next ∷ rest) rising =
    let above = sorted_head by_detail last (next ∷ rest) rising in
    let later : Option Detail = find (λ detail. is_lt (by_detail last detail)) rest in
    let found : cond (is_lt (by_detail last next)) (Some next) later ≡ Some next =
    ap (λ r. cond (is_lt r) (Some next) later) above.0 in
    ap (λ b. cond b (Some last) (cond (is_lt (by_detail last next)) (Some next) later))
    (not_itself last) ∙ found
next_in (first ∷ read) last rest rising =
    let above = holds_at (λ detail. by_detail first detail ≡ Less) read last rest
    (sorted_head by_detail first (read ++ last ∷ rest) rising) in
    let later : Option Detail =
    find (λ detail. is_lt (by_detail last detail)) (read ++ last ∷ rest) in
    ap (λ b. cond b (Some first) later) (not_back first last above)
    ∙ next_in read last rest (sorted_tail by_detail first (read ++ last ∷ rest) rising)

-- the last of some details, if there is one
abbrev pub last_of : List Detail → Option Detail
last_of [] = None
last_of (detail ∷ []) = Some detail
last_of (detail ∷ next ∷ more) = last_of (next ∷ more)

-- with one more
pub last_of-push : (read : List Detail) (detail : Detail)
    → last_of (read ++ detail ∷ []) ≡ Some detail
last_of-push [] detail = refl
last_of-push (first ∷ []) detail = refl
last_of-push (first ∷ next ∷ more) detail = last_of-push (next ∷ more) detail

-- details are those before the last, and the last
split_last : (detail : Detail) (more : List Detail)
    → (read : List Detail) × (last : Detail) × (detail ∷ more ≡ read ++ last ∷ [])
    × (last_of (detail ∷ more) ≡ Some last)
split_last detail [] = ([], detail, refl, refl)
split_last detail (next ∷ more) =
    let rest = split_last next more in
    (detail ∷ rest.0, rest.1, ap (λ others. detail ∷ others) rest.2, rest.3)

-- where details rise, the first after some of them is the first of the rest
walk_on : (front rest : List Detail) → IsStrictlySortedBy by_detail (front ++ rest)
    → next_after (last_of front) (front ++ rest) ≡ first_detail rest
walk_on [] rest rising = refl
walk_on (detail ∷ more) rest rising =
    let parts = split_last detail more in
    let all : detail ∷ (more ++ rest) ≡ parts.0 ++ parts.1 ∷ rest =
    ap (λ front. front ++ rest) parts.2 ∙ append_assoc parts.0 (parts.1 ∷ []) rest in
    (λ i. next_after (parts.3 i) (all i))
    ∙ next_in parts.0 parts.1 rest (subst (IsStrictlySortedBy by_detail) all rising)

-- the first of the rest of a list is the next one
first_dropped : (n : ℕ) (details : List Detail)
    → first_detail (drop n details) ≡ slice_get details n
first_dropped zero [] = refl
first_dropped zero (detail ∷ details) = refl
first_dropped (suc n) [] = refl
first_dropped (suc n) (detail ∷ details) = first_dropped n details

-- so after so many of them comes the next one
pub walked : (all : List Detail) (n : ℕ) → IsStrictlySortedBy by_detail all
    → next_after (last_of (take n all)) all ≡ slice_get all n
walked all n rising =
    let parts = take-append-drop n all in
    ap (next_after (last_of (take n all))) (sym parts)
    ∙ walk_on (take n all) (drop n all)
    (subst (IsStrictlySortedBy by_detail) (sym parts) rising)
    ∙ first_dropped n all

-- ---- what is found first

-- the first that passes two tests is the first, of those that pass one, to pass the other
pub find_both : {X : Type 0} (p q : X → Bool) (xs : List X)
    → find (λ x. p x && q x) xs ≡ find q (filter p xs)
find_both p q [] = refl
find_both p q (x ∷ xs) =
    let rest = find_both p q xs in
    elim (p x) as (λ b. cond (b && q x) (Some x) (find (λ x. p x && q x) xs)
    ≡ find q (cond b (x ∷ filter p xs) (filter p xs))) [
      | true ↦ ap (cond (q x) (Some x)) rest
      | false ↦ rest
    ]

next_is : (last : Option Detail) (details : List Detail)
    → find (comes_after last) details ≡ next_after last details
next_is None [] = refl
next_is None (detail ∷ details) = refl
next_is (Some last) details = refl

-- so the next detail is the first that is asked for and comes after the last one
pub next_asked : (centre : Option (List ℕ)) (last : Option Detail) (details : List Detail)
    → find (λ detail. is_asked centre detail && comes_after last detail) details
    ≡ next_after last (details_asked centre details)
next_asked None last details = next_is last details
next_asked (Some centre) last details =
    find_both (is_asked (Some centre)) (comes_after last) details
    ∙ next_is last (details_asked (Some centre) details)

-- of details that rise the first that passes a test is the least that does,
pub find_least : (p : Detail → Bool) (details : List Detail) (detail : Detail)
    → IsStrictlySortedBy by_detail details → Contains details detail → p detail ≡ true
    → ((other : Detail) → Contains details other → p other ≡ true
    → is_lt (by_detail other detail) ≡ false)
    → find p details ≡ Some detail
find_least p [] detail rising among passes least = has_none detail among
find_least p (first ∷ details) detail rising among passes least =
    elim (p first) as (λ b. p first ≡ b → cond b (Some first) (find p details) ≡ Some detail) [
      | true ↦ λ own. first_or first details detail among (λ same. ap Some same) (λ later.
          let above = All-contains (λ other. by_detail first other ≡ Less) details detail
          (All-from_recursion _ details (sorted_head by_detail first details rising)) later in
          absurd (true≢false (sym (ap is_lt above)
          ∙ least first (has_first first details) own)))
      | false ↦ λ fails. first_or first details detail among
          (λ same. absurd (true≢false (sym passes ∙ ap p (sym same) ∙ fails)))
          (λ later. find_least p details detail (sorted_tail by_detail first details rising) later
          passes (λ other there. least other (Contains-append_right (first ∷ []) details other there)))
    ] refl

-- and none is found where none does
pub find_none : (p : Detail → Bool) (details : List Detail)
    → ((detail : Detail) → Contains details detail → p detail ≡ false) → find p details ≡ None
find_none p [] never = refl
find_none p (detail ∷ details) never =
    ap (λ b. cond b (Some detail) (find p details)) (never detail (has_first detail details))
    ∙ find_none p details (λ other there.
    never other (Contains-append_right (detail ∷ []) details other there))
