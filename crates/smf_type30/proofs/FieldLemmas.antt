-- A walk over the accounting fields, field by field.
use Rattle.std.proofs.Common.{◌≡◌, ℕ, zero, suc, ◌+◌, ◌-◌, ◌≤◌, ◌<◌, List, [], ◌∷◌, drop, cond}
use Rattle.std.proofs.Common.{Bool, true, false, is_some, Option, Some, None, option_map, slice_get}
use Rattle.std.proofs.Common.{IsSome, refl, sym, ap, ◌∙◌, arith}
use Rattle.std.proofs.lemmas.List.{drop-drop}
use Rattle.std.proofs.lemmas.Option.{same_Some}
use Rattle.smf_type30.specs.Accounts.{fields_in, nth_of}
use Rattle.smf_type30.specs.AccountWalk.{BeginsWith, BeginsWithNone, EndsBefore, LeavesRest}

-- a list from which nothing can be dropped is not there
option_map-none : {A B : Type 0} (f : A → B) (fields : Option A) → option_map f fields ≡ None
    → fields ≡ None
option_map-none f None e = refl
option_map-none f (Some list) e = cc

-- where a walk that passed some fields finds no other, there are not more of them
pub fields_in-past : (passed count : ℕ) (text rest : List ℕ) → passed < count
    → LeavesRest passed text rest → BeginsWithNone rest → fields_in count text ≡ None
fields_in-past passed count text rest below leaves none =
    let left = count - passed - 1 in
    let e : count ≡ passed + suc left = omega arith in
    rw e (option_map-none (drop passed) _ (leaves (suc left) ∙ none left))

-- where a text ends before some fields do, there are not more of them
pub fields_in-ends : (fewer count : ℕ) (text : List ℕ) → fewer ≤ count → EndsBefore fewer text
    → fields_in count text ≡ None
fields_in-ends fewer count text le ends =
    let e : count ≡ fewer + (count - fewer) = omega arith in
    rw e (ends (count - fewer))

-- a list with some of its members dropped was there
is_some-dropped : {A B : Type 0} (f : A → B) (fields : Option A) (left : B)
    → option_map f fields ≡ Some left → is_some fields ≡ true
is_some-dropped f None left e = cc
is_some-dropped f (Some list) left e = refl

-- where a walk passed that many fields, they are there
pub is_some-fields_in : (count : ℕ) (text rest : List ℕ) → LeavesRest count text rest
    → is_some (fields_in count text) ≡ true
is_some-fields_in count text rest leaves =
    let e : count ≡ count + 0 = omega arith in
    rw e (is_some-dropped (drop count) _ _ (leaves 0))

-- to drop one member more
drop_more : {A : Type 0} (n : ℕ) (fields : Option (List A))
    → option_map (drop (n + 1)) fields ≡ option_map (drop 1) (option_map (drop n) fields)
drop_more n None = refl
drop_more n (Some list) = ap Some (sym (drop-drop 1 n list))

-- to drop the first member
drop_first : {A : Type 0} (field : A) (fields : Option (List A))
    → option_map (drop 1) (option_map (λ list. field ∷ list) fields) ≡ fields
drop_first field None = refl
drop_first field (Some list) = refl

-- a walk passes one field more
pub leaves_more : (passed : ℕ) (text rest field after : List ℕ) → LeavesRest passed text rest
    → BeginsWith rest field after → LeavesRest (passed + 1) text after
leaves_more passed text rest field after leaves begins more =
    let e : passed + 1 + more ≡ passed + suc more = omega arith in
    let begun = ap (option_map (drop 1)) (leaves (suc more) ∙ begins more) in
    rw e (drop_more passed _ ∙ begun ∙ drop_first field _)

-- a member of a list is that of a longer list at the next place
nth_of-next : (field : List ℕ) (fields : Option (List (List ℕ))) (n : ℕ)
    → nth_of (option_map (λ list. field ∷ list) fields) (suc n) ≡ nth_of fields n
nth_of-next field None n = refl
nth_of-next field (Some list) n = refl

-- the same where the longer list may not be there
nth_of-past_next : (short : Bool) (field : List ℕ) (fields : Option (List (List ℕ))) (n : ℕ)
    → nth_of fields n ≡ None
    → nth_of (cond short None (option_map (λ list. field ∷ list) fields)) (suc n) ≡ None
nth_of-past_next true field fields n e = refl
nth_of-past_next false field fields n e = nth_of-next field fields n ∙ e

-- after the last field there is none
pub nth_of-past : (count n : ℕ) (text : List ℕ) → count ≤ n → nth_of (fields_in count text) n ≡ None
nth_of-past zero n text le = refl
nth_of-past (suc count) n [] le = refl
nth_of-past (suc count) zero (len ∷ text) le = absurd (omega arith)
nth_of-past (suc count) (suc n) (len ∷ text) le =
    nth_of-past_next _ _ _ n (nth_of-past count n (drop len text) (omega arith))

-- the first member after n others is that at n
slice_get-drop : {A : Type 0} (n : ℕ) (xs others : List A) (x : A) → drop n xs ≡ x ∷ others
    → slice_get xs n ≡ Some x
slice_get-drop zero [] others x e = cc
slice_get-drop zero (y ∷ xs) others x e = cc
slice_get-drop (suc n) [] others x e = cc
slice_get-drop (suc n) (y ∷ xs) others x e = slice_get-drop n xs others x e

-- the same for a list that is there
nth_of-drop : (fields others : Option (List (List ℕ))) (n : ℕ) (field : List ℕ) → IsSome fields
    → option_map (drop n) fields ≡ option_map (λ list. field ∷ list) others
    → nth_of fields n ≡ Some field
nth_of-drop None others n field some e = cc
nth_of-drop (Some xs) None n field some e = cc
nth_of-drop (Some xs) (Some ys) n field some e = slice_get-drop n xs ys field (same_Some _ _ e)

-- the field at which a walk is
pub nth_of-rest : (count n : ℕ) (text rest field after : List ℕ) → n < count
    → IsSome (fields_in count text) → LeavesRest n text rest → BeginsWith rest field after
    → nth_of (fields_in count text) n ≡ Some field
nth_of-rest count n text rest field after below some leaves begins =
    let left = count - n - 1 in
    let e : count ≡ n + suc left = omega arith in
    let dropped = ap (λ m. option_map (drop n) (fields_in m text)) e in
    nth_of-drop _ _ n field some (dropped ∙ leaves (suc left) ∙ begins left)
