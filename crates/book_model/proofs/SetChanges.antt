-- Sets of records, with one record more or one less.
use Rattle.std.proofs.Common.{◌≡◌, ℕ, List, [], ◌∷◌, refl, sym, ap, ◌∙◌, true, false, true≢false}
use Rattle.std.proofs.Common.{Bool, not, ◌||◌, ◌&&◌, Option, map, sum_by, filter_map, is_eq, Less}
use Rattle.std.proofs.Math.Bool.{or-true, and-false}
use Rattle.book_model.proofs.Std.{AllByRecursion, list_any, IsStrictlySortedBy, nat_list_cmp_total}
use Rattle.book_model.proofs.Std.{eq_by_cmp_equiv, sorted_head, exact_bytes, tells_apart}
use Rattle.book_model.specs.Words.{Records, Naming, name_of, by_bytes, members, has, with, those}
use Rattle.book_model.proofs.ListLemmas.{filter_map-map}
use Rattle.book_model.proofs.MapLemmas.{by_tie}
use Rattle.book_model.proofs.RecordSets.{is, is_itself, same_records, has_with, has_those, is_first}
use Rattle.book_model.proofs.SetLemmas.{members-with, insert_key-alike, map-members_agree}
use Rattle.book_model.proofs.SetLemmas.{members-set_of, members_rise}
use Rattle.book_model.proofs.SumsAlike.{SumsAlike, list_any-alike}
use Rattle.std.specs.FinMap as fin

-- the set without a record
abbrev pub except : List ℕ → Records → Records
except one records = those (λ bytes. not (is bytes one)) records

-- records that are not one, the other way round
pub is_back : (a b : List ℕ) → is a b ≡ is b a
is_back a b = (eq_by_cmp_equiv nat_list_cmp_total).symm a b

-- two cases: the records are one, or not
pub by_record : {X : Type 0} (a b : List ℕ) (f g : Bool → X) → (a ≡ b → f true ≡ g true)
    → (is a b ≡ false → f false ≡ g false) → f (is a b) ≡ g (is a b)
by_record a b f g one apart = by_tie nat_list_cmp_total exact_bytes a b f g one apart

-- a record of a set is not one that the set lacks
pub not_new : (s : Records) (a b : List ℕ) → has s a ≡ true → has s b ≡ false → is a b ≡ false
not_new s a b there new =
    elim (is a b) as (λ t. is a b ≡ t → t ≡ false) [
      | true ↦ λ e. absurd
          (true≢false (sym there ∙ ap (has s) (tells_apart exact_bytes a b e) ∙ new))
      | false ↦ λ e. refl
    ] refl

-- none of some records passes a test that each of them fails
pub none_among : (p : List ℕ → Bool) (ks : List (List ℕ))
    → ((bytes : List ℕ) → list_any (is bytes) ks ≡ true → p bytes ≡ false) → list_any p ks ≡ false
none_among p [] fails = refl
none_among p (k ∷ ks) fails =
    let first = fails k (is_first k ks) in
    let rest = none_among p ks (λ bytes in_it.
    fails bytes (ap (λ b. is bytes k || b) in_it ∙ or-true (is bytes k))) in
    λ i. first i || rest i

-- so no member passes a test that each member fails
pub none_passes : (p : List ℕ → Bool) (s : Records)
    → ((bytes : List ℕ) → has s bytes ≡ true → p bytes ≡ false) → list_any p (members s) ≡ false
none_passes p s fails =
    none_among p (members s) (λ bytes in_it. fails bytes (fin.contains_key-keys s bytes ∙ in_it))

-- the members of a set with one more are its members and that one, in some order
pub members_with : (s : Records) (k : List ℕ) → has s k ≡ false
    → SumsAlike (members (with s k)) (k ∷ members s)
members_with s k new = record {
  sums = λ f.
      ap (sum_by f) (members-with nat_list_cmp_total s k)
      ∙ (insert_key-alike by_bytes k (members s) (sym (fin.contains_key-keys s k) ∙ new)).sums f;
}

-- one of them passes a test where that one does, or a member
pub any_with : (p : List ℕ → Bool) (s : Records) (k : List ℕ) → has s k ≡ false
    → list_any p (members (with s k)) ≡ (p k || list_any p (members s))
any_with p s k new = list_any-alike p (members_with s k new)

-- to take those of a set with one more that fails the test
pub those-with_out : (p : List ℕ → Bool) (s : Records) (k : List ℕ) → p k ≡ false
    → those p (with s k) ≡ those p s
those-with_out p s k fails = same_records (those p (with s k)) (those p s) (λ q.
    has_those p (with s k) q ∙ ap (λ b. p q && b) (has_with s k q)
    ∙ by_record q k (λ t. p q && (t || has s q)) (λ t. p q && has s q)
    (λ same. ap (λ b. b && true) (ap p same ∙ fails)
    ∙ sym (ap (λ b. b && has s q) (ap p same ∙ fails)))
    (λ apart. refl)
    ∙ sym (has_those p s q))

-- where two tests are one if a third holds
under : (a b c : Bool) → (c ≡ true → a ≡ b) → (a && c) ≡ (b && c)
under a b true same = ap (λ x. x && true) (same refl)
under true true false same = refl
under true false false same = refl
under false true false same = refl
under false false false same = refl

-- tests that agree on the members choose the same ones
pub those-agree : (p q : List ℕ → Bool) (s : Records)
    → ((bytes : List ℕ) → has s bytes ≡ true → p bytes ≡ q bytes) → those p s ≡ those q s
those-agree p q s agree = same_records (those p s) (those q s) (λ x.
    has_those p s x ∙ under (p x) (q x) (has s x) (agree x) ∙ sym (has_those q s x))

-- a set without a member, and with it again
pub with-except : (s : Records) (one : List ℕ) → has s one ≡ true → with (except one s) one ≡ s
with-except s one there = same_records (with (except one s) one) s (λ q.
    has_with (except one s) one q
    ∙ ap (λ b. is q one || b) (has_those (λ bytes. not (is bytes one)) s q)
    ∙ by_record q one (λ t. t || (not t && has s q)) (λ t. has s q)
    (λ same. sym (ap (has s) same ∙ there)) (λ apart. refl))

-- it is not in the set without it
pub has-except : (s : Records) (one : List ℕ) → has (except one s) one ≡ false
has-except s one =
    has_those (λ bytes. not (is bytes one)) s one ∙ ap (λ b. not b && has s one) (is_itself one)

-- no record of the set has the name of this one
abbrev pub IsUnnamed : Naming → List ℕ → Records → Type 0
IsUnnamed naming bytes records =
    (other : List ℕ) → has records other ≡ true → is (name_of naming bytes) (name_of naming other)
    ≡ false

-- who is not in a set is not among those of it
pub not_those : (p : List ℕ → Bool) (s : Records) (bytes : List ℕ) → has s bytes ≡ false
    → has (those p s) bytes ≡ false
not_those p s bytes new = has_those p s bytes ∙ ap (λ b. p bytes && b) new ∙ and-false (p bytes)

-- two functions that agree on the members of a set pick the same of them
pub pick-agree : {X : Type 0} (f g : List ℕ → Option X) (records : Records)
    → ((bytes : List ℕ) → has records bytes ≡ true → f bytes ≡ g bytes)
    → filter_map f (members records) ≡ filter_map g (members records)
pick-agree f g records agree =
    let all : List (List ℕ) = members records in
    let same = members-set_of nat_list_cmp_total all (members_rise nat_list_cmp_total records) in
    let among = λ (bytes : List ℕ) (on : list_any (is bytes) all ≡ true).
    agree bytes (fin.contains_key-keys records bytes ∙ on) in
    let mapped : map f all ≡ map g all =
    ap (map f) (sym same) ∙ map-members_agree nat_list_cmp_total f g all among
    ∙ ap (map g) same in
    sym (filter_map-map (λ x. x) f all)
    ∙ ap (filter_map (λ x. x)) mapped
    ∙ filter_map-map (λ x. x) g all

-- an element below all of a list is none of them
none_of : (k : List ℕ) (ks : List (List ℕ)) → AllByRecursion (λ y. by_bytes k y ≡ Less) ks
    → list_any (is k) ks ≡ false
none_of k [] below = refl
none_of k (x ∷ xs) below = λ i. is_eq (below.0 i) || none_of k xs below.1 i

-- of a list that rises, an element after the first is not the first
pub not_first : (k : List ℕ) (ks : List (List ℕ)) → IsStrictlySortedBy by_bytes (k ∷ ks)
    → (bytes : List ℕ) → list_any (is bytes) ks ≡ true → is bytes k ≡ false
not_first k ks rising bytes among =
    let none = none_of k ks (sorted_head by_bytes k ks rising) in
    by_record bytes k (λ t. t) (λ t. false)
    (λ same. absurd (true≢false
    (sym (ap (λ b. list_any (is b) ks) (sym same) ∙ among) ∙ none)))
    (λ apart. refl)
