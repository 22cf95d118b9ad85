-- Names: what is under each, and what sets and maps by name say of the entries.
use Rattle.std.proofs.Common.{◌≡◌, ◌∙◌, ℕ, List, [], ◌∷◌, ◌++◌, refl, sym, ap, subst, Bool, true}
use Rattle.std.proofs.Common.{false, cond, Option, Some, None, get_or, map, All, filter}
use Rattle.std.proofs.Common.{option_and_then}
use Rattle.book_model.proofs.Lemmas.{map-agree, set_of-alike, filter-alike, map-alike}
use Rattle.std.specs.BTreeMap.{is_at, insert_entry}
use Rattle.std.specs.Iterator.{Yields}
use Rattle.std.specs.Map.{keys_of, lookup}
use Rattle.std.specs.Map.Iter.{TakesFirst}
use Rattle.std.proofs.lemmas.Map.Entries.{lookup_from_place}
use Rattle.std.proofs.lemmas.Map.Iter.{rest_so_far, rest_more}
use Rattle.book_model.proofs.Std.{All-push, slice_get-get_or, AllByRecursion, IsDistinct}
use Rattle.book_model.proofs.Std.{IsStrictlySortedBy, option_map_or, option_or, eq_by_cmp}
use Rattle.book_model.proofs.Std.{nat_list_cmp_total, eq_by_cmp_equiv, IsDistinct-from_sorted}
use Rattle.book_model.proofs.Std.{IsDistinct-head, IsDistinct-tail, exact_bytes, tells_apart}
use Rattle.book_model.specs.Words.{by_bytes, set_of}
use Rattle.book_model.proofs.LatestLemmas.{or-none}
use Rattle.plain_ledger.specs.declared.treatment.ClosedPeriod.{ClosedPeriod}
use Rattle.plain_ledger.specs.declared.held.HeldRecord.{HeldRecord}
use Rattle.plain_ledger.specs.declared.treatment.Treatment.{Treatment}
use Rattle.plain_ledger.specs.Plain.{Entry, entry_records}
use Rattle.plain_ledger.specs.Treatments.{Names, NamesOf, TreatmentsOf, AreNamed, under_name}
use Rattle.plain_ledger.specs.Treatments.{has_name_in, records_where, period_with, treatment_closed}
use Rattle.plain_ledger.specs.Treatments.{is_counted, is_added, is_taken}
use Rattle.plain_ledger.proofs.EntryLemmas.{insert_entry-alike}
use Rattle.plain_ledger.proofs.HeldLemmas.{bytes_of}
use Rattle.std.specs.BTreeMap as tree
use Rattle.std.specs.BTreeSet as set

-- what is found with one more entry at the end
lookup-behind : (test : List ℕ → Bool) (done : List Entry) (entry : Entry)
    → lookup test (done ++ entry ∷ [])
    ≡ option_or (lookup test done) (cond (test entry.0) (Some entry.1) None)
lookup-behind test [] entry = refl
lookup-behind test (e ∷ done) entry =
    elim (test e.0) as (λ b. cond b (Some e.1) (lookup test (done ++ entry ∷ []))
    ≡ option_or (cond b (Some e.1) (lookup test done))
    (cond (test entry.0) (Some entry.1) None)) [
      | true ↦ refl
      | false ↦ lookup-behind test done entry
    ]

-- what is under a name, with one more entry at the end that has a name that none has
under_name-more : (done : List Entry) (entry : Entry) (name : List ℕ)
    → under_name entry.0 done ≡ None
    → under_name name (done ++ entry ∷ [])
    ≡ cond (is_at (by_bytes entry.0) name) (Some entry.1) (under_name name done)
under_name-more done entry name missing =
    let laws = eq_by_cmp_equiv nat_list_cmp_total in
    lookup-behind (is_at (by_bytes name)) done entry
    ∙ ap (λ b. option_or (under_name name done) (cond b (Some entry.1) None))
    (laws.symm name entry.0)
    ∙ elim (eq_by_cmp by_bytes entry.0 name) as (λ b. eq_by_cmp by_bytes entry.0 name ≡ b
    → option_or (under_name name done) (cond b (Some entry.1) None)
    ≡ cond b (Some entry.1) (under_name name done)) [
      | true ↦ λ tied.
          let same = tells_apart exact_bytes entry.0 name tied in
          ap (λ found. option_or found (Some entry.1))
          (ap (λ n. under_name n done) (sym same) ∙ missing)
      | false ↦ λ other. or-none (under_name name done)
    ] refl

-- an entry's name is that of none before it
missing_so_far : (all done rest : List Entry) (entry : Entry) → all ≡ done ++ entry ∷ rest
    → IsStrictlySortedBy by_bytes (keys_of all) → under_name entry.0 done ≡ None
missing_so_far all done rest entry is rising =
    missing done (IsDistinct-from_sorted by_bytes (keys_of (done ++ entry ∷ rest))
    (subst (λ es. IsStrictlySortedBy by_bytes (keys_of es)) is rising))
  where
    among : (P : List ℕ → Type 0) (done : List Entry)
        → AllByRecursion P (keys_of (done ++ entry ∷ rest)) → P entry.0
    among P [] all = all.0
    among P (e ∷ done) all = among P done all.1

    missing : (done : List Entry)
        → IsDistinct (eq_by_cmp by_bytes) (keys_of (done ++ entry ∷ rest))
        → under_name entry.0 done ≡ None
    missing [] apart = refl
    missing (e ∷ done) apart =
        let later = keys_of (done ++ entry ∷ rest) in
        let laws = eq_by_cmp_equiv nat_list_cmp_total in
        let other = laws.symm entry.0 e.0
        ∙ among (λ key. eq_by_cmp by_bytes e.0 key ≡ false) done
        (IsDistinct-head (eq_by_cmp by_bytes) e.0 later apart) in
        ap (λ b. cond b (Some e.1) (under_name entry.0 done)) other
        ∙ missing done (IsDistinct-tail (eq_by_cmp by_bytes) e.0 later apart)

-- so the name of what a loop over the entries takes next is that of none that it took before
pub missing_next : {A : Type 0} (shows : A → Entry) (all start now after : List Entry)
    (taken : List A) (next : Option A) (one : A) → start ≡ all
    → Yields (TakesFirst shows) start taken now → next ≡ Some one
    → TakesFirst shows now next after → IsStrictlySortedBy by_bytes (keys_of all)
    → under_name (shows one).0 (map shows taken) ≡ None
missing_next shows all start now after taken next one is_all so_far is takes rising =
    missing_so_far all (map shows taken) after (shows one)
    (sym is_all ∙ rest_so_far shows taken start now so_far
    ∙ ap (λ rest. map shows taken ++ rest) (rest_more shows now after next one is takes))
    rising

-- the names so far, with one more
pub names-more : (test : Entry → Bool) (done : List Entry) (entry : Entry) (names next : Names)
    → under_name entry.0 done ≡ None → NamesOf test done names → test entry ≡ true
    → ((name : List ℕ) → set.contains by_bytes next name
    ≡ cond (is_at (by_bytes entry.0) name) true (set.contains by_bytes names name))
    → NamesOf test (done ++ entry ∷ []) next
names-more test done entry names next missing are passes put name =
    put name
    ∙ elim (is_at (by_bytes entry.0) name) as (λ b. is_at (by_bytes entry.0) name ≡ b
    → cond b true (set.contains by_bytes names name)
    ≡ option_map_or (λ held. test (name, held))
    (cond b (Some entry.1) (under_name name done)) false) [
      | true ↦ λ tied.
          sym (ap (λ n. test (n, entry.1)) (sym (tells_apart exact_bytes entry.0 name tied))
          ∙ passes)
      | false ↦ λ other. are name
    ] refl
    ∙ ap (λ found. option_map_or (λ held. test (name, held)) found false)
    (sym (under_name-more done entry name missing))

-- with one that is not among them
pub names-skip : (test : Entry → Bool) (done : List Entry) (entry : Entry) (names : Names)
    → under_name entry.0 done ≡ None → NamesOf test done names → test entry ≡ false
    → NamesOf test (done ++ entry ∷ []) names
names-skip test done entry names missing are fails name =
    are name
    ∙ elim (is_at (by_bytes entry.0) name) as (λ b. is_at (by_bytes entry.0) name ≡ b
    → option_map_or (λ held. test (name, held)) (under_name name done) false
    ≡ option_map_or (λ held. test (name, held))
    (cond b (Some entry.1) (under_name name done)) false) [
      | true ↦ λ tied.
          let same = tells_apart exact_bytes entry.0 name tied in
          ap (λ found. option_map_or (λ held. test (name, held)) found false)
          (ap (λ n. under_name n done) (sym same) ∙ missing)
          ∙ sym (ap (λ n. test (n, entry.1)) (sym same) ∙ fails)
      | false ↦ λ other. refl
    ] refl
    ∙ ap (λ found. option_map_or (λ held. test (name, held)) found false)
    (sym (under_name-more done entry name missing))

-- the shares so far, with one more
pub treatments-more : (treatment : Entry → Option Treatment) (done : List Entry) (entry : Entry) (one : Treatment)
    (treatments next : tree.BTreeMap (List ℕ) Treatment)
    → under_name entry.0 done ≡ None → TreatmentsOf treatment done treatments → treatment entry ≡ Some one
    → ((name : List ℕ) → tree.get by_bytes next name
    ≡ cond (is_at (by_bytes entry.0) name) (Some one) (tree.get by_bytes treatments name))
    → TreatmentsOf treatment (done ++ entry ∷ []) next
treatments-more treatment done entry one treatments next missing are is put name =
    put name
    ∙ elim (is_at (by_bytes entry.0) name) as (λ b. is_at (by_bytes entry.0) name ≡ b
    → cond b (Some one) (tree.get by_bytes treatments name)
    ≡ option_and_then (λ held. treatment (name, held)) (cond b (Some entry.1) (under_name name done))) [
      | true ↦ λ tied.
          sym (ap (λ n. treatment (n, entry.1)) (sym (tells_apart exact_bytes entry.0 name tied)) ∙ is)
      | false ↦ λ other. are name
    ] refl
    ∙ ap (option_and_then (λ held. treatment (name, held)))
    (sym (under_name-more done entry name missing))

pub treatments-skip : (treatment : Entry → Option Treatment) (done : List Entry) (entry : Entry)
    (treatments : tree.BTreeMap (List ℕ) Treatment)
    → under_name entry.0 done ≡ None → TreatmentsOf treatment done treatments → treatment entry ≡ None
    → TreatmentsOf treatment (done ++ entry ∷ []) treatments
treatments-skip treatment done entry treatments missing are is name =
    are name
    ∙ elim (is_at (by_bytes entry.0) name) as (λ b. is_at (by_bytes entry.0) name ≡ b
    → option_and_then (λ held. treatment (name, held)) (under_name name done)
    ≡ option_and_then (λ held. treatment (name, held)) (cond b (Some entry.1) (under_name name done))) [
      | true ↦ λ tied.
          let same = tells_apart exact_bytes entry.0 name tied in
          ap (option_and_then (λ held. treatment (name, held)))
          (ap (λ n. under_name n done) (sym same) ∙ missing)
          ∙ sym (ap (λ n. treatment (n, entry.1)) (sym same) ∙ is)
      | false ↦ λ other. refl
    ] refl
    ∙ ap (option_and_then (λ held. treatment (name, held)))
    (sym (under_name-more done entry name missing))

module _ (entries : List Entry) (rising : IsStrictlySortedBy by_bytes (keys_of entries)) where
  -- each entry is under its name
  pub own_name : All (λ (entry : Entry). under_name entry.0 entries ≡ Some entry.1) entries
  own_name k d within =
      lookup_from_place (eq_by_cmp_equiv nat_list_cmp_total) entries k (get_or entries k d).0
      (get_or entries k d).1 (IsDistinct-from_sorted by_bytes (keys_of entries) rising)
      (slice_get-get_or entries k d within)

  -- so an entry is named where it passes the test
  pub each_named_by : (test : Entry → Bool) (names : Names) → NamesOf test entries names
      → All (λ (entry : Entry). has_name_in names entry ≡ test entry) entries
  each_named_by test names are k d within =
      let entry = get_or entries k d in
      are entry.0
      ∙ ap (λ found. option_map_or (λ held. test (entry.0, held)) found false) (own_name k d within)

  -- and has the share
  pub each_shared_by : (treatment : Entry → Option Treatment) (treatments : tree.BTreeMap (List ℕ) Treatment)
      → TreatmentsOf treatment entries treatments
      → All (λ (entry : Entry). tree.get by_bytes treatments entry.0 ≡ treatment entry) entries
  each_shared_by treatment treatments are k d within =
      let entry = get_or entries k d in
      are entry.0 ∙ ap (option_and_then (λ held. treatment (entry.0, held))) (own_name k d within)

-- With one entry more, under a name that none has.
module _ (entries : List Entry) (name : List ℕ) (h : HeldRecord)
    (missing : under_name name entries ≡ None) where
  abbrev after : List Entry
  after = insert_entry by_bytes entries name h

  -- what a test chooses that it does not pass stays
  pub where-kept : (test : Entry → Bool) → test (name, h) ≡ false
      → records_where test after ≡ records_where test entries
  where-kept test fails =
      set_of-alike nat_list_cmp_total exact_bytes
      (map-alike bytes_of (filter-alike test (insert_entry-alike by_bytes name h entries missing)))
      ∙ ap (λ b. set_of by_bytes
      (entry_records (cond b ((name, h) ∷ filter test entries) (filter test entries)))) fails

  -- so does a period in which it has no share
  pub with-kept : (treatment : Entry → Option Treatment) → treatment (name, h) ≡ None
      → period_with treatment after ≡ period_with treatment entries
  with-kept treatment none =
      let each : (is : Option Treatment → Bool) → is None ≡ false
      → records_where (λ e. is (treatment e)) after ≡ records_where (λ e. is (treatment e)) entries =
      λ is fails. where-kept (λ e. is (treatment e)) (ap is none ∙ fails) in
      λ i. record {
        counted = each is_counted refl i;
        added = each is_added refl i;
        taken = each is_taken refl i;
      }

  module _ (posted : Names) (closed : List ClosedPeriod) (named : AreNamed entries posted closed)
    where
      -- what was charged at the last close stays
      pub posted-kept : records_where (has_name_in posted) after
          ≡ records_where (has_name_in posted) entries
      posted-kept = where-kept (has_name_in posted) (named.posted name missing)

      -- and so do closed periods
      pub past-kept : map (λ period. period_with (treatment_closed period) after) closed
          ≡ map (λ period. period_with (treatment_closed period) entries) closed
      past-kept =
          map-agree (λ period. period_with (treatment_closed period) after)
          (λ period. period_with (treatment_closed period) entries) closed
          (λ k d within. with-kept (treatment_closed (get_or closed k d))
          (named.past k d within name missing))

      -- nobody has a share who is not held
      pub still_named : ((other : List ℕ) → under_name other after
          ≡ cond (is_at (by_bytes name) other) (Some h) (under_name other entries))
          → AreNamed after posted closed
      still_named put =
          let was_missing : (other : List ℕ) → under_name other after ≡ None
          → under_name other entries ≡ None =
          λ other none. not_put (is_at (by_bytes name) other) (under_name other entries)
          (sym (put other) ∙ none) in
          record {
            posted = λ other none. named.posted other (was_missing other none);
            past = λ k d within other none. named.past k d within other (was_missing other none);
          }
        where
          not_put : (b : Bool) (found : Option HeldRecord) → cond b (Some h) found ≡ None
              → found ≡ None
          not_put true found none = cc
          not_put false found none = none

-- after a close it is so again, where only what is held was charged, and has a share
pub named-closed : (test : Entry → Bool) (treatment : Entry → Option Treatment) (entries : List Entry)
    (names posted : Names) (closed : List ClosedPeriod) (one : ClosedPeriod)
    (all : List ClosedPeriod) → all ≡ closed ++ one ∷ []
    → AreNamed entries names closed → NamesOf test entries posted
    → TreatmentsOf treatment entries one.treatments → AreNamed entries posted all
named-closed test treatment entries names posted closed one all is named names_are shares_are =
    let Missing : ClosedPeriod → Type 0 = λ period. (name : List ℕ) → under_name name entries ≡ None
    → tree.get by_bytes period.treatments name ≡ None in
    let last : Missing one = λ name none. shares_are name
    ∙ ap (option_and_then (λ held. treatment (name, held))) none in
    record {
      posted = λ name none. names_are name
          ∙ ap (λ found. option_map_or (λ held. test (name, held)) found false) none;
      past = subst (All Missing) (sym is)
          (All-push Missing closed one named.past last);
    }
