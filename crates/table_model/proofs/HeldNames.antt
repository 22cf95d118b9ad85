-- Values under the names of records that are held: that of one record, and those of the others.
use Rattle.std.proofs.Common.{◌≡◌, ℕ, List, refl, sym, ap, ◌∙◌, true, false, Bool, cond, not, ◌&&◌}
use Rattle.std.proofs.Common.{Option, Some, None}
use Rattle.std.specs.FinMap.{find}
use Rattle.book_model.specs.Words.{AreAmong, Book, IsSound, Naming, Records, by_bytes, has, name_of}
use Rattle.book_model.proofs.RecordSets.{has_those, in_those, is, is_itself, not_true, passes_those}
use Rattle.book_model.proofs.RecordSets.{same_records}
use Rattle.book_model.proofs.SetChanges.{IsUnnamed, by_record, except, with-except}
use Rattle.table_model.specs.UnderNames.{under_names}
use Rattle.table_model.proofs.LineChanges.{lines-with, no_line}
use Rattle.table_model.proofs.OpenChanges.{except-absent}
use Rattle.table_model.proofs.OpenNames.{unnamed_in}

-- two sets that differ at one record alone
pub except-alike : (one : List ℕ) (a b : Records)
    → ((q : List ℕ) → is q one ≡ false → has a q ≡ has b q) → except one a ≡ except one b
except-alike one a b same = same_records (except one a) (except one b) (λ q.
    has_those (λ k. not (is k one)) a q
    ∙ by_record q one (λ t. not t && has a q) (λ t. not t && has b q)
    (λ is_one. refl) (λ apart. same q apart)
    ∙ sym (has_those (λ k. not (is k one)) b q))

-- a test that was asked before
pub twice_found : {X : Type 0} (t : Bool) (a b c : X) → cond t a c ≡ cond t a (cond t b c)
twice_found true a b c = refl
twice_found false a b c = refl

module _ (naming : Naming) (book : Book) (sound : IsSound naming book) (one : List ℕ)
    (there : has book.held one ≡ true) where
  -- no other record of a set has its name
  pub alone : (records : Records) → AreAmong records book.held
      → IsUnnamed naming one (except one records)
  alone records within =
      unnamed_in naming book sound one (except one records) there
      (λ q in_it. within q (in_those (λ b. not (is b one)) records q in_it))
      (λ q in_it. not_true (is q one) (passes_those (λ b. not (is b one)) records q in_it))

  -- its value, if a set has it, joins those of the others
  pub value-with : {V : Type 0} (value : V) (records : Records) → AreAmong records book.held
      → (q : List ℕ) (on : Bool) → has records one ≡ on
      → find by_bytes q (under_names naming value records)
      ≡ cond (is q (name_of naming one)) (cond on (Some value) None)
      (find by_bytes q (under_names naming value (except one records)))
  value-with value records within q true is_on =
      ap (λ all. find by_bytes q (under_names naming value all))
      (sym (with-except records one is_on))
      ∙ lines-with naming value one (except one records) (alone records within) q
  value-with {V} value records within q false is_on =
      let name : List ℕ = name_of naming one in
      let rest : List ℕ → Option V =
      λ q. find by_bytes q (under_names naming value (except one records)) in
      ap (λ all. find by_bytes q (under_names naming value all))
      (sym (except-absent records one is_on))
      ∙ by_record q name (λ t. rest q) (λ t. cond t None (rest q))
      (λ same. ap rest same ∙ no_line naming value one (except one records) (alone records within))
      (λ apart. refl)

  -- so its own value is found where a set has it
  pub own_value : {V : Type 0} (value : V) (records : Records) → AreAmong records book.held
      → find by_bytes (name_of naming one) (under_names naming value records)
      ≡ cond (has records one) (Some value) None
  own_value {V} value records within =
      let name : List ℕ = name_of naming one in
      let own : Option V = cond (has records one) (Some value) None in
      value-with value records within name (has records one) refl
      ∙ ap (λ b. cond b own (find by_bytes name (under_names naming value (except one records))))
      (is_itself name)
