-- The group of the records that a piece of a dump completes, as it is gathered.
use Rattle.std.proofs.Common.{◌≡◌, ◌∙◌, ℕ, List, [], ◌∷◌, ◌++◌, refl, sym, ap, append_assoc, append-nil}
use Rattle.std.proofs.Common.{Vec, Global, ◌+◌, ◌<◌, add-one, drop, drop-cons, get_or, length}
use Rattle.std.proofs.lemmas.List.{map-append}
use Rattle.smf_type30.specs.declared.record_class.Class.{Class}
use Rattle.smf_type30.specs.declared.record_class.Class.TheVariants.{Usage}
use Rattle.book_model.specs.Words.{class_of}
use Rattle.book_core.specs.Submissions.{records_in}
use Rattle.book_import.specs.declared.group.Group.{Group}
use Rattle.book_import.specs.declared.receipt.Receipt.{Receipt}
use Rattle.book_import.specs.Receipts.{count_ahead, count_class}
use Rattle.book_import.specs.Groups.{usage_by, usage_of, IsGroup}
use Rattle.book_import.proofs.FeedLemmas.{Doing}

-- a record of another class waits for no answer
pub usage_other : (bytes : List ℕ) (rest : List (List ℕ)) (class : Class) → class_of bytes ≡ class
    → (class ≡ Usage → ⊥) → usage_of (bytes ∷ rest) ≡ usage_of rest
usage_other bytes rest Usage of other = absurd (other refl)
usage_other bytes rest class of other =
    ap (λ class. usage_by class bytes (usage_of rest)) of

-- a usage record waits
pub usage_one : (bytes : List ℕ) (rest : List (List ℕ)) → class_of bytes ≡ Usage
    → usage_of (bytes ∷ rest) ≡ bytes ∷ usage_of rest
usage_one bytes rest of = ap (λ class. usage_by class bytes (usage_of rest)) of

-- one more record at the end
pub usage_append : (records : List (List ℕ)) (bytes : List ℕ)
    → usage_of (records ++ bytes ∷ []) ≡ usage_of records ++ usage_of (bytes ∷ [])
usage_append [] bytes = refl
usage_append (one ∷ rest) bytes =
    ap (usage_by (class_of one) one) (usage_append rest bytes)
    ∙ by_class (class_of one) one (usage_of rest) (usage_of (bytes ∷ []))
  where
    by_class : (class : Class) (one : List ℕ) (early late : List (List ℕ))
        → usage_by class one (early ++ late) ≡ usage_by class one early ++ late
    by_class Usage one early late = refl
    by_class class one early late = refl

-- The group of some records and one more, of another class,
pub group_with_other : {old new : Group} (bytes : List ℕ) (class : Class) → class_of bytes ≡ class
    → (class ≡ Usage → ⊥) → new.classes.items ≡ old.classes.items ++ class ∷ []
    → new.usage.items ≡ old.usage.items → (records : List (List ℕ)) → IsGroup records old
    → IsGroup (records ++ bytes ∷ []) new
group_with_other bytes class of other classes usage records is = record {
  classes = map-append class_of records (bytes ∷ [])
      ∙ (λ i. is.classes i ++ of i ∷ []) ∙ sym classes;
  usage = usage_append records bytes
      ∙ ap (λ late. usage_of records ++ late) (usage_other bytes [] class of other)
      ∙ append-nil (usage_of records) ∙ is.usage ∙ ap records_in (sym usage);
}

-- or of usage.
pub group_with_usage : {old new : Group} (bytes : List ℕ) (own : Vec ℕ Global)
    → class_of bytes ≡ Usage → own.items ≡ bytes → new.classes.items ≡ old.classes.items ++ Usage ∷ []
    → new.usage.items ≡ old.usage.items ++ own ∷ [] → (records : List (List ℕ))
    → IsGroup records old → IsGroup (records ++ bytes ∷ []) new
group_with_usage {old} bytes own of same classes usage records is = record {
  classes = map-append class_of records (bytes ∷ [])
      ∙ (λ i. is.classes i ++ of i ∷ []) ∙ sym classes;
  usage = usage_append records bytes
      ∙ ap (λ late. usage_of records ++ late) (usage_one bytes [] of)
      ∙ (λ i. is.usage i ++ sym same i ∷ [])
      ∙ sym (map-append (λ (one : Vec ℕ Global). one.items) old.usage.items (own ∷ []))
      ∙ ap records_in (sym usage);
}

-- the group is that of the records that were found after the first
abbrev pub Completes : Group → Doing
Completes group first found =
    (records : List (List ℕ)) × IsGroup records group × (found ≡ first ++ records)

-- one more record
pub completes_more : {old new : Group} {bytes : List ℕ}
    → ((records : List (List ℕ)) → IsGroup records old → IsGroup (records ++ bytes ∷ []) new)
    → (first found : List (List ℕ)) → Completes old first found
    → Completes new first (found ++ bytes ∷ [])
completes_more {bytes = bytes} more first found done = (
  done.0 ++ bytes ∷ [],
  more done.0 done.1,
  ap (λ all. all ++ bytes ∷ []) done.2 ∙ append_assoc first done.0 (bytes ∷ []),
)

-- classes are counted ahead one after another
pub ahead_step : (classes : List Class) (i : ℕ) (d : Class) (receipt : Receipt)
    → i < length classes
    → count_ahead (drop i classes) receipt
    ≡ count_ahead (drop (i + 1) classes) (count_class (get_or classes i d) receipt)
ahead_step classes i d receipt within =
    ap (λ classes. count_ahead classes receipt)
    (drop-cons classes i d within ∙ ap (λ n. get_or classes i d ∷ drop n classes) (sym (add-one i)))
