-- The names of the usage records of a dump, as its pieces complete them.
use Rattle.std.proofs.Common.{◌≡◌, ◌∙◌, List, [], ◌∷◌, ◌++◌, ℕ, Option, ap, append-nil, map, refl, sym}
use Rattle.std.proofs.Common.{true, Vec, Global}
use Rattle.std.proofs.lemmas.List.{map-append}
use Rattle.smf_frames.specs.declared.dump.Layout.{Layout}
use Rattle.smf_frames.specs.declared.fault.FrameFault.{FrameFault}
use Rattle.smf_type30.specs.declared.record_class.Class.{Class}
use Rattle.smf_type30.specs.declared.record_class.Class.TheVariants.{Usage}
use Rattle.book_model.proofs.Std.{map-map}
use Rattle.book_model.specs.Records.{name_of}
use Rattle.book_model.specs.Words.{Front, Joining, HasTaken, Naming, broken_by, class_of, front}
use Rattle.book_model.specs.Words.{nothing_found, nothing_joined}
use Rattle.book_import.specs.declared.group.Group.{Group}
use Rattle.book_model.specs.declared.note.Stop.{Stop}
use Rattle.book_model.specs.declared.note.Stop.TheVariants.{Frame}
use Rattle.book_import.specs.DumpNames.{NamesMore, names_of}
use Rattle.book_import.specs.Dumps.{stop_after}
use Rattle.book_import.specs.Groups.{Breaks, Gathers, usage_by, usage_of}
use Rattle.book_import.specs.Pieces.{TakesAll}
use Rattle.book_import.proofs.FeedLemmas.{HasPassed, holds_here, passed_more}

-- the usage records of two lists
usage_both : (records more : List (List ℕ)) → usage_of (records ++ more) ≡ usage_of records ++ usage_of more
usage_both [] more = refl
usage_both (one ∷ rest) more =
    ap (usage_by (class_of one) one) (usage_both rest more)
    ∙ by_class (class_of one) (usage_of rest) (usage_of more)
  where
    by_class : (class : Class) (early late : List (List ℕ))
        → usage_by class one (early ++ late) ≡ usage_by class one early ++ late
    by_class Usage early late = refl
    by_class class early late = refl

-- the names of the records of a group join those of the text before it
pub group_named : (naming : Naming) {layout : Layout} {text piece : List ℕ} {group : Group}
    {old new : List (List ℕ)} → Gathers layout text piece group
    → new ≡ old ++ map (λ (one : Vec ℕ Global). name_of naming one.items) group.usage.items
    → NamesMore naming layout text piece old new
group_named naming {layout} {text} {piece} {group} {old} {new} gathers added =
    λ before.
    let first = (front layout text).records in
    let name : List ℕ → List ℕ = name_of naming in
    added
    ∙ (λ i. before i ++ sym (map-map name (λ (one : Vec ℕ Global). one.items) group.usage.items) i)
    ∙ ap (λ usage. names_of naming first ++ map name usage) (sym gathers.is.usage)
    ∙ sym (map-append name (usage_of first) (usage_of gathers.records))
    ∙ ap (map name) (sym (usage_both first gathers.records))
    ∙ ap (names_of naming) (sym gathers.found)

-- these are the names of the records so far
abbrev pub AreNamesOf : Naming → List (List ℕ) → List (List ℕ) → Type 0
AreNamesOf naming names records = names ≡ names_of naming records

-- there are none yet
pub names_nothing : (naming : Naming) (layout : Layout) (joiner : Joining) (names : List (List ℕ))
    → joiner ≡ nothing_joined layout → HasTaken [] joiner → front layout [] ≡ nothing_found
    → names ≡ [] → HasPassed layout [] joiner (AreNamesOf naming names)
names_nothing naming layout joiner names is stands found none = record {
  layout_is = ap (λ (j : Joining). j.layout) is;
  none = ap (λ (j : Joining). j.ready) is;
  stands = stands;
  whole = ap (λ (f : Front). f.is_broken) found;
  done = none ∙ sym (ap (λ (f : Front). names_of naming f.records) found);
}

module _ (naming : Naming) {layout : Layout} {bytes : List ℕ} {joiner : Joining} {names : List (List ℕ)}
    (passed : HasPassed layout bytes joiner (AreNamesOf naming names)) (piece : List ℕ)
    {more : List (List ℕ)}
    (named : (text : List ℕ) → HasTaken text joiner
    → NamesMore naming joiner.layout text piece names more)
  where
    -- with one more piece
    pub named_here : more ≡ names_of naming (front layout (bytes ++ piece)).records
    named_here =
        holds_here passed (λ l text. NamesMore naming l text piece names more) named passed.done

    pub names_more : {new : Joining} → TakesAll joiner piece new
        → HasPassed layout (bytes ++ piece) new (AreNamesOf naming more)
    names_more taken = passed_more passed taken named_here

    -- it has a fault, which no more bytes could mend
    module _ (fault : FrameFault)
        (breaks : (text later : List ℕ) → HasTaken text joiner
        → Breaks joiner.layout (text ++ piece) later fault) where
      broken_here : (later : List ℕ) → front layout ((bytes ++ piece) ++ later)
          ≡ broken_by (front layout (bytes ++ piece)).records fault
      broken_here later =
          holds_here passed (λ l text. Breaks l (text ++ piece) later fault)
          (λ text stood. breaks text later stood)

      -- the front of what came
      broken_front : front layout (bytes ++ piece)
          ≡ broken_by (front layout (bytes ++ piece)).records fault
      broken_front =
          ap (front layout) (sym (append-nil (bytes ++ piece))) ∙ broken_here []

      pub stop_broken : (cut : Option Stop) → Frame fault ≡ stop_after cut (front layout (bytes ++ piece))
      stop_broken cut = sym (ap (stop_after cut) broken_front)

      pub is_broken : (front layout (bytes ++ piece)).is_broken ≡ true
      is_broken = ap (λ (f : Front). f.is_broken) broken_front
