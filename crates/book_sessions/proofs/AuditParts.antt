-- What an audit says of files.
use Rattle.std.proofs.Common.{◌≡◌, ◌∙◌, Option, None, Some, IsTrue, refl, subst, sym, true≢false}
use Rattle.std.proofs.Common.{Result, IfOk, IfSome, IsOk, IsSome, MatchOption}
use Rattle.std.specs.Prelude.{⊤}
use Rattle.book_model.specs.Words.{Naming}
use Rattle.book_core.specs.Words.{NoEvent}
use Rattle.table_ledger.specs.Commits.{IsAtRest}
use Rattle.book_audit.specs.declared.audited.Audited.{Audited}
use Rattle.book_audit.specs.declared.audited.Audited.TheVariants.{Sound}
use Rattle.book_audit.specs.declared.audited.Counts.{Counts}
use Rattle.book_trees.specs.Looks.{IsUnopenedLook, look_opening}
use Rattle.book_trees.specs.StoreView.{ListsBooks}
use Rattle.book_trees.specs.declared.integrity.LookFault.{LookFault}
use Rattle.book_trees.specs.declared.integrity.LookFault.TheVariants.{Pages, Open}
use Rattle.book_restarts.specs.FileBooks.{GoesOn}
use Rattle.book_restarts.proofs.SessionLemmas.{still_held}
use Rattle.book_sessions.specs.Audits.{AreAudited, HoldCounted, HoldSameTrees, SoundAreOurs}
use Rattle.book_sessions.specs.Faults.{look_answer}
use Rattle.book_sessions.proofs.Words.{∥∥₁_elim, ∥∥₁_map, ∥∥₁_prop, Ghosts, Files, state, view}
use Rattle.book_sessions.proofs.Words.{IsReady, FileStore, Trees, IsClean, AreClean, Image}
use Rattle.book_sessions.proofs.Words.{IsStoredIn, HoldsThisForm, HoldsBooks, trees_held}
use Rattle.book_sessions.proofs.Words.{IsRefusedWithout, books_schema, file_names, AreLeftAsFound}
use Rattle.book_sessions.proofs.Words.{MayFollow, RepositoryFault}
use Rattle.book_sessions.specs.declared.ended.Ended.TheVariants.{Refused}
use Rattle.book_sessions.proofs.Causes.{look_cause}
use Rattle.book_sessions.proofs.Openings.{some_so}
use Rattle.book_sessions.proofs.SessionParts.{found_clean, opened_rests, refused_goes_on}
use Rattle.book_sessions.proofs.SessionParts.{refused_tables}

-- a store that an audit leaves as it was leaves the trees that its files held
pub audited_same : {D : Type 0} {g : Ghosts D} (first image : Image) (store : FileStore D g)
    → IsReady store
    → (IsTrue (state store).is_clean → (held : HoldsBooks first) → (view store).trees ≡ trees_held held)
    → IsTrue (state store).is_clean
    → ((IsClean (view store) → IsAtRest (view store))
    → ∥ ((left : HoldsBooks image) × (trees_held left ≡ (view store).trees)) ∥₁)
    → HoldSameTrees first image
audited_same first image store ready found clean same held =
    ∥∥₁_map (same (opened_rests store ready)) λ left. (left.0, left.1 ∙ found clean held)

-- so do files that were refused
pub refused_same : {D : Type 0} (g : Ghosts D) (first : Image) (files : Option (Files D))
    → IfSome files (AreLeftAsFound g first) → (image : Image) → MayFollow g (Refused files) image
    → HoldSameTrees first image
refused_same g first None same image never held = absurd never
refused_same g first (Some files) same image may held =
    refused_tables {wanted = books_schema} g (λ (trees : Trees). trees ≡ trees_held held) first files
    same image may ∣ (held, refl) ∣₁

-- so they hold the history that they held
pub same_goes_on : (names : Naming) (first image : Image) → HoldSameTrees first image
    → GoesOn names NoEvent first image
same_goes_on names first image same =
    still_held names first image (λ book held.
    ∥∥₁_elim held ∥∥₁_prop λ kept.
    ∥∥₁_map (same kept.0) λ left. (left.0, subst (IsStoredIn names book) (sym left.1) kept.1))

-- and their pages are called wrong only where they list the tables of books
pub looked_listed : {D : Type 0} (g : Ghosts D) (Lists : Type 0) (fault : LookFault)
    (files : Option (Files D))
    → (fault ≡ Pages → IfSome files (λ files. AreClean g files.log files.db → Lists))
    → IfOk (look_answer fault)
    (λ audited. (image : Image) → MayFollow g (Refused files) image → ∥ Lists ∥₁)
looked_listed g Lists Pages None lists = λ image never. absurd never
looked_listed g Lists Pages (Some files) lists =
    λ image may. ∣ lists refl (found_clean g files image may) ∣₁
looked_listed g Lists (Open fault) files lists = tt

-- and files that were not looked through have an answer only where they are in hand
pub looked_in_hand : {D : Type 0} (g : Ghosts D) (found : Image) (fault : LookFault)
    (files : Option (Files D))
    → MatchOption files (IsUnopenedLook fault)
    (IsRefusedWithout g (HoldsThisForm found) (look_opening fault))
    → IsOk (look_answer fault) → IsSome files
looked_in_hand g found Pages None cause answered = absurd cause
looked_in_hand g found Pages (Some files) cause answered = refl
looked_in_hand g found (Open fault) files cause answered = absurd (true≢false (sym answered))

-- pages that are wrong are not called sound
never_sound : {D : Type 0} (g : Ghosts D) (found : Image) (fault : LookFault) (files : Option (Files D))
    → IfOk (look_answer fault) (λ audited. (counts : Counts) → audited ≡ Sound counts
    → (image : Image) → MayFollow g (Refused files) image → HoldCounted counts found)
never_sound g found Pages files = λ counts is. absurd (cc)
never_sound g found (Open fault) files = tt

-- so it is with all that is said of files that were not looked through
pub unaudited : {D : Type 0} (g : Ghosts D) (found : Image) (fault : LookFault)
    (files : Option (Files D)) (result : Result Audited RepositoryFault)
    → result ≡ look_answer fault
    → MatchOption files (IsUnopenedLook fault)
    (IsRefusedWithout g (HoldsThisForm found) (look_opening fault))
    → IfSome files (AreLeftAsFound g found)
    → (fault ≡ Pages → IfSome files (λ files. AreClean g files.log files.db → ListsBooks found))
    → AreAudited g found result (Refused files)
unaudited g found fault files result is there same lists =
    subst (λ (told : Result Audited RepositoryFault). AreAudited g found told (Refused files)) (sym is)
    (record {
      history = refused_goes_on g file_names found files same;
      unopened = some_so files same (λ files same. same.kept);
      same = refused_same g found files same;
      rows = tt;
      book = never_sound g found fault files;
      listed = looked_listed g (ListsBooks found) fault files lists;
      in_hand = looked_in_hand g found fault files there;
      refused = look_cause g (HoldsThisForm found) (λ other. ⊤) fault files there;
    })

-- the law
pub sound_are_ours : SoundAreOurs
sound_are_ours counts image sound =
    ∥∥₁_map sound λ found.
    let of = found.1 in
    record {
      book = of.book;
      held = ∣ (
        found.0,
        record { readable = of.readable; journaled = of.journaled; holds = of.holds },
      ) ∣₁;
    }
