-- What is told of the output of an answer or a list: that it failed, where a write or a flush of it has.
use Rattle.std.proofs.Common.{◌≡◌, ◌∙◌, Bool, false, true, ℕ, List, Option, Result, Ok, Err, ap}
use Rattle.std.proofs.Common.{inl, inr, refl, subst, sym, take, IsErr}
use Rattle.std.specs.Io.KnownBytes.{Appends}
use Rattle.streams.specs.InputOutput.{Output}
use Rattle.office.specs.Answers.{WritesText}
use Rattle.without_books.specs.Faults.{IsPrinted}
use Rattle.chargectl.specs.declared.streamed_lists.StreamedList.{StreamedList}
use Rattle.chargectl.specs.StreamedLists.{ListsOpen, WritesSomeOf, list_end}
use Rattle.chargectl.proofs.Words.{ReportFault, RepositoryFault, Unseen, ComesBy, CommandFault}
use Rattle.book_lists.specs.declared.fault.ReportFault.TheVariants as report
use Rattle.without_books.specs.declared.command_fault.CommandFault.TheVariants as fault

-- an answer that was not written
pub not_written : (text : List ℕ) (output : Output) (why : ReportFault) (held holds : Option (List ℕ))
    (Failed : Type 0) → WritesText text output (Err why) → output.old.holds ≡ held
    → output.new.holds ≡ holds → (output.new.has_failed ≡ true → Failed)
    → IsPrinted text held holds Failed (Err (fault.Report why))
not_written text output report.Write held holds Failed it old new lost =
    let cut = it.written in (
      inr (lost it.failed, inr refl),
      cut.0,
      subst (λ held. Appends held holds (take cut.0 text)) old
          (subst (λ holds. Appends output.old.holds holds (take cut.0 text)) new cut.2),
    )
not_written text output why held holds Failed it old new lost = absurd it.written

-- ---- a list that was written while the books were open

module _ (list : StreamedList) (held holds : Option (List ℕ)) (had has : Bool) (Same : Type 0) where
  -- so much of it
  pub some_open : (told : Result (Result (Unit {0}) ReportFault) RepositoryFault)
      → ComesBy (ListsOpen list held holds had has) Same told
      → ComesBy (WritesSomeOf list held holds) Same told
  some_open (Ok written) came = came.some
  some_open (Err Unseen) (inl came) = inl (came.0, came.1.some)
  some_open (Err Unseen) (inr same) = inr same
  some_open (Err fault) same = same

  -- the sink is marked where a write of it failed
  pub open_failed : (told : Result (Result (Unit {0}) ReportFault) RepositoryFault)
      → ComesBy (ListsOpen list held holds had has) Same told → had ≡ false
      → told ≡ Ok (Err report.Write) → has ≡ true
  open_failed told came none lost =
      let it : ListsOpen list held holds had has (Err report.Write) =
      subst (λ told. ComesBy (ListsOpen list held holds had has) Same told) lost came in
      it.failed none

-- and so the output has failed, which is not flushed after that
pub list_failed : {O : Type 0} (Failed : O → Type 0) (before after : O)
    (told : Result (Result (Unit {0}) ReportFault) RepositoryFault)
    (listed : Result (Unit {0}) CommandFault) → listed ≡ list_end told
    → (IsErr listed → after ≡ before) → told ≡ Ok (Err report.Write) → Failed before → Failed after
list_failed Failed before after told listed is same lost failed =
    let bad : IsErr listed = subst (λ came. IsErr came) (sym (is ∙ ap list_end lost)) refl in
    subst Failed (sym (same bad)) failed
