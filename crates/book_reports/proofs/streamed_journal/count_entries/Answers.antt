use Rattle.std.proofs.Common.{◌∙◌, ℕ, length, sym}
use Rattle.std.proofs.lemmas.List.{length-map}
use Rattle.book_model.specs.Words.{entry_shown}
use Rattle.book_lists.proofs.CursorLemmas.{folded}
use Rattle.book_reports.proofs.streamed_journal.count_entries.Goals as goal

pub returns : goal.returns
returns g c =
    folded (λ (count : ℕ). count) length c.fold.ensures
    (λ count entries is. is ∙ sym (length-map entries entry_shown))
