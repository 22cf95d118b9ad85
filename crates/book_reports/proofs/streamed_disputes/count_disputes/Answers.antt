use Rattle.std.proofs.Common.{◌∙◌, ℕ, length, sym}
use Rattle.std.proofs.lemmas.List.{length-map}
use Rattle.book_model.specs.Words.{dispute_shown}
use Rattle.book_lists.proofs.CursorLemmas.{folded}
use Rattle.book_reports.proofs.streamed_disputes.count_disputes.Goals as goal

pub returns : goal.returns
returns g c =
    folded (λ (count : ℕ). count) length c.fold.ensures
    (λ count disputes is. is ∙ sym (length-map disputes dispute_shown))
