-- The two tests of texts, by their bytes and in their order, agree.
use Rattle.std.proofs.Common.{◌≡◌, ℕ, List}
use Rattle.book_model.specs.Words.{same_bytes}
use Rattle.book_model.proofs.Lemmas.{is, same_bytes-by_cmp}

pub same_is : (one other : List ℕ) → same_bytes one other ≡ is one other
same_is one other = λ i. same_bytes-by_cmp i one other
