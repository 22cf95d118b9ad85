-- Each call that is an event leaves books that calls made.
use Rattle.std.proofs.Common.{[], ◌∷◌, refl, ap, subst}
use Rattle.book_model.specs.Words.{IsAnswered, after}
use Rattle.table_model.specs.FromCalls.{IsSubmittedTo}
use Rattle.table_model.specs.ReadingLaws.{CallsStay}

-- the law
pub calls_stay : CallsStay
calls_stay = record {
  start = λ naming. record { history = []; answered = tt; submitted = tt; left = refl };
  stay = λ naming book event made submitted answered.
      let handed = subst (λ before. IsSubmittedTo before event) made.left submitted in
      record {
        history = event ∷ made.history;
        answered = (subst (IsAnswered naming event) made.left answered, made.answered);
        submitted = (handed, made.submitted);
        left = ap (after event) made.left;
      };
}
