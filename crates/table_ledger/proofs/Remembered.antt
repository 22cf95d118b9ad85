-- What a ledger remembers of the rulings of its book: everything but its choices, what was replaced
-- and its credits, of which it has the counts.
use Rattle.std.proofs.Common.{◌≡◌, ◌∙◌, ℕ, sym, ap, subst}
use Rattle.book_model.specs.Words.{Book, Rulings}
use Rattle.book_core.specs.OfficeRulings.{ruled_in}
use Rattle.table_ledger.specs.Ready.{Remembers}
use Rattle.table_ledger.specs.declared.summary.Summary.{Summary}

module _ {summary : Summary} {book : Book} (remembers : Remembers summary book) where
  -- the rulings of the book are what is remembered, with those that are not
  pub rulings_are :
      book.rulings ≡ record (ruled_in summary.rulings) {
        choices = book.rulings.choices;
        replaced = book.rulings.replaced;
        credits = book.rulings.credits;
      }
  rulings_are =
      ap (λ (rulings : Rulings). record rulings {
        choices = book.rulings.choices;
        replaced = book.rulings.replaced;
        credits = book.rulings.credits;
      })
      (sym remembers.rulings)

  pub tariffs_are : (ruled_in summary.rulings).tariffs ≡ book.rulings.tariffs
  tariffs_are = ap (λ (rulings : Rulings). rulings.tariffs) remembers.rulings

  pub closes_are : (ruled_in summary.rulings).closes ≡ book.rulings.closes
  closes_are = ap (λ (rulings : Rulings). rulings.closes) remembers.rulings

-- a summary that says the same remembers the same
pub remembers_same : {was is : Summary} → ruled_in is.rulings ≡ ruled_in was.rulings
    → is.choices ≡ was.choices → is.replaced ≡ was.replaced → is.credits ≡ was.credits
    → is.held ≡ was.held → is.total ≡ was.total → (book : Book)
    → Remembers was book → Remembers is book
remembers_same rulings choices replaced credits held total book remembers = record {
  rulings = rulings ∙ remembers.rulings;
  choices = choices ∙ remembers.choices;
  replaced = replaced ∙ remembers.replaced;
  credits = credits ∙ remembers.credits;
  held = held ∙ remembers.held;
  total = total ∙ remembers.total;
}

-- and so does that summary itself
pub remembers_as : {is summary : Summary} {book : Book} → Remembers is book → summary ≡ is
    → Remembers summary book
remembers_as {book = book} remembers same =
    subst (λ told. Remembers told book) (sym same) remembers

-- A summary says this: the rulings; how many choices, replaced tariffs, credits and records there
-- are; and what the records cost.
pub record Says (ruled : Rulings) (made gone given count cost : ℕ) (is : Summary) : Type 0
  where
    pub rulings : ruled_in is.rulings ≡ ruled
    pub choices : is.choices ≡ made
    pub replaced : is.replaced ≡ gone
    pub credits : is.credits ≡ given
    pub held : is.held ≡ count
    pub total : is.total ≡ cost
