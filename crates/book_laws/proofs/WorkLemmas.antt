-- Of the records that are taken for the same work one is charged at most, after a choice the chosen
-- one.
use Rattle.book_model.proofs.Lemmas.{named_held}
use Rattle.book_model.proofs.ChosenLemmas.{charged-choice, one_charged}
use Rattle.book_laws.specs.WorkLaws.{ChosenIsCharged, WorkIsChargedOnce}

-- the law of works
pub work_is_charged_once : WorkIsChargedOnce
work_is_charged_once book one other first second shared =
    one_charged book.rulings book.held one other first second shared

-- the law of choices
pub chosen_is_charged : ChosenIsCharged
chosen_is_charged naming book name bytes found done =
    charged-choice book.rulings book.held bytes (named_held naming book.held name bytes found)
