-- Checks of dumps that have to be whole.
use Rattle.std.proofs.Common.{◌≡◌, true, false, List, ℕ, Option, subst}
use Rattle.book_model.specs.Words.{Layout}
use Rattle.without_books.specs.declared.ended.Ended.{Ended}
use Rattle.without_books.specs.DumpEnds.{notices_torn}
use Rattle.without_books.specs.Reading.{FindsTorn, Lists}

-- what a reader had that a file gave was found torn, whatever became of the list
pub found_torn : (layout : Layout) (had file held holds : Option (List ℕ)) (Failed : Type 0)
    (ended : Ended) → had ≡ file → Lists layout true false had held holds Failed ended
    → notices_torn ended ≡ true → FindsTorn layout file
found_torn layout had file held holds Failed ended same it torn =
    subst (FindsTorn layout) same (record {
      held = held;
      holds = holds;
      ended = ended;
      lists = record {
        looked = it.looked;
        look = it.look;
        input = it.input;
        answer = it.answer;
        begun = it.begun;
        list = it.list;
        ends = it.ends;
        failed = λ is. tt;
      };
      torn = torn;
    })
