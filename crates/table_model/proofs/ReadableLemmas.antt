-- Books that calls made can be read back.
use Rattle.std.proofs.Common.{◌≡◌, ◌∙◌, List, [], ◌∷◌, ap, arith, length, refl, subst, sym}
use Rattle.std.proofs.Common.{true≢false, ◌≤◌, sum_by, filter_map}
use Rattle.std.specs.List.Sorted.{IsStrictlySortedBy}
use Rattle.book_model.proofs.Std.{All-nil}
use Rattle.book_model.specs.Words.{Priced, Event, IsDay, IsMadeByCalls, Naming, book_after}
use Rattle.book_model.specs.Words.{by_bytes, members, most_cost, most_held, new_book, price_in}
use Rattle.book_model.specs.Words.{total_of}
use Rattle.book_model.proofs.Lemmas.{members-empty, none_in, steps_stay_sound}
use Rattle.table_model.specs.FromCalls.{AreSubmitted}
use Rattle.table_model.specs.ReadingLaws.{CallsRead}
use Rattle.table_model.specs.Words.{IsReadable, IsTexted, IsTimely}
use Rattle.table_model.specs.Readable.{IsCredited, IsReplaced}
use Rattle.table_model.specs.Journaled.{IsJournaled}
use Rattle.table_model.proofs.JournalChanges.{journaled_after}
use Rattle.table_model.proofs.LinesStay.{lines_stay}
use Rattle.table_model.proofs.ReadableStays.{readable_stays}

-- new books hold no record
no_records : length (members new_book.held) ≡ 0
no_records = ap length (members-empty by_bytes)

-- so they hold nothing with a cost
no_cost : total_of new_book.rulings new_book.held ≡ 0
no_cost =
    ap (λ ks. sum_by (λ (one : Priced). one.amount) (filter_map (price_in new_book.rulings) ks))
    (members-empty by_bytes)

-- new books can be read back
new_readable : (naming : Naming) → IsReadable naming new_book
unfolding IsStrictlySortedBy
new_readable naming = record {
  sound = steps_stay_sound.start naming;
  lines = lines_stay.start;
  usage = λ bytes there. absurd (true≢false (sym there ∙ none_in bytes));
  priced = λ bytes priced there price. absurd (true≢false (sym there ∙ none_in bytes));
  texts = All-nil IsTexted;
  rising = refl;
  days = All-nil IsDay;
  in_order = tt;
  timely = All-nil (IsTimely new_book);
  adopted = λ period none. cc;
  past = record {
    charged = λ k. new_book.posted;
    past = refl;
    posted = refl;
    dated = λ k came bytes there. absurd (true≢false (sym there ∙ none_in bytes));
  };
  replaced = All-nil (IsReplaced new_book);
  credited = All-nil (IsCredited new_book);
  limits = record {
    held = subst (λ n. n ≤ most_held) (sym no_records) (omega arith);
    cost = subst (λ n. n ≤ most_cost) (sym no_cost) (omega arith);
    closes = omega arith;
    choices = omega arith;
    credits = omega arith;
    replaced = omega arith;
  };
}

-- and so can the book of a history
readable_after : (naming : Naming) (history : List Event) → IsMadeByCalls naming history
    → AreSubmitted history → IsReadable naming (book_after history)
readable_after naming [] made submitted = new_readable naming
readable_after naming (event ∷ older) made submitted =
    readable_stays naming (book_after older) event
    (readable_after naming older made.1 submitted.1) submitted.0 made.0

-- the law
pub calls_read : CallsRead
calls_read = record {
  books = λ naming book made.
      subst (IsReadable naming) (sym made.left)
      (readable_after naming made.history made.answered made.submitted);
  journals = λ naming book made.
      subst IsJournaled (sym made.left) (journaled_after naming made.history made.answered);
}
