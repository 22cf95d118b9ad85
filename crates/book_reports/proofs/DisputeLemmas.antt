-- The text of the disputes, which are counted and then written as they are read.
use Rattle.std.proofs.Common.{◌≡◌, ◌∙◌, ℕ, zero, suc, ◌+◌, ◌-◌, ◌≤◌, ◌<◌, List, [], ◌∷◌, ◌++◌}
use Rattle.std.proofs.Common.{length, map, refl, sym, ap, subst, append_assoc, arith, Option}
use Rattle.std.proofs.Common.{Result, Ok, Err, inl, flat_map}
use Rattle.book_model.proofs.Std.{length-map}
use Rattle.book_model.specs.declared.dispute.Dispute.{Dispute}
use Rattle.book_model.specs.Words.{Disputed, dispute_shown, disputes_in}
use Rattle.book_core.specs.Words.{Seen, IsCall, IsTransition}
use Rattle.report_texts.specs.DisputeLists.{dispute_lines}
use Rattle.report_texts.specs.DisputeTables.{member_heading, rows_from}
use Rattle.report_texts.specs.Figures.{dispute_count}
use Rattle.book_lists.proofs.AnsweringLemmas.{only_hinders}
use Rattle.book_lists.proofs.StreamedLemmas.{some_before}
use Rattle.book_reports.specs.declared.what_if.StatementForm.{StatementForm}
use Rattle.book_reports.proofs.Words.{LedgerFault, ReportFault, report_fault_of, WritesAnswerUntil}
use Rattle.book_reports.proofs.Words.{list_answer, list_text, parts_from, answer_unread, shown}
use Rattle.book_reports.proofs.Words.{parts_as, then_written, same_value, answered_by, counted_part}
use Rattle.book_reports.proofs.Words.{dispute_count_outcome, disputes_text, filled, missing_lines}
use Rattle.book_reports.specs.StreamedDisputes.{WritesDisputes, dispute_report, disputes_head}
use Rattle.book_reports.specs.StreamedDisputes.{disputes_part, lines_from, part_left}
use Rattle.book_reports.specs.StreamedDisputes.{some_above_disputes}
use Rattle.book_reports.specs.declared.what_if.StatementForm.TheVariants as form

-- ---- the text

-- the lines of a list are those of each dispute, and those of a table its rows
list_lines : (number : ℕ) (disputes : List Disputed)
    → lines_from form.Text number disputes ≡ flat_map dispute_lines disputes
list_lines number [] = refl
list_lines number (dispute ∷ others) =
    ap (λ lines. dispute_lines dispute ++ lines) (list_lines (number + 1) others)

table_rows : (number : ℕ) (disputes : List Disputed)
    → lines_from form.Table number disputes ≡ rows_from number disputes
table_rows number [] = refl
table_rows number (dispute ∷ others) =
    ap (λ rows. disputes_part form.Table number dispute ++ rows) (table_rows (number + 1) others)

whole_text : (form : StatementForm) (disputes : List Disputed)
    → disputes_head form (length disputes) ++ lines_from form 1 disputes ≡ disputes_text form disputes
whole_text form.Text disputes =
    ap (λ lines. disputes_head form.Text (length disputes) ++ lines) (list_lines 1 disputes)
whole_text form.Table disputes = ap (λ rows. member_heading ++ rows) (table_rows 1 disputes)

-- ---- the text of those that were counted

-- after so many as were counted there are no lines,
pub past_counted : (form : StatementForm) (total number : ℕ) (dispute : Disputed) → total ≤ number
    → counted_part form total number dispute ≡ []
past_counted form total number dispute past =
    let none : total - number ≡ 0 = omega (arith, past) in
    ap (λ left. part_left form left number dispute) none

-- before there are those of each,
pub still_counted : (form : StatementForm) (total number : ℕ) (dispute : Disputed) → number < total
    → counted_part form total number dispute ≡ disputes_part form (number + 1) dispute
still_counted form total number dispute before =
    let more : total - number ≡ suc (total - (number + 1)) = omega (arith, before) in
    ap (λ left. part_left form left number dispute) more

-- and of so many none is missing
pub none_missing : (form : StatementForm) (total number : ℕ) → total ≤ number
    → missing_lines form total number ≡ []
none_missing form total number past =
    let none : total - number ≡ 0 = omega (arith, past) in
    ap (λ left. lines_from form (number + 1) (filled left [])) none

filled_count : (total : ℕ) (disputes : List Disputed) → length (filled total disputes) ≡ total
filled_count zero disputes = refl
filled_count (suc more) [] = ap suc (filled_count more [])
filled_count (suc more) (dispute ∷ others) = ap suc (filled_count more others)

-- where there are so many, they are those
filled_whole : (disputes : List Disputed) → filled (length disputes) disputes ≡ disputes
filled_whole [] = refl
filled_whole (dispute ∷ others) = ap (λ others. dispute ∷ others) (filled_whole others)

-- with those that are missing the lines are those of so many
counted_lines : (form : StatementForm) (total number : ℕ) (disputes : List Disputed)
    → parts_from (counted_part form total) number disputes
    ++ missing_lines form total (number + length disputes)
    ≡ lines_from form (number + 1) (filled (total - number) disputes)
counted_lines form total number [] =
    let same : number + 0 ≡ number = omega arith in
    ap (missing_lines form total) same
counted_lines form total number (dispute ∷ others) =
    let same : number + suc (length others) ≡ (number + 1) + length others = omega arith in
    let rest = parts_from (counted_part form total) (number + 1) others in
    append_assoc (counted_part form total number dispute) rest
    (missing_lines form total (number + suc (length others)))
    ∙ ap (λ n. counted_part form total number dispute ++ (rest ++ missing_lines form total n)) same
    ∙ ap (λ lines. counted_part form total number dispute ++ lines)
    (counted_lines form total (number + 1) others)
    ∙ with_left (total - number) refl
  where
    with_left : (left : ℕ) → total - number ≡ left
        → part_left form (total - number) number dispute
        ++ lines_from form ((number + 1) + 1) (filled (total - (number + 1)) others)
        ≡ lines_from form (number + 1) (filled (total - number) (dispute ∷ others))
    with_left zero is =
        let none : total - (number + 1) ≡ 0 = omega (arith, is) in
        ap (λ left. part_left form left number dispute
        ++ lines_from form ((number + 1) + 1) (filled (total - (number + 1)) others)) is
        ∙ ap (λ left. lines_from form ((number + 1) + 1) (filled left others)) none
        ∙ sym (ap (λ left. lines_from form (number + 1) (filled left (dispute ∷ others))) is)
    with_left (suc more) is =
        let fewer : total - (number + 1) ≡ more = omega (arith, is) in
        ap (λ left. part_left form left number dispute
        ++ lines_from form ((number + 1) + 1) (filled (total - (number + 1)) others)) is
        ∙ ap (λ left. disputes_part form (number + 1) dispute
        ++ lines_from form ((number + 1) + 1) (filled left others)) fewer
        ∙ sym (ap (λ left. lines_from form (number + 1) (filled left (dispute ∷ others))) is)

-- so the text is that of so many disputes
counted_text : (form : StatementForm) (total : ℕ) (disputes : List Disputed)
    → list_text (disputes_head form total) (counted_part form total)
    (λ disputes. missing_lines form total (length disputes)) disputes
    ≡ disputes_text form (filled total disputes)
counted_text form total disputes =
    let head = disputes_head form total in
    let parts = parts_from (counted_part form total) 0 disputes in
    let first : length disputes ≡ 0 + length disputes = omega arith in
    let all : total - 0 ≡ total = omega arith in
    append_assoc head parts (missing_lines form total (length disputes))
    ∙ ap (λ n. head ++ (parts ++ missing_lines form total n)) first
    ∙ ap (λ lines. head ++ lines) (counted_lines form total 0 disputes)
    ∙ ap (λ left. head ++ lines_from form (0 + 1) (filled left disputes)) all
    ∙ ap (λ n. disputes_head form n ++ lines_from form 1 (filled total disputes))
    (sym (filled_count total disputes))
    ∙ whole_text form (filled total disputes)

pub listed_text : (form : StatementForm) (total : ℕ) (disputes : List Dispute)
    → list_text (disputes_head form total)
    (λ number dispute. counted_part form total number (dispute_shown dispute))
    (λ disputes. missing_lines form total (length disputes)) disputes
    ≡ disputes_text form (filled total (map dispute_shown disputes))
listed_text form total disputes =
    let head = disputes_head form total in
    ap (λ lines. (head ++ lines) ++ missing_lines form total (length disputes))
    (parts_as dispute_shown
    (λ number dispute. counted_part form total number (dispute_shown dispute))
    (counted_part form total) (λ number dispute. refl) 0 disputes)
    ∙ ap (λ n. (head ++ parts_from (counted_part form total) 0 (map dispute_shown disputes))
    ++ missing_lines form total n)
    (sym (length-map disputes dispute_shown))
    ∙ counted_text form total (map dispute_shown disputes)

-- ---- what the calls did

-- they were not counted
pub text_uncounted : (form : StatementForm) (old new : Seen) (fault : LedgerFault)
    (held : Option (List ℕ))
    → IsCall (λ (count : ℕ). count) old new (Err fault) (dispute_count_outcome old.naming)
    → IsTransition old new (WritesDisputes form old.naming held held (Err (report_fault_of fault)))
text_uncounted form old new fault held call =
    answer_unread (λ book. refl) fault call (answered_by (dispute_report form)) held
    (λ book text is.
    let disputes = disputes_in old.naming book.rulings book.held in
    let head = disputes_head form (length disputes) in
    subst (λ text. 0 < length text) (whole_text form disputes ∙ same_value is)
    (some_before head (lines_from form 1 disputes) (some_above_disputes form (length disputes))))
    (λ book said. inl (only_hinders (dispute_count old.naming book) fault said))

-- they were, and those that are written then are the book's
pub text_counted : (form : StatementForm) (old mid new : Seen) (total : ℕ)
    (held holds : Option (List ℕ)) (result : Result (Unit {0}) ReportFault)
    → IsCall (λ (count : ℕ). count) old mid (Ok total) (dispute_count_outcome old.naming)
    → IsTransition mid new
    (WritesAnswerUntil (list_answer (disputes_head form total) (counted_part form total)
    (λ disputes. missing_lines form total (length disputes))
    (λ naming book. Ok (disputes_in naming book.rulings book.held)))
    mid.naming held holds result)
    → IsTransition old new (WritesDisputes form old.naming held holds result)
text_counted form old mid new total held holds result counted work =
    then_written (shown (λ book. refl) counted) (answered_by (dispute_report form))
    (λ book known.
    let disputes = disputes_in old.naming book.rulings book.held in
    ap Ok (counted_text form total disputes
    ∙ ap (λ n. disputes_text form (filled n disputes)) (sym (same_value known))
    ∙ ap (disputes_text form) (filled_whole disputes)))
    work
