use Rattle.std.proofs.Common.{◌≡◌, Result, Ok, Err, subst, sym, MatchResult}
use Rattle.book_files.specs.Faults.{tried_answer}
use Rattle.book_files.specs.declared.copied.CopyFault.{CopyFault}
use Rattle.book_files.specs.declared.copied.CopyFault.TheVariants.{Pages, Refused}
use Rattle.book_files.proofs.Told.{comes_on}
use Rattle.book_files.proofs.machine.Machine.try_out_books.Goals as goal

-- what came of a visit of a copy
tried_came : {A : Type 0} (Came : A → Type 0) (Same : Type 0) (answer : Result A CopyFault)
    → MatchResult answer Came (λ fault. Same)
    → MatchResult (tried_answer answer) Came (λ fault. Same)
tried_came Came Same (Ok answer) came = came
tried_came Came Same (Err Pages) same = same
tried_came Came Same (Err (Refused fault)) same = same

pub returns : goal.returns
returns g c =
    let visited = c.visit_copy_at-answer in
    let Came = g.V.Visit.comes c.args.visit.now visited.new.visit in
    let Same : Type 0 = visited.new.visit ≡ c.args.visit.now in
    comes_on Came Same c.tried_answer.result visited.result.copy c.released-answer.result.answer
    c.released-answer.ensures.told
    (subst (λ told. MatchResult told Came (λ fault. Same)) (sym c.tried_answer.ensures)
    (tried_came Came Same visited.result.answer visited.ensures.came))
