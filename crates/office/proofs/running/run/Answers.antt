use Rattle.std.proofs.Common.{◌≡◌, ◌+◌, ◌++◌, ◌∷◌, [], ◌∙◌, List, sym, ap, subst, take, take_all}
use Rattle.std.proofs.Common.{rules}
use Rattle.std.proofs.lemmas.List.{take_more}
use Rattle.book_core.specs.Transition.{IsTransition}
use Rattle.book_core.proofs.TransitionLemmas.{no_work, work_then, work_as}
use Rattle.book_core.proofs.FollowLemmas.{follows}
use Rattle.office.specs.declared.request.Asked.{Asked}
use Rattle.office.specs.Runs.{AsksWithoutReader, Runs}
use Rattle.office.proofs.RunLemmas.{none_run, one_more_run, runs_answered}
use Rattle.office.proofs.running.run.Goals as goal

pub loop-asked-init : goal.loop-asked-init
loop-asked-init g c =
    let seen = g.L.Ledger.seen c.args.ledger.now in
    record {
      runs = work_as seen seen _ (Runs seen.naming [] c.in_ok-answers.answers.items)
          (none_run seen.naming c.in_ok-answers.answers.items c.in_ok-answers.ensures.items)
          (no_work seen);
      count = search rules;
      room = search rules;
    }

pub loop-asked-preserved : goal.loop-asked-preserved
loop-asked-preserved g c =
    let old = g.L.Ledger.seen c.args.ledger.now in
    let now = g.L.Ledger.seen c.loop-asked.ledger in
    let new = g.L.Ledger.seen c.ask_without_reader-answer.new.ledger in
    let i = c.loop-asked.asked-index in
    let first : List Asked = take i c.args.requests.now in
    let answers = c.loop-asked.answers.items in
    let asked = c.asked-item.result in
    let answer = c.ask_without_reader-answer.result in
    let told = c.push.new.self.items in
    let all : List Asked = take (i + 1) c.args.requests.now in
    let more : first ++ asked ∷ [] ≡ all =
    ap (λ (item : Asked). first ++ item ∷ []) c.asked-item.is
    ∙ sym (take_more c.args.requests.now i asked c.loop-asked-test.true) in
    let answered = subst (λ naming. IsTransition now new (AsksWithoutReader naming asked answer))
    c.loop-asked.invariant.runs.naming c.ask_without_reader-answer.ensures in
    let both = work_then old now new (Runs old.naming first answers)
    (AsksWithoutReader old.naming asked answer) c.loop-asked.invariant.runs answered in
    record {
      runs = work_as old new _ (Runs old.naming all told)
          (one_more_run old.naming first all answers told asked answer more
          c.in_ok-push.ensures.items) both;
      count = search rules;
      room = search rules;
    }

pub returns : goal.returns
returns g c =
    let old = g.L.Ledger.seen c.args.ledger.now in
    let new = g.L.Ledger.seen c.loop-asked.ledger in
    let requests = c.args.requests.now in
    let answers = c.loop-asked.answers.items in
    let all : take c.loop-asked.asked-index requests ≡ requests =
    take_all c.loop-asked.asked-index requests c.loop-asked-test.false in
    let runs = subst (λ requests. IsTransition old new (Runs old.naming requests answers)) all
    c.loop-asked.invariant.runs in
    record {
      runs = runs;
      history = follows old new (Runs old.naming requests answers)
          (runs_answered old.naming requests answers) runs;
      none = tt;
    }
