use Rattle.std.proofs.Common.{◌≡◌, ◌++◌, ◌∷◌, ◌+◌, [], List, false, slice_index_or, subst, sym, take}
use Rattle.std.proofs.Common.{take_all}
use Rattle.book_model.proofs.Std.{take_more}
use Rattle.table_ledger.proofs.Words.{StoredChoice, IsLastOf}
use Rattle.table_ledger.proofs.DueCharges.{last_more}
use Rattle.table_ledger.proofs.TryLemmas.{looks_known, saw_found, saw_so, saw_then}
use Rattle.table_ledger.proofs.chosen.last_of.Goals as goal

-- one more choice
pub loop-choice-preserved : goal.loop-choice-preserved
loop-choice-preserved g c =
    let choices = c.args.choices.now in
    let at = c.loop-choice.choice-index in
    let any : StoredChoice = record { number = 0; name = []; counts = false; period = 0 } in
    let one = slice_index_or choices at any in
    let more : take at choices ++ one ∷ [] ≡ take (at + 1) choices =
    sym (take_more choices at any c.loop-choice-test.true) in
    record {
      saw = saw_so (saw_then c.loop-choice.invariant.saw (saw_found c.in_ok-join.ensures.looks))
          (λ tables known.
          subst (λ some. IsLastOf some tables.records c.join.new.chosen) more
          (last_more (take at choices) one tables.records c.loop-choice.chosen
          c.join.new.chosen known.0 known.1));
    }

-- all of them
pub returns : goal.returns
returns g c = record {
  looks = looks_known c.loop-choice.invariant.saw (λ tables known.
      subst (λ (some : List StoredChoice). IsLastOf some tables.records c.loop-choice.chosen)
      (take_all c.loop-choice.choice-index c.args.choices.now c.loop-choice-test.false) known);
}
