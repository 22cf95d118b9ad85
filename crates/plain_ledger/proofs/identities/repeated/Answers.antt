use Rattle.std.proofs.Common.{◌≡◌, ◌∙◌, ◌<◌, ℕ, List, [], sym, ap, true, cond, get_or, arith, rules}
use Rattle.std.specs.BTreeSet.{contains}
use Rattle.std.specs.Ordering.{is_eq}
use Rattle.std.specs.Slice.Iter.{windows_rest}
use Rattle.std.proofs.lemmas.Iterator.{window_more}
use Rattle.std.proofs.lemmas.List.{get_or_read_under}
use Rattle.book_model.specs.Words.{by_bytes, same_bytes}
use Rattle.plain_ledger.proofs.RepeatLemmas.{Turn, twice-same, twice-other}
use Rattle.plain_ledger.proofs.identities.repeated.Goals as goal
use Rattle.plain_ledger.proofs.identities.repeated.Goals.{After-eq}

-- each turn takes one window: the first that is left and the one after it
turn_of : (c : After-eq)
    → Turn c.args.sorted.now (windows_rest c.loop-pair.pair-iterator)
    (windows_rest c.next.new.self) c.in-Some.pair.now
turn_of c =
    let now = c.loop-pair.invariant in
    let turn =
    window_more c.args.sorted.now c.loop-pair.pair-iterator c.next.new.self c.next.result
    c.in-Some.pair c.in-Some.is c.next.ensures.steps (omega arith) now.short now.left in
    record {
      within = now.short;
      more = omega arith;
      less = turn.0;
      rest = turn.1;
      stand = λ k below. turn.3 k [] (omega arith);
    }

-- what is read of a window is there
read_of : (c : After-eq) (k : ℕ) (read : List ℕ) → k < 2 → read ≡ get_or c.in-Some.pair.now k read
    → read ≡ get_or c.in-Some.pair.now k []
read_of c k read within is =
    get_or_read_under c.in-Some.pair.now k 2 read [] is within (search rules)

-- the test, on the two texts
same_is : (c : After-eq) → same_bytes (get_or c.in-Some.pair.now 0 [])
    (get_or c.in-Some.pair.now 1 []) ≡ c.eq.result
same_is c =
    (λ i. same_bytes (sym (read_of c 0 _ (omega arith) c.index-pair-0.is) i)
    (sym (read_of c 1 _ (omega arith) c.index-pair-1.is) i))
    ∙ sym c.eq.ensures

pub loop-pair-preserved-in_ok-insert : goal.loop-pair-preserved-in_ok-insert
loop-pair-preserved-in_ok-insert c =
    let at = (goal.at.loop-pair-preserved-in_ok-insert c).After-eq in
    let turn = turn_of at in
    record {
      size = omega arith;
      short = omega arith;
      left = turn.rest;
      repeated = λ identity. twice-same turn identity _ (c.loop-pair.invariant.repeated identity) _
          (same_is at ∙ c.if-eq.true)
          (c.in_ok-insert.ensures.updates.0 identity
          ∙ ap (λ key. cond (is_eq (by_bytes key identity)) true
          (contains by_bytes c.loop-pair.repeated identity))
          (read_of at 0 _ (omega arith) c.index-pair-0-then-eq.is));
    }

pub loop-pair-preserved : goal.loop-pair-preserved
loop-pair-preserved c =
    let at = (goal.at.loop-pair-preserved c).After-eq in
    let turn = turn_of at in
    record {
      size = omega arith;
      short = omega arith;
      left = turn.rest;
      repeated = λ identity. twice-other turn identity _ (c.loop-pair.invariant.repeated identity)
          c.requires (same_is at ∙ c.if-eq.false);
    }
