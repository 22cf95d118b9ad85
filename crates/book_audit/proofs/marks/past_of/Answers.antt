use Rattle.std.proofs.Common.{◌≡◌, sym, ◌∷◌, ◌-◌, [], ℕ, List, IfSome, is_some, pos, subst, Bool}
use Rattle.std.proofs.Common.{Option, ◌+◌, suc, true, false, Some, None, not, arith, refl}
use Rattle.std.specs.Bool.{beq}
use Rattle.sqlite_trees.specs.Tree.{Trees}
use Rattle.sqlite_trees.specs.View.{IsClean}
use Rattle.sqlite_value.specs.Order.{Row, column}
use Rattle.sqlite_value.specs.declared.value.Value.TheVariants.{Blob, Int}
use Rattle.tree_rows.specs.Rows.{Finds}
use Rattle.tree_tables.specs.Columns.{flag}
use Rattle.book_audit.specs.Looks.{IsLook}
use Rattle.book_audit.specs.Records.{GoesBack, IsLine, Turns}
use Rattle.book_audit.specs.Records.Turns.{Stays, Turned}
use Rattle.book_audit.proofs.Walks.Looks.{looked_on, nothing, passed, stopped_on}
use Rattle.book_audit.proofs.Walks.Steps.{look_back, trees_stay}
use Rattle.book_audit.proofs.marks.past_of.Goals.{in-Some+else-plus-now, in_default}
use Rattle.book_audit.proofs.marks.past_of.Goals as goal

-- two marks that are not tested to differ
says_same : (one other : Bool) → not (beq one other) ≡ false → one ≡ other
says_same true true same = refl
says_same false false same = refl
says_same true false same = absurd (cc)
says_same false true same = absurd (cc)

-- a line that says what is charged turns it
turns_some : (line : Option Bool) (plus now before : Bool) → line ≡ Some plus → plus ≡ now
    → before ≡ not plus → Turns line now before
turns_some line plus now before is same turned =
    subst (λ l. Turns l now before) (sym is)
    (subst (λ n. Turns (Some plus) n before) same
    (subst (Turns (Some plus) plus) (sym turned) (Turned plus)))

-- no line leaves it
turns_none : (line : Option Bool) (now before : Bool) → line ≡ None → before ≡ now
    → Turns line now before
turns_none line now before is same =
    subst (λ l. Turns l now before) (sym is) (subst (Turns None now) (sym same) (Stays now))

-- one period further back
goes_on : (lines : List Row) (name : List ℕ) (last k : ℕ) (charged now before : Bool)
    (line : Option Bool) → GoesBack lines name last k charged now
    → IsLine lines (last - k) name line → Turns line now before
    → GoesBack lines name last (k + 1) charged before
goes_on lines name last k charged now before line so_far is turns =
    let step : suc k ≡ k + 1 = omega arith in
    subst (λ n. GoesBack lines name last n charged before) step (now, line, so_far, is, turns)

pub loop-back-init : goal.loop-back-init
loop-back-init g c = record {
  looks = nothing g.S.Store c.args.trees.now.store;
  back = λ clean. refl;
}

pub loop-back-preserved : goal.loop-back-preserved
loop-back-preserved g c =
    let start = c.args.trees.now.store in
    let mid = c.loop-back.trees.store in
    let new = c.line_of.new.self.store in
    let name : List ℕ = c.args.name.now in
    let line = c.in_ok-line.line in
    let found : Row = c.line_of.new.self.found in
    let period : ℕ = c.args.last - c.loop-back.back in
    let call : IsLook g.S.Store mid new = c.in_ok-line.ensures.looks in
    let finds : IsClean (g.S.Store.view new) → Finds (Int (pos period) ∷ Blob name ∷ [])
    ((g.S.Store.view mid).trees 5) found (is_some line) = c.in_ok-line.ensures.found in
    let read : IfSome line (λ plus. column found 2 ≡ Int (pos (flag plus))) = c.in_ok-line.ensures.read in
    let is : IsClean (g.S.Store.view new) → IsLine ((g.S.Store.view start).trees 5) period name line =
    λ clean. record {
      row = found;
      finds = subst (λ (all : Trees). Finds (Int (pos period) ∷ Blob name ∷ []) (all 5) found
          (is_some line)) (trees_stay g.S.Store start mid c.loop-back.invariant.looks.same
          (look_back g.S.Store mid new call.same clean)) (finds clean);
      says = read;
    } in
    let so_far = c.loop-back.invariant in
    let turns : Turns line c.loop-back.now c.match-line.now = elim c.match-line.branch [
      | in-Some+else-plus-now w ↦
          turns_some line w.in-Some.plus c.loop-back.now c.match-line.now w.in-Some.is
          (says_same w.in-Some.plus c.loop-back.now w.if-plus-now.false) w.now-is
      | in_default w ↦
          turns_none line c.loop-back.now c.match-line.now w.in_default.is w.now-is
    ] in
    record {
      looks = looked_on g.S.Store start mid new so_far.looks call;
      back = λ clean. goes_on ((g.S.Store.view start).trees 5) name c.args.last c.loop-back.back
          c.args.charged c.loop-back.now c.match-line.now line
          (so_far.back (look_back g.S.Store mid new call.same clean)) (is clean) turns;
    }

pub returns-in_err-line-clause-looks : goal.returns-in_err-line-clause-looks
returns-in_err-line-clause-looks g c =
    let start = c.args.trees.now.store in
    let mid = c.loop-back.trees.store in
    let new = c.line_of.new.self.store in
    passed g.S.Store start new _ c.from_residual.ensures.0
    (stopped_on g.S.Store start mid new c.loop-back.invariant.looks c.in_err-line.ensures.looks)

pub returns-then-plus-now-clause-looks : goal.returns-then-plus-now-clause-looks
returns-then-plus-now-clause-looks g c =
    looked_on g.S.Store c.args.trees.now.store c.loop-back.trees.store c.line_of.new.self.store
    c.loop-back.invariant.looks c.in_ok-line.ensures.looks

pub returns-clause-looks : goal.returns-clause-looks
returns-clause-looks g c = c.loop-back.invariant.looks
