use Rattle.std.proofs.Common.{◌≡◌, ◌∙◌, [], ℕ, List, ap, length, rules, subst, sym}
use Rattle.std.specs.BTreeMap.{values}
use Rattle.sqlite_trees.specs.Tree.{Trees}
use Rattle.sqlite_trees.specs.View.{IsClean}
use Rattle.sqlite_trees.specs.declared.store.Store.{Ghosts}
use Rattle.book_model.specs.Words.{rows_of}
use Rattle.book_model.specs.declared.row.ChargeRow.{ChargeRow}
use Rattle.book_model.specs.declared.row.RowKey.{RowKey}
use Rattle.book_core.proofs.KeyedRowLemmas.{keyed_rows-none}
use Rattle.tree_rows.specs.Calls.{OnlyLooks}
use Rattle.tree_rows.proofs.Calls.{quiet_both}
use Rattle.book_audit.specs.Days.{AreDueRows}
use Rattle.book_audit.specs.Details.{AreDetails}
use Rattle.book_audit.specs.Entries.{AreCounted}
use Rattle.book_audit.specs.Journal.{AreEntered}
use Rattle.book_audit.specs.Lines.{AreLines}
use Rattle.book_audit.specs.Looks.{IsLook}
use Rattle.book_audit.specs.Records.{AreRecords, counted_prices}
use Rattle.book_audit.specs.Walks.{AreRising}
use Rattle.book_audit.specs.declared.finding.Tree.TheVariants.{Days, Identities, Marks}
use Rattle.book_audit.specs.declared.rulings.Rulings.{Rulings}
use Rattle.book_audit.proofs.Rows.Records.{rows_counted}
use Rattle.book_audit.proofs.Sound.Book.{of_book}
use Rattle.book_audit.proofs.Walks.Looks.{looked_on}
use Rattle.book_audit.proofs.Walks.Steps.{look_back, looks_on, trees_stay}
use Rattle.book_audit.proofs.all_trees.read_trees.Goals as goal

pub returns-clause-sound : goal.returns-clause-sound
returns-clause-sound g c clean =
    let zero = c.args.trees.now.store in
    let one = c.read_rulings.new.trees.store in
    let two = c.check_arrivals.new.trees.store in
    let three = c.check_lines.new.trees.store in
    let four = c.check_rows.new.trees.store in
    let five = c.check_details.new.trees.store in
    let first : OnlyLooks g.S.Store zero one = c.in_ok-rulings.ensures.looks.same in
    let second : OnlyLooks g.S.Store one two = c.in_ok-held.ensures.looks.same in
    let third : OnlyLooks g.S.Store two three = c.in_ok-lines.ensures.looks.same in
    let fourth : OnlyLooks g.S.Store three four = c.in_ok-rows.ensures.looks.same in
    let fifth : OnlyLooks g.S.Store four five = c.in_ok-check_details.ensures.looks.same in
    let at_four : IsClean (g.S.Store.view four) = look_back g.S.Store four five fifth clean in
    let at_three : IsClean (g.S.Store.view three) = look_back g.S.Store three four fourth at_four in
    let at_two : IsClean (g.S.Store.view two) = look_back g.S.Store two three third at_three in
    let at_one : IsClean (g.S.Store.view one) = look_back g.S.Store one two second at_two in
    let to_two : OnlyLooks g.S.Store zero two = looks_on g.S.Store zero one two first second in
    let to_three : OnlyLooks g.S.Store zero three = looks_on g.S.Store zero two three to_two third in
    let stay_one = trees_stay g.S.Store zero one first at_one in
    let stay_two = trees_stay g.S.Store zero two to_two at_two in
    let to_four : OnlyLooks g.S.Store zero four = looks_on g.S.Store zero three four to_three fourth in
    let stay_three = trees_stay g.S.Store zero three to_three at_three in
    let stay_four = trees_stay g.S.Store zero four to_four at_four in
    let trees : Trees = (g.S.Store.view zero).trees in
    let rulings : Rulings = c.in_ok-rulings.rulings in
    let held = c.in_ok-held.held in
    let their = c.in_ok-held.ensures.records at_two in
    let rows : List (RowKey × ChargeRow) = c.check_arrivals.new.places.rows.entries in
    let none : c.new-places.result.rows.entries ≡ [] = c.new-places.ensures ∙ keyed_rows-none in
    let due : List ℕ = their.due in
    let left : List ℕ = their.left in
    let records : AreRecords trees rulings held.records rulings.amount [] rows due left =
    subst (λ (all : Trees). AreRecords all rulings held.records rulings.amount [] rows due left) stay_one
    (subst (λ (old : List (RowKey × ChargeRow)). AreRecords (g.S.Store.view one).trees rulings
    held.records rulings.amount old rows due left) none their.held.records) in
    let counted : values c.check_arrivals.new.places.rows ≡ rows_of (counted_prices records.entries) =
    rows_counted (counted_prices records.entries) rows (records.placed [] (sym keyed_rows-none)) in
    record {
      rulings = rulings;
      rows = rows;
      due = due;
      left = left;
      ruled = c.in_ok-rulings.ensures.ruled at_one;
      entered = subst (λ (all : Trees). AreEntered all rulings.rule due) stay_one their.entered;
      records = records;
      there = their.there;
      held = their.held.held;
      identities = subst (λ (all : Trees). AreCounted Identities (all 6) held.records) stay_one
          their.held.identities;
      marks = subst (λ (all : Trees). AreCounted Marks (all 7) held.records) stay_one
          their.held.marks;
      lines = subst (λ (all : Trees). AreLines all rulings.closes.items c.in_ok-lines.lines) stay_two
          (c.in_ok-lines.ensures.lines at_three);
      days = subst (λ (sums : List ChargeRow). AreDueRows rulings.closes.items sums (trees 4)) counted
          (subst (λ (all : Trees). AreDueRows rulings.closes.items
          (values c.check_arrivals.new.places.rows) (all 4)) stay_three
          (c.in_ok-rows.ensures.rows at_four).0);
      rising = subst (λ (all : Trees). AreRising Days (all 4)) stay_three
          (c.in_ok-rows.ensures.rows at_four).1;
      details = subst (λ (all : Trees). AreDetails all rulings.closes.items) stay_four
          (c.in_ok-check_details.ensures.details clean);
      tariffs = search rules;
      closes = search rules;
      choices = search rules;
      charged = c.in_ok-rows.ensures.count ∙ ap length counted;
    }

pub returns-clause-book : goal.returns-clause-book
returns-clause-book g c clean = of_book _ _ (returns-clause-sound g c clean)

-- ---- nothing is committed

pub returns-in_err-rulings-clause-quiet : goal.returns-in_err-rulings-clause-quiet
returns-in_err-rulings-clause-quiet g c = c.in_err-rulings.ensures.looks

pub returns-in_err-held-clause-quiet : goal.returns-in_err-held-clause-quiet
returns-in_err-held-clause-quiet g c =
    quiet_both g.S.Store c.in_ok-rulings.ensures.looks.quiet c.in_err-held.ensures.looks

pub returns-in_err-lines-clause-quiet : goal.returns-in_err-lines-clause-quiet
returns-in_err-lines-clause-quiet g c =
    quiet_both g.S.Store (quiet_both g.S.Store c.in_ok-rulings.ensures.looks.quiet
    c.in_ok-held.ensures.looks.quiet) c.in_err-lines.ensures.looks

pub returns-in_err-rows-clause-quiet : goal.returns-in_err-rows-clause-quiet
returns-in_err-rows-clause-quiet g c =
    quiet_both g.S.Store (quiet_both g.S.Store (quiet_both g.S.Store
    c.in_ok-rulings.ensures.looks.quiet c.in_ok-held.ensures.looks.quiet)
    c.in_ok-lines.ensures.looks.quiet) c.in_err-rows.ensures.looks

pub returns-in_err-check_details-clause-quiet : goal.returns-in_err-check_details-clause-quiet
returns-in_err-check_details-clause-quiet g c =
    quiet_both g.S.Store (quiet_both g.S.Store (quiet_both g.S.Store (quiet_both g.S.Store
    c.in_ok-rulings.ensures.looks.quiet c.in_ok-held.ensures.looks.quiet)
    c.in_ok-lines.ensures.looks.quiet) c.in_ok-rows.ensures.looks.quiet)
    c.in_err-check_details.ensures.looks

-- ---- a whole audit only looks

-- what all walks do
module _ {S : Type 0} (ghosts : Ghosts S) (zero one two three four five : S)
    (first : IsLook ghosts zero one) (second : IsLook ghosts one two) (third : IsLook ghosts two three)
    (fourth : IsLook ghosts three four) (fifth : IsLook ghosts four five) where
  all_looks : IsLook ghosts zero five
  all_looks = looked_on ghosts zero four five (looked_on ghosts zero three four
      (looked_on ghosts zero two three (looked_on ghosts zero one two first second) third) fourth) fifth

pub returns-clause-same : goal.returns-clause-same
returns-clause-same g c =
    (all_looks g.S.Store c.args.trees.now.store c.read_rulings.new.trees.store
    c.check_arrivals.new.trees.store c.check_lines.new.trees.store c.check_rows.new.trees.store
    c.check_details.new.trees.store c.in_ok-rulings.ensures.looks c.in_ok-held.ensures.looks
    c.in_ok-lines.ensures.looks c.in_ok-rows.ensures.looks c.in_ok-check_details.ensures.looks).same

pub returns-clause-quiet : goal.returns-clause-quiet
returns-clause-quiet g c =
    (all_looks g.S.Store c.args.trees.now.store c.read_rulings.new.trees.store
    c.check_arrivals.new.trees.store c.check_lines.new.trees.store c.check_rows.new.trees.store
    c.check_details.new.trees.store c.in_ok-rulings.ensures.looks c.in_ok-held.ensures.looks
    c.in_ok-lines.ensures.looks c.in_ok-rows.ensures.looks c.in_ok-check_details.ensures.looks).quiet
