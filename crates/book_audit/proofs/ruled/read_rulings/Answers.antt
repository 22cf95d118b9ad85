use Rattle.std.proofs.Common.{◌≡◌, ◌+◌, ℤ, List, length, rules, subst, true}
use Rattle.sqlite_trees.specs.Tree.{Trees}
use Rattle.sqlite_trees.specs.View.{IsClean}
use Rattle.tree_rows.specs.Calls.{OnlyLooks}
use Rattle.book_audit.specs.ChoiceRows.{AreChoices}
use Rattle.book_audit.specs.Entries.{AreCounted}
use Rattle.book_audit.specs.KeptRulings.{AreKept}
use Rattle.book_audit.specs.Rules.{is_by}
use Rattle.book_audit.specs.Rulings.{AreClosed, AreTariffs}
use Rattle.book_audit.specs.declared.finding.Tree.TheVariants.{ChoiceNames}
use Rattle.book_audit.specs.declared.identity_rule.IdentityRule.{IdentityRule}
use Rattle.book_audit.proofs.Walks.Looks.{looked_on, passed, stopped_on}
use Rattle.book_audit.proofs.Walks.Steps.{look_back, looks_on, trees_stay}
use Rattle.book_audit.proofs.ruled.read_rulings.Goals as goal

pub returns-clause-ruled : goal.returns-clause-ruled
returns-clause-ruled g c clean =
    let start = c.args.trees.now.store in
    let one = c.read_book.new.trees.store in
    let two = c.read_tariffs.new.trees.store in
    let three = c.read_closes.new.trees.store in
    let four = c.read_choices.new.trees.store in
    let first : OnlyLooks g.S.Store start one = c.in_ok-book.ensures.looks.same in
    let second : OnlyLooks g.S.Store one two = c.in_ok-tariffs.ensures.looks.same in
    let third : OnlyLooks g.S.Store two three = c.in_ok-closes.ensures.looks.same in
    let five = c.read_kept.new.trees.store in
    let fourth : OnlyLooks g.S.Store three four = c.in_ok-chosen.ensures.looks.same in
    let fifth : OnlyLooks g.S.Store four five = c.in_ok-read_kept.ensures.looks.same in
    let at_four : IsClean (g.S.Store.view four) = look_back g.S.Store four five fifth clean in
    let at_three : IsClean (g.S.Store.view three) = look_back g.S.Store three four fourth at_four in
    let at_two : IsClean (g.S.Store.view two) = look_back g.S.Store two three third at_three in
    let at_one : IsClean (g.S.Store.view one) = look_back g.S.Store one two second at_two in
    let to_two : OnlyLooks g.S.Store start two = looks_on g.S.Store start one two first second in
    let to_three : OnlyLooks g.S.Store start three = looks_on g.S.Store start two three to_two third in
    let to_four : OnlyLooks g.S.Store start four = looks_on g.S.Store start three four to_three fourth in
    let stay = trees_stay g.S.Store start three to_three at_three in
    let rule : IdentityRule = c.in_ok-book.book.rule in
    let chosen = c.in_ok-chosen.chosen in
    let days : List ℤ = c.in_ok-closes.closes.items in
    let many : c.len-2.result ≡ length days = search rules in
    let begun : is_by (c.len-2.result + 1) rule ≡ true = search rules in
    record {
      book = c.in_ok-book.ensures.book at_one;
      tariffs = subst (λ (all : Trees). AreTariffs (all 1) c.in_ok-tariffs.tariffs.items)
          (trees_stay g.S.Store start one first at_one) (c.in_ok-tariffs.ensures.tariffs at_two);
      closes = subst (λ (all : Trees). AreClosed (all 2) days)
          (trees_stay g.S.Store start two to_two at_two) (c.in_ok-closes.ensures.closed at_three);
      choices = subst (λ (all : Trees). AreChoices all rule (length days + 1) chosen) stay
          (subst (λ n. AreChoices (g.S.Store.view three).trees rule (n + 1) chosen) many
          (c.in_ok-chosen.ensures.choices at_four).0);
      choice_names = subst (λ (all : Trees). AreCounted ChoiceNames (all 9) chosen.count) stay
          (c.in_ok-chosen.ensures.choices at_four).1;
      kept = subst (AreKept (length days + 1)) (trees_stay g.S.Store start four to_four at_four)
          (subst (λ n. AreKept (n + 1) (g.S.Store.view four).trees) many
          (c.in_ok-read_kept.ensures.kept clean));
      begun = subst (λ n. is_by (n + 1) rule ≡ true) many begun;
    }

pub returns-in_err-book-clause-looks : goal.returns-in_err-book-clause-looks
returns-in_err-book-clause-looks g c =
    passed g.S.Store c.args.trees.now.store c.read_book.new.trees.store _ c.from_residual.ensures.0
    c.in_err-book.ensures.looks

pub returns-in_err-tariffs-clause-looks : goal.returns-in_err-tariffs-clause-looks
returns-in_err-tariffs-clause-looks g c =
    let start = c.args.trees.now.store in
    let one = c.read_book.new.trees.store in
    let two = c.read_tariffs.new.trees.store in
    passed g.S.Store start two _ c.from_residual-in_err-tariffs.ensures.0
    (stopped_on g.S.Store start one two c.in_ok-book.ensures.looks c.in_err-tariffs.ensures.looks)

pub returns-in_err-closes-clause-looks : goal.returns-in_err-closes-clause-looks
returns-in_err-closes-clause-looks g c =
    let start = c.args.trees.now.store in
    let one = c.read_book.new.trees.store in
    let two = c.read_tariffs.new.trees.store in
    let three = c.read_closes.new.trees.store in
    passed g.S.Store start three _ c.from_residual-in_err-closes.ensures.0
    (stopped_on g.S.Store start two three
    (looked_on g.S.Store start one two c.in_ok-book.ensures.looks c.in_ok-tariffs.ensures.looks)
    c.in_err-closes.ensures.looks)

pub returns-then-len-gt-MAX_CLOSES-clause-looks : goal.returns-then-len-gt-MAX_CLOSES-clause-looks
returns-then-len-gt-MAX_CLOSES-clause-looks g c =
    let start = c.args.trees.now.store in
    let one = c.read_book.new.trees.store in
    let two = c.read_tariffs.new.trees.store in
    (looked_on g.S.Store start two c.read_closes.new.trees.store
    (looked_on g.S.Store start one two c.in_ok-book.ensures.looks c.in_ok-tariffs.ensures.looks)
    c.in_ok-closes.ensures.looks).quiet

pub returns-then-not-is_by-clause-looks : goal.returns-then-not-is_by-clause-looks
returns-then-not-is_by-clause-looks g c =
    let start = c.args.trees.now.store in
    let one = c.read_book.new.trees.store in
    let two = c.read_tariffs.new.trees.store in
    (looked_on g.S.Store start two c.read_closes.new.trees.store
    (looked_on g.S.Store start one two c.in_ok-book.ensures.looks c.in_ok-tariffs.ensures.looks)
    c.in_ok-closes.ensures.looks).quiet

pub returns-in_err-chosen-clause-looks : goal.returns-in_err-chosen-clause-looks
returns-in_err-chosen-clause-looks g c =
    let start = c.args.trees.now.store in
    let one = c.read_book.new.trees.store in
    let two = c.read_tariffs.new.trees.store in
    let three = c.read_closes.new.trees.store in
    let four = c.read_choices.new.trees.store in
    passed g.S.Store start four _ c.from_residual-in_err-chosen.ensures.0
    (stopped_on g.S.Store start three four (looked_on g.S.Store start two three
    (looked_on g.S.Store start one two c.in_ok-book.ensures.looks c.in_ok-tariffs.ensures.looks)
    c.in_ok-closes.ensures.looks) c.in_err-chosen.ensures.looks)

pub returns-in_err-read_kept-clause-looks : goal.returns-in_err-read_kept-clause-looks
returns-in_err-read_kept-clause-looks g c =
    let start = c.args.trees.now.store in
    let one = c.read_book.new.trees.store in
    let two = c.read_tariffs.new.trees.store in
    let three = c.read_closes.new.trees.store in
    let four = c.read_choices.new.trees.store in
    let five = c.read_kept.new.trees.store in
    passed g.S.Store start five _ c.from_residual-in_err-read_kept.ensures.0
    (stopped_on g.S.Store start four five (looked_on g.S.Store start three four
    (looked_on g.S.Store start two three
    (looked_on g.S.Store start one two c.in_ok-book.ensures.looks c.in_ok-tariffs.ensures.looks)
    c.in_ok-closes.ensures.looks) c.in_ok-chosen.ensures.looks) c.in_err-read_kept.ensures.looks)

pub returns-clause-looks : goal.returns-clause-looks
returns-clause-looks g c =
    let start = c.args.trees.now.store in
    let one = c.read_book.new.trees.store in
    let two = c.read_tariffs.new.trees.store in
    let three = c.read_closes.new.trees.store in
    let four = c.read_choices.new.trees.store in
    looked_on g.S.Store start four c.read_kept.new.trees.store
    (looked_on g.S.Store start three four
    (looked_on g.S.Store start two three (looked_on g.S.Store start one two c.in_ok-book.ensures.looks
    c.in_ok-tariffs.ensures.looks) c.in_ok-closes.ensures.looks) c.in_ok-chosen.ensures.looks)
    c.in_ok-read_kept.ensures.looks
