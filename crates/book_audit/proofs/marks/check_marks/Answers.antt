use Rattle.book_audit.proofs.Walks.Looks.{looked_on, passed, stopped_on}
use Rattle.book_audit.proofs.marks.check_marks.Goals as goal

pub returns-in_err-wrong-clause-looks : goal.returns-in_err-wrong-clause-looks
returns-in_err-wrong-clause-looks g c =
    passed g.S.Store c.args.trees.now.store c.wrong_by_trees.new.trees.store _
    c.from_residual.ensures.0 c.in_err-wrong.ensures.looks

pub returns-in-Some-clause-looks : goal.returns-in-Some-clause-looks
returns-in-Some-clause-looks g c = c.in_ok-wrong.ensures.looks.quiet

pub returns-in_err-is_posted_right-clause-looks : goal.returns-in_err-is_posted_right-clause-looks
returns-in_err-is_posted_right-clause-looks g c =
    let start = c.args.trees.now.store in
    let one = c.wrong_by_trees.new.trees.store in
    let two = c.is_posted_right.new.trees.store in
    passed g.S.Store start two _ c.from_residual-in_err-is_posted_right.ensures.0
    (stopped_on g.S.Store start one two c.in_ok-wrong.ensures.looks
    c.in_err-is_posted_right.ensures.looks)

pub returns-then-not-branch-clause-looks : goal.returns-then-not-branch-clause-looks
returns-then-not-branch-clause-looks g c =
    (looked_on g.S.Store c.args.trees.now.store c.wrong_by_trees.new.trees.store
    c.is_posted_right.new.trees.store c.in_ok-wrong.ensures.looks
    c.in_ok-is_posted_right.ensures.looks).quiet

pub returns-in_err-counted-clause-looks : goal.returns-in_err-counted-clause-looks
returns-in_err-counted-clause-looks g c =
    let start = c.args.trees.now.store in
    let one = c.wrong_by_trees.new.trees.store in
    let two = c.is_posted_right.new.trees.store in
    let three = c.past_in.new.trees.store in
    passed g.S.Store start three _ c.from_residual-in_err-counted.ensures.0
    (stopped_on g.S.Store start two three
    (looked_on g.S.Store start one two c.in_ok-wrong.ensures.looks c.in_ok-is_posted_right.ensures.looks)
    c.in_err-counted.ensures.looks)

pub returns-in-None-clause-looks : goal.returns-in-None-clause-looks
returns-in-None-clause-looks g c =
    let start = c.args.trees.now.store in
    let one = c.wrong_by_trees.new.trees.store in
    let two = c.is_posted_right.new.trees.store in
    (looked_on g.S.Store start two c.past_in.new.trees.store
    (looked_on g.S.Store start one two c.in_ok-wrong.ensures.looks c.in_ok-is_posted_right.ensures.looks)
    c.in_ok-counted.ensures.looks).quiet

pub returns-in-Some-2-clause-looks : goal.returns-in-Some-2-clause-looks
returns-in-Some-2-clause-looks g c =
    let start = c.args.trees.now.store in
    let one = c.wrong_by_trees.new.trees.store in
    let two = c.is_posted_right.new.trees.store in
    looked_on g.S.Store start two c.past_in.new.trees.store
    (looked_on g.S.Store start one two c.in_ok-wrong.ensures.looks c.in_ok-is_posted_right.ensures.looks)
    c.in_ok-counted.ensures.looks
