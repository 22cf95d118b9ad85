use Rattle.std.proofs.Common.{◌≡◌, ◌∙◌, arith, ap, subst}
use Rattle.sqlite_trees.specs.View.{View}
use Rattle.tree_tables.specs.Steps.{Changes}
use Rattle.tree_tables.proofs.Looking.{ok_so, survives, was_clean}
use Rattle.table_ledger.proofs.SurvivalLemmas.{clean_before, survives_both, survives_then}
use Rattle.book_restarts.specs.FileBooks.{file_names}
use Rattle.book_sessions.proofs.UpgradeParts.{all_written, brought_rests, may_bring}
use Rattle.book_sessions.specs.Upgrades.{written_in, filled as filled_by}
use Rattle.book_trees.specs.declared.schema.OlderForm.{OlderForm}
use Rattle.book_sessions.proofs.upgrades.write_tables.Goals as goal

-- each tree is sorted once it is there
pub mark_choices-requires : goal.mark_choices-requires
mark_choices-requires g c clean =
    let old = c.requires (was_clean (survives g.S.Store c.add_tables.ensures.quiet) clean) in
    (c.in_ok-add_tables.ensures.done clean old).shapes 8 (omega arith)

pub fill_form-requires-clause-closes : goal.fill_form-requires-clause-closes
fill_form-requires-clause-closes g c clean =
    let there = was_clean c.mark_choices.ensures.marks.survives clean in
    let old = c.requires (was_clean (survives g.S.Store c.add_tables.ensures.quiet) there) in
    ap (λ (v : View). v.shape 2) (c.in_ok-mark_choices.ensures.marks.done clean).0
    ∙ (c.in_ok-add_tables.ensures.done there old).shapes 2 (omega arith)

pub fill_form-requires-clause-lines : goal.fill_form-requires-clause-lines
fill_form-requires-clause-lines g c clean =
    let there = was_clean c.mark_choices.ensures.marks.survives clean in
    let old = c.requires (was_clean (survives g.S.Store c.add_tables.ensures.quiet) there) in
    ap (λ (v : View). v.shape 5) (c.in_ok-mark_choices.ensures.marks.done clean).0
    ∙ (c.in_ok-add_tables.ensures.done there old).shapes 5 (omega arith)

pub fill_form-requires-clause-records : goal.fill_form-requires-clause-records
fill_form-requires-clause-records g c clean =
    let there = was_clean c.mark_choices.ensures.marks.survives clean in
    let old = c.requires (was_clean (survives g.S.Store c.add_tables.ensures.quiet) there) in
    ap (λ (v : View). v.shape 3) (c.in_ok-mark_choices.ensures.marks.done clean).0
    ∙ (c.in_ok-add_tables.ensures.done there old).shapes 3 (omega arith)

pub fill_form-requires-clause-details : goal.fill_form-requires-clause-details
fill_form-requires-clause-details g c clean =
    let there = was_clean c.mark_choices.ensures.marks.survives clean in
    let old = c.requires (was_clean (survives g.S.Store c.add_tables.ensures.quiet) there) in
    ap (λ (v : View). v.shape 10) (c.in_ok-mark_choices.ensures.marks.done clean).0
    ∙ (c.in_ok-add_tables.ensures.done there old).shapes 10 (omega arith)

-- all of it is committed at once
pub returns-clause-survives : goal.returns-clause-survives
returns-clause-survives g c =
    let old = g.S.Store.view c.args.store.now in
    let mid = g.S.Store.view c.add_tables.new.store in
    let marked = g.S.Store.view c.mark_choices.new.store in
    let new = g.S.Store.view c.fill_form.new.store in
    let added = survives g.S.Store c.add_tables.ensures.quiet in
    let marks = c.mark_choices.ensures.marks.survives in
    let filled = c.fill_form.ensures.does.survives in
    survives_both (survives_then (survives_then added marks) filled) c.commit_form.ensures.survives
    (λ clean trees none. absurd none)
    (λ clean trees said.
    let still = clean_before c.commit_form.ensures.survives clean in
    let there = was_clean filled still in
    let before = was_clean marks there in
    may_bring file_names old new
    (all_written file_names old mid marked new (c.requires (was_clean added before))
    (g.met.S.Store.ordered c.args.store.now) (c.in_ok-add_tables.ensures.done before)
    (c.in_ok-mark_choices.ensures.marks.done there)
    (subst (λ (form : OlderForm). Changes marked new (λ tables. tables ≡ written_in form tables)
    (filled_by form)) c.old_form-form.ensures (c.in_ok-fill_form.ensures.does.done still))
    (g.met.S.Alter.listed c.fill_form.new.store)) trees said)

pub returns-clause-done : goal.returns-clause-done
returns-clause-done g c =
    let old = g.S.Store.view c.args.store.now in
    let mid = g.S.Store.view c.add_tables.new.store in
    let marked = g.S.Store.view c.mark_choices.new.store in
    let new = g.S.Store.view c.fill_form.new.store in
    let added = survives g.S.Store c.add_tables.ensures.quiet in
    let marks = c.mark_choices.ensures.marks.survives in
    let filled = c.fill_form.ensures.does.survives in
    ok_so c.commit_form.result c.commit_form.ensures.said (λ said clean.
    let still = clean_before c.commit_form.ensures.survives clean in
    let there = was_clean filled still in
    let before = was_clean marks there in
    brought_rests file_names old new
    (all_written file_names old mid marked new (c.requires (was_clean added before))
    (g.met.S.Store.ordered c.args.store.now) (c.in_ok-add_tables.ensures.done before)
    (c.in_ok-mark_choices.ensures.marks.done there)
    (subst (λ (form : OlderForm). Changes marked new (λ tables. tables ≡ written_in form tables)
    (filled_by form)) c.old_form-form.ensures (c.in_ok-fill_form.ensures.does.done still))
    (g.met.S.Alter.listed c.fill_form.new.store))
    (g.S.Store.view c.commit_form.new.store) (said clean))
