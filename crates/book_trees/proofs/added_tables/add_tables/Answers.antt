use Rattle.tree_rows.proofs.Calls.{clean_before, quiet_both}
use Rattle.book_trees.proofs.OldTrees.{adds_tables}
use Rattle.book_trees.proofs.Results.{on_both}
use Rattle.book_trees.proofs.added_tables.add_tables.Goals as goal

-- each table is made where there is room for it
pub list_choices-requires : goal.list_choices-requires
list_choices-requires g c clean =
    let old = c.requires (clean_before g.S.Store c.add_details.ensures.quiet clean) in (
      old.form,
      g.S.Store.view c.args.store.now,
      c.in_ok-add_details.ensures.done clean old,
    )

pub list_records-requires : goal.list_records-requires
list_records-requires g c clean =
    let first = g.S.Store.view c.args.store.now in
    let detailed = clean_before g.S.Store c.list_choices.ensures.quiet clean in
    let old = c.requires (clean_before g.S.Store c.add_details.ensures.quiet detailed) in (
      old.form,
      first,
      c.in_ok-list_choices.ensures.done clean old.form first
          (c.in_ok-add_details.ensures.done detailed old),
    )

pub add_credits-requires : goal.add_credits-requires
add_credits-requires g c clean =
    let first = g.S.Store.view c.args.store.now in
    let chosen = clean_before g.S.Store c.list_records.ensures.quiet clean in
    let detailed = clean_before g.S.Store c.list_choices.ensures.quiet chosen in
    let old = c.requires (clean_before g.S.Store c.add_details.ensures.quiet detailed) in (
      old.form,
      first,
      c.in_ok-list_records.ensures.done clean old.form first
          (c.in_ok-list_choices.ensures.done chosen old.form first
          (c.in_ok-add_details.ensures.done detailed old)),
    )

pub add_replaced-requires : goal.add_replaced-requires
add_replaced-requires g c clean =
    let first = g.S.Store.view c.args.store.now in
    let listed = clean_before g.S.Store c.add_credits.ensures.quiet clean in
    let chosen = clean_before g.S.Store c.list_records.ensures.quiet listed in
    let detailed = clean_before g.S.Store c.list_choices.ensures.quiet chosen in
    let old = c.requires (clean_before g.S.Store c.add_details.ensures.quiet detailed) in (
      old.form,
      first,
      c.in_ok-add_credits.ensures.done clean old.form first
          (c.in_ok-list_records.ensures.done listed old.form first
          (c.in_ok-list_choices.ensures.done chosen old.form first
          (c.in_ok-add_details.ensures.done detailed old))),
    )

pub add_journal-requires : goal.add_journal-requires
add_journal-requires g c clean =
    let first = g.S.Store.view c.args.store.now in
    let credited = clean_before g.S.Store c.add_replaced.ensures.quiet clean in
    let listed = clean_before g.S.Store c.add_credits.ensures.quiet credited in
    let chosen = clean_before g.S.Store c.list_records.ensures.quiet listed in
    let detailed = clean_before g.S.Store c.list_choices.ensures.quiet chosen in
    let old = c.requires (clean_before g.S.Store c.add_details.ensures.quiet detailed) in (
      old.form,
      first,
      c.in_ok-add_replaced.ensures.done clean old.form first
          (c.in_ok-add_credits.ensures.done credited old.form first
          (c.in_ok-list_records.ensures.done listed old.form first
          (c.in_ok-list_choices.ensures.done chosen old.form first
          (c.in_ok-add_details.ensures.done detailed old)))),
    )

-- and then there are all
pub returns-clause-done : goal.returns-clause-done
returns-clause-done g c =
    let first = g.S.Store.view c.args.store.now in
    on_both c.add_journal.result c.add_journal.ensures.done c.add_journal.ensures.sound
    (λ done sound clean old.
    let replaced = clean_before g.S.Store c.add_journal.ensures.quiet clean in
    let credited = clean_before g.S.Store c.add_replaced.ensures.quiet replaced in
    let listed = clean_before g.S.Store c.add_credits.ensures.quiet credited in
    let chosen = clean_before g.S.Store c.list_records.ensures.quiet listed in
    let detailed = clean_before g.S.Store c.list_choices.ensures.quiet chosen in
    let thirteen = c.in_ok-add_replaced.ensures.done replaced old.form first
    (c.in_ok-add_credits.ensures.done credited old.form first
    (c.in_ok-list_records.ensures.done listed old.form first
    (c.in_ok-list_choices.ensures.done chosen old.form first
    (c.in_ok-add_details.ensures.done detailed old)))) in
    adds_tables old.form first (g.S.Store.view c.add_replaced.new.store)
    (g.S.Store.view c.add_journal.new.store) thirteen (sound clean)
    (done clean old.form first thirteen))

pub returns-clause-quiet : goal.returns-clause-quiet
returns-clause-quiet g c =
    quiet_both g.S.Store (quiet_both g.S.Store (quiet_both g.S.Store (quiet_both g.S.Store
    (quiet_both g.S.Store c.add_details.ensures.quiet c.list_choices.ensures.quiet)
    c.list_records.ensures.quiet) c.add_credits.ensures.quiet) c.add_replaced.ensures.quiet)
    c.add_journal.ensures.quiet
