use Rattle.std.proofs.Common.{◌∙◌, arith, inl, sym}
use Rattle.book_trees.proofs.OldTrees.{details_made, details_there, room_for_details}
use Rattle.book_trees.proofs.Results.{on_ok}
use Rattle.book_trees.proofs.added_tables.add_details.Goals as goal

pub create-requires : goal.create-requires
create-requires g c clean =
    room_for_details c.detail_object.result c.detail_object.ensures
    (g.S.Store.view c.args.store.now) (c.requires clean) (sym c.old_form.ensures ∙ c.in-First.is)

-- the first form gets them,
pub returns-in-First-clause-done : goal.returns-in-First-clause-done
returns-in-First-clause-done g c =
    on_ok c.create.result c.create.ensures.ok (λ creates clean old.
    details_made c.detail_object.result c.detail_object.ensures (g.S.Store.view c.args.store.now)
    (g.S.Store.view c.create.new.self) (creates clean) old
    (sym c.old_form.ensures ∙ c.in-First.is))

-- and the second has them
pub returns-in-Second-clause-done : goal.returns-in-Second-clause-done
returns-in-Second-clause-done g c clean old =
    details_there (g.S.Store.view c.args.store.now) old (sym c.old_form.ensures ∙ c.in-Second.is)

pub returns-in-Second-clause-quiet : goal.returns-in-Second-clause-quiet
returns-in-Second-clause-quiet g c = record {
  shield = λ shielded. shielded;
  clean = omega arith;
  counts = omega arith;
  closes = λ clean is_open. inl is_open;
  outcomes = λ trees left. left;
}
