use Rattle.std.proofs.Common.{◌∙◌, ap, sym, cond, Some}
use Rattle.std.specs.Cmp.Lexicographic.{texts_ties}
use Rattle.std.specs.Map.{lookup}
use Rattle.tree_tables.proofs.Inserting.{lookup-insert_entry}
use Rattle.book_audit.specs.ChoiceRows.{named_in, row_of}
use Rattle.book_audit.specs.Choices.{last_chosen}
use Rattle.book_audit.proofs.choices.Chosen.put.Goals as goal

pub returns-clause-names : goal.returns-clause-names
returns-clause-names c other =
    ap (lookup _) c.in_ok-insert.ensures.entries
    ∙ lookup-insert_entry (λ key. key.items) other c.args.identity
    (named_in (row_of c.args.choice.now)) c.args.self.now.lasts.entries
    ∙ ap (λ b. cond b (Some (named_in (row_of c.args.choice.now)))
    (last_chosen c.args.self.now other))
    (sym (texts_ties other c.args.identity.items))
