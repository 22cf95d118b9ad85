use Rattle.std.proofs.Common.{◌∙◌, ap, sym, cond, Some}
use Rattle.std.specs.Cmp.Lexicographic.{texts_ties}
use Rattle.std.specs.Map.{lookup}
use Rattle.table_ledger.specs.Adoptions.{last_chosen}
use Rattle.tree_tables.proofs.Inserting.{lookup-insert_entry}
use Rattle.table_ledger.proofs.chosen.Chosen.put.Goals as goal

pub returns : goal.returns
returns c other =
    ap (lookup _) c.in_ok-insert.ensures.entries
    ∙ lookup-insert_entry (λ key. key.items) other c.args.identity c.args.choice
    c.args.self.now.lasts.entries
    ∙ ap (λ b. cond b (Some c.args.choice) (last_chosen c.args.self.now other))
    (sym (texts_ties other c.args.identity.items))
