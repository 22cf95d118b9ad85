use Rattle.std.proofs.Common.{refl}
use Rattle.table_model.specs.Steps.{put_replaced_row}
use Rattle.table_model.specs.Tables.{Tables}
use Rattle.tree_tables.specs.Stored.{replaced_given}
use Rattle.tree_tables.proofs.Holding.{table_put}
use Rattle.tree_tables.proofs.Layouts.{replaced_layout}
use Rattle.tree_tables.proofs.Looking.{does_alone}
use Rattle.tree_tables.proofs.tables.TreeTables.put_replaced.Goals as goal

pub returns : goal.returns
returns g c =
    let number = c.args.number in
    let given = replaced_given c.args.tariff.now in
    record {
      does = does_alone g.S.Store c.put_row.result c.put_row.ensures.quiet c.put_row.ensures.kept
          c.put_row.ensures.puts (λ clean puts. table_put replaced_layout
          (λ (tables : Tables). tables.replaced) number given (put_replaced_row number given) puts
          c.in_ok-ruling_key.ensures.made c.in_ok-replaced_row.ensures
          (λ tables holds. holds.replaced) (λ tables. refl) (λ tables placed. placed));
    }
