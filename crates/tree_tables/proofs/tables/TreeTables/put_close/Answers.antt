use Rattle.std.proofs.Common.{refl}
use Rattle.table_model.specs.Steps.{put_close_row}
use Rattle.table_model.specs.Tables.{Tables}
use Rattle.tree_tables.proofs.Holding.{table_put}
use Rattle.tree_tables.proofs.Layouts.{closed_layout}
use Rattle.tree_tables.proofs.Looking.{does_alone}
use Rattle.tree_tables.proofs.tables.TreeTables.put_close.Goals as goal

pub returns : goal.returns
returns g c =
    let close = c.args.close.now in
    record {
      does = does_alone g.S.Store c.put_row.result c.put_row.ensures.quiet c.put_row.ensures.kept
          c.put_row.ensures.puts (λ clean puts. table_put closed_layout
          (λ (tables : Tables). tables.closes) close.period close.through
          (put_close_row close.period close.through) puts c.in_ok-period_key.ensures.made
          c.in_ok-close_row.ensures (λ tables holds. holds.closes)
          (λ tables. refl)
          (λ tables placed. placed));
    }
