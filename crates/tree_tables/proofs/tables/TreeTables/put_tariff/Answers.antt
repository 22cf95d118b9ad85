use Rattle.std.proofs.Common.{◌≡◌, ◌∷◌, [], Some, refl, rules}
use Rattle.sqlite_value.specs.declared.value.Value.TheVariants.{Int}
use Rattle.table_model.specs.Steps.{put_tariff_row}
use Rattle.table_model.specs.Tables.{Tables}
use Rattle.tree_tables.proofs.Holding.{table_put}
use Rattle.tree_tables.proofs.Layouts.{tariff_layout}
use Rattle.tree_tables.proofs.Looking.{does_alone}
use Rattle.tree_tables.proofs.tables.TreeTables.put_tariff.Goals as goal

pub returns : goal.returns
returns g c =
    let tariff = c.args.tariff.now in
    let key : c.day_key.new.key ≡ Int tariff.day ∷ [] = search rules in
    record {
      does = does_alone g.S.Store c.put_row.result c.put_row.ensures.quiet c.put_row.ensures.kept
          c.put_row.ensures.puts (λ clean puts. table_put tariff_layout
          (λ (tables : Tables). tables.tariffs) tariff.day (Some tariff.body.now)
          (put_tariff_row tariff.day (Some tariff.body.now)) puts key c.in_ok-tariff_row.ensures
          (λ tables holds. holds.tariffs) (λ tables. refl) (λ tables placed. placed));
    }
