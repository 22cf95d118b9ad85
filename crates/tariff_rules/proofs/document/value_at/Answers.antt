use Rattle.std.proofs.Common.{◌∙◌, ap}
use Rattle.toml.specs.Data.{get_member}
use Rattle.toml.specs.View.{table_view}
use Rattle.tariff_rules.proofs.document.value_at.Goals as goal

pub returns : goal.returns
returns c =
    c.member_at.ensures ∙ ap (λ key. get_member key (table_view c.args.table.now)) c.text.ensures
