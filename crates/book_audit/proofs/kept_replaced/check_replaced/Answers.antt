use Rattle.std.proofs.Common.{◌≡◌, ◌∙◌, ◌+◌, FitsSigned, Some, refl, rules, string_bytes, sym, w32}
use Rattle.std.proofs.lemmas.Str.{IsUtf8-string_bytes}
use Rattle.book_model.proofs.Std.{to_z-of_z}
use Rattle.tree_tables.specs.Columns.{replaced_columns}
use Rattle.book_audit.proofs.kept_replaced.check_replaced.Goals as goal

pub returns : goal.returns
returns c =
    let tariff = c.in-Ok.tariff in
    let terms = c.in_ok-parsed.field-0 in
    let fits : FitsSigned w32 tariff.day = search rules in
    let day = c.in_ok-parsed.ensures.day ∙ to_z-of_z w32 tariff.day fits in
    let number : tariff.number ≡ c.args.count + 1 = search rules in
    record {
      replaced = record {
        tariff = record { text = Some (string_bytes tariff.body); terms = terms };
        period = tariff.period;
      };
      is = c.in-Ok.ensures.read
          ∙ (λ i. replaced_columns (
            number i,
            record {
              day = sym day i;
              text = Some (string_bytes tariff.body);
              period = tariff.period;
            },
          ));
      own = record {
        begun = (search rules, search rules);
        texted = record {
          text = string_bytes tariff.body;
          is = refl;
          characters = IsUtf8-string_bytes tariff.body;
          said = c.in_ok-parsed.ensures.says;
          day = c.in_ok-parsed.ensures.valid;
        };
      };
      few = search rules;
    }
