use Rattle.std.proofs.Common.{refl, sym}
use Rattle.report_rows.specs.ReportRows.{row_of}
use Rattle.command_line.proofs.RowLemmas.{true_false}
use Rattle.command_line.proofs.report_words.charged.Goals as goal

-- a statement is about a period, may be a table, and is not streamed
pub returns : goal.returns
unfolding row_of
returns c =
    λ rows named shown left_out. (
      record {
        word = refl;
        table = λ is. shown;
        text = λ never. absurd (true_false never);
        page = λ may. absurd (true_false (sym may));
        no_page = λ is. refl;
        words = named;
        charged = λ is. left_out;
      },
      refl,
    )
