use Rattle.std.proofs.Common.{◌∙◌, ap}
use Rattle.std.specs.Result.{result_ok}
use Rattle.hex.proofs.HexLemmas.{decode_sized-encode_lower}
use Rattle.book_reports.specs.RecordNames.{name_in, name_length}
use Rattle.book_reports.proofs.record_names.name_of_text.Goals as goal

pub returns : goal.returns
returns c =
    let read = c.ok.ensures.value ∙ ap result_ok c.from_hex.ensures in
    record {
      read = read;
      copied = λ name long bytes same.
          read ∙ ap name_in same
          ∙ ap result_ok (decode_sized-encode_lower name name_length long bytes);
    }
