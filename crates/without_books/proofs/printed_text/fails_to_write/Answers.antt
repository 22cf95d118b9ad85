use Rattle.without_books.proofs.ServedLineLemmas.{front_gained}
use Rattle.without_books.proofs.printed_text.fails_to_write.Goals as goal

pub returns-in-Err-clause-gains : goal.returns-in-Err-clause-gains
returns-in-Err-clause-gains g c =
    let contents = g.O.Write.contents in
    let printed = c.in-Err.ensures.printed in
    front_gained (contents c.args.output.now) (contents c.print_bytes.new.output) c.args.bytes.now
    printed.1 printed.2
