use Rattle.std.proofs.Common.{take, option_map}
use Rattle.std.specs.Io.Take.{take_remaining}
use Rattle.without_books.proofs.TextLemmas.{text_read}
use Rattle.without_books.proofs.tariff_texts.read_text.Goals as goal

pub returns : goal.returns
returns g c =
    let remaining = g.R.Read.remaining in
    text_read (remaining c.args.reader) (take_remaining remaining c.take.result)
    c.new-bytes.result.items c.read_to_end.new.buf.items c.text_of.result c.new-bytes.ensures.items
    (λ i. option_map (take (c.take.ensures.limit i)) (remaining (c.take.ensures.inner i)))
    c.in_ok-read_to_end.ensures.bytes c.text_of.ensures.text c.text_of.ensures.short
    c.text_of.ensures.refused
