use Rattle.std.proofs.Common.{◌<◌, length, sym, ◌∙◌, arith}
use Rattle.smf_text.proofs.EncodingLemmas.{page_bytes-more, map-char_of-page_bytes}
use Rattle.smf_text.proofs.encoded.encode.Goals as goal

pub loop-i-preserved : goal.loop-i-preserved
loop-i-preserved c =
    let items = c.as_bytes-character-items.ensures.value in
    let within : c.loop-i.i < length c.args.text.now = rw items at c.loop-i-test.true in
    let room : c.loop-i.i < length c.args.buffer.now = omega (arith, within) in
    let is = sym c.unwrap.ensures ∙ (rw items at c.byte_of.ensures) in
    page_bytes-more _ _ _ _ _ within room is c.loop-i.invariant

pub returns-clause-stands : goal.returns-clause-stands
returns-clause-stands c =
    let in_page = sym c.is_in_page.ensures ∙ c.if-not-is_in_page.false in
    map-char_of-page_bytes c.args.text.now in_page (λ i. (c.type_inv.text i).fits)
