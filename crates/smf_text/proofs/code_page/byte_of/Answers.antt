use Rattle.std.proofs.Common.{◌∙◌}
use Rattle.smf_text.proofs.CodePageLemmas.{position-PAGE, byte_of-zero}
use Rattle.smf_text.proofs.code_page.byte_of.Goals as goal

pub returns-then-character-eq0 : goal.returns-then-character-eq0
returns-then-character-eq0 c = byte_of-zero c.args.character c.if-character-eq0.true

pub returns-in_err-place : goal.returns-in_err-place
returns-in_err-place c =
    let is = position-PAGE c.args.character c.ranges.character.fits c.if-character-eq0.false in
    c.from_residual.ensures ∙ c.in_err-place.ensures.value ∙ is

pub returns : goal.returns
returns c =
    let is = position-PAGE c.args.character c.ranges.character.fits c.if-character-eq0.false in
    c.in_ok-place.ensures.value ∙ is
