use Rattle.std.proofs.Common.{arith}
use Rattle.smf_type30.proofs.SectionLemmas.{lends, fits_there}
use Rattle.smf_type30.proofs.section.section_bytes.Goals as goal

pub returns : goal.returns
returns c =
    let fit = fits_there _ _ c.requires.there c.requires.fits in
    lends _ _ _ _ fit c.offset-start.ensures (omega arith)
