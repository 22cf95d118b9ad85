use Rattle.smf_text.specs.CodePage.{char_of}
use Rattle.smf_text.proofs.CodePageLemmas.{page_entry, no_entry, some_entry, entry_is_ascii}
use Rattle.smf_text.proofs.code_page.character_of.Goals as goal

pub returns-then-entry-eq0-clause-value : goal.returns-then-entry-eq0-clause-value
returns-then-entry-eq0-clause-value c =
    no_entry _ _ (page_entry c.args.byte c.ranges.byte.fits) c.if-entry-eq0.true

pub returns-else-entry-eq0-clause-value : goal.returns-else-entry-eq0-clause-value
returns-else-entry-eq0-clause-value c =
    some_entry _ _ (page_entry c.args.byte c.ranges.byte.fits) c.if-entry-eq0.false

pub returns-else-entry-eq0-clause-ascii : goal.returns-else-entry-eq0-clause-ascii
returns-else-entry-eq0-clause-ascii c =
    entry_is_ascii _ (char_of c.args.byte) (page_entry c.args.byte c.ranges.byte.fits)
