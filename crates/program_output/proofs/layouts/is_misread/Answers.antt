use Rattle.program_output.proofs.LayoutLemmas.{blocks_standard, standard_of, tells_of}
use Rattle.program_output.proofs.layouts.is_misread.Goals as goal

pub returns-in-Rdw-clause-first : goal.returns-in-Rdw-clause-first
returns-in-Rdw-clause-first c =
    tells_of c.args.layout c.args.bytes.now c.has_block_first.result c.in-Rdw.is
    c.has_block_first.ensures

pub returns-in-Rdw-clause-standard : goal.returns-in-Rdw-clause-standard
returns-in-Rdw-clause-standard c =
    standard_of c.args.layout c.args.bytes.now c.has_block_first.result c.in-Rdw.is
    c.has_block_first.ensures

pub returns-in-Bdw-clause-standard : goal.returns-in-Bdw-clause-standard
returns-in-Bdw-clause-standard c = blocks_standard c.args.layout c.args.bytes.now c.in-Bdw.is
