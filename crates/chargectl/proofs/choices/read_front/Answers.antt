use Rattle.std.proofs.Common.{subst, IfErr, IfOk}
use Rattle.chargectl.specs.Choices.{AreAllOf, AreLinesOf, IsListFault}
use Rattle.chargectl.proofs.ListLemmas.{front_shown}
use Rattle.chargectl.proofs.choices.read_front.Goals as goal

-- what was read is the front of what the reader had
pub returns-clause-all : goal.returns-clause-all
returns-clause-all g c =
    let buffer = c.in_ok-buffered.ensures in
    subst (λ had. IfOk c.read_names.result (λ listed. AreAllOf had listed.names.items))
    (front_shown g.R.Read.remaining c.args.reader c.in_ok-buffered.buffered c.take.result buffer.inner
    buffer.empty buffer.capacity c.take.ensures.limit c.take.ensures.inner)
    c.read_names.ensures.all

pub returns-clause-placed : goal.returns-clause-placed
returns-clause-placed g c =
    let buffer = c.in_ok-buffered.ensures in
    subst (λ had. IfOk c.read_names.result (λ listed. AreLinesOf had listed.lines.items))
    (front_shown g.R.Read.remaining c.args.reader c.in_ok-buffered.buffered c.take.result buffer.inner
    buffer.empty buffer.capacity c.take.ensures.limit c.take.ensures.inner)
    c.read_names.ensures.placed

pub returns-clause-refused : goal.returns-clause-refused
returns-clause-refused g c =
    let buffer = c.in_ok-buffered.ensures in
    subst (λ had. IfErr c.read_names.result (IsListFault had))
    (front_shown g.R.Read.remaining c.args.reader c.in_ok-buffered.buffered c.take.result buffer.inner
    buffer.empty buffer.capacity c.take.ensures.limit c.take.ensures.inner)
    c.read_names.ensures.refused
