use Rattle.program_output.proofs.message.stopped.Goals as goal

pub returns-in-Frame-clause-said : goal.returns-in-Frame-clause-said
returns-in-Frame-clause-said g c =
    rw c.in-Frame.is
    (rw (c.as_str.ensures.value, c.numbered-message.ensures.bytes, c.number.ensures) at
    c.say_line.ensures)
