use Rattle.program_output.proofs.message.ledger_refused_at.Goals as goal

pub returns-clause-said : goal.returns-clause-said
returns-clause-said g c =
    rw (c.as_str.ensures.value, c.ledger_message-message.ensures) at c.say_at.ensures
