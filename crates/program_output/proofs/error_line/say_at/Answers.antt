use Rattle.program_output.proofs.error_line.say_at.Goals as goal

pub returns : goal.returns
returns g c =
    rw (
      c.as_str.ensures.value,
      c.push_str-6.ensures.bytes,
      c.push_str-5.ensures.bytes,
      c.format.ensures.text,
      c.push_str-4.ensures.bytes,
      c.push_str-3.ensures.bytes,
      c.push_str-2.ensures.bytes,
      c.push_str.ensures.bytes,
      c.new-line.ensures,
    ) at c.say.ensures
