-- What is seen of a sink. What is known of its writer's answers and bytes comes with its type.
use Rattle.std.specs.Prelude.{Bool}
use Rattle.streams.specs.declared.sink.Sink.{Sink}

abbrev pub writer_of : {W : Type 0} {answers : _} {bytes : _} → Sink W answers bytes → W
writer_of sink = sink.inner

abbrev pub has_failed : {W : Type 0} {answers : _} {bytes : _} → Sink W answers bytes → Bool
has_failed sink = sink.failed
