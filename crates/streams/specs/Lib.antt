-- What a call of a reader or a writer may answer, and what the answer shows; that it failed; then
-- what is seen of a source and of a sink, and of both before and after a call.
pub mod Answers
pub mod AnswerFlags
pub mod Failures
pub mod Sources
pub mod Sinks
pub mod InputOutput
