-- What is escaped makes no markup.
pub mod EscapingLemmas
