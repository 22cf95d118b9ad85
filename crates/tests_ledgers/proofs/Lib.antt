-- Calls that are refused for lack of memory.
pub mod RefusalLemmas
pub mod DumpLemmas
