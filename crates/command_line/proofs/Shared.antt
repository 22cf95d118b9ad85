-- The words and lemmas that several proofs of this crate cite, from one place. Declares nothing.
pub use Rattle.clap.proofs.WalkLemmas.{one_text-rows}
pub use Rattle.clap.specs.Faults.{level_fault}
pub use Rattle.clap.specs.Kinds.{Kinds, or_else}
pub use Rattle.clap.specs.Matches.{found_of, one_text}
pub use Rattle.clap.specs.Simple.{App, Shape}
pub use Rattle.clap.specs.ValueTests.{accepts}
pub use Rattle.clap.specs.Walk.{Names, Row, Rule, Text, first_of, nothing_held, one_of, reading_by}
pub use Rattle.clap.specs.Walk.{rows_after}
pub use Rattle.std.proofs.lemmas.Option.{same_Some}
pub use Rattle.std.proofs.lemmas.Slice.Eq.{bytes_eq-Decides}
pub use Rattle.std.specs.List.{list_all, list_any}
pub use Rattle.std.specs.Option.{option_map_or}
pub use Rattle.command_line.specs.Given.{HasWords, HasWordsOf}
pub use Rattle.command_line.specs.Known.{command_seen}
pub use Rattle.command_line.specs.Requests.{rows_in}
pub use Rattle.command_line.specs.Shapes.{app_for, distinct, leaf}
