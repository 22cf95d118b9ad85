-- The words of ledgers, from one place, for the crates above. Declares nothing.
pub use Rattle.book_core.specs.Calls.{Calls, IsCall, LeavesOpen, Makes, Reopens, is_reopen}
pub use Rattle.book_core.specs.Calls.{is_store, listed}
pub use Rattle.book_core.specs.Effects.{charge_held, charges, choice_effects, effects_of, is_after}
pub use Rattle.book_core.specs.Effects.{unmarks, withdraw}
pub use Rattle.book_core.specs.Follow.{MakesAnswered}
pub use Rattle.book_core.specs.Identities.{identity_in}
pub use Rattle.book_core.specs.KeyedRows.{keyed_rows, with_price}
pub use Rattle.book_core.specs.Ledgers.{Books, IsOpenAt, MayHave, Seen, books, in_memory, may_have}
pub use Rattle.book_core.specs.OfficeRulings.{in_its_place, is_last_begun, ruled_in}
pub use Rattle.book_core.specs.Room.{if_room}
pub use Rattle.book_core.specs.Submissions.{Accepts, AcceptsOf, Takes, TakesOf, first_of}
pub use Rattle.book_core.specs.Submissions.{records_in}
pub use Rattle.book_core.specs.Transition.{IsTransition, NoEvent, Then, Transition}
pub use Rattle.book_core.specs.Withholdings.{TakesWorks, Withholds}
