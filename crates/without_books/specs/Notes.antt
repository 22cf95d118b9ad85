-- Who does something, why, and from which file: as the journal says it.
use Rattle.std.specs.Prelude.{◌≡◌, ℕ, ◌-◌, nat_lt, if◌then◌else◌, List, [], take, drop, length}
use Rattle.std.specs.Prelude.{Option, Some, None, IfSome, string_bytes}
use Rattle.std.specs.Borrow.{Bor}
use Rattle.book_model.specs.Words.{Note}
use Rattle.book_model.specs.declared.note.Note.{Note as GivenNote}
use Rattle.command_line.specs.declared.request.BookRequest.{BookRequest}
use Rattle.command_line.specs.declared.request.BookRequest.TheVariants as asks
use Rattle.command_line.specs.declared.request.NoteWords.{NoteWords}
use Rattle.command_line.specs.declared.request.Ruling.{Ruling}
use Rattle.command_line.specs.declared.request.Ruling.TheVariants as rules
pub use Rattle.without_books.specs.ShownPaths.{plain_bytes}

-- the name of a file: the end of it, in ASCII
abbrev pub file_end : List ℕ → List ℕ
file_end file = if nat_lt 255 (length file) then drop (length file - 255) file else file

abbrev pub file_shown : List ℕ → List ℕ
file_shown file = plain_bytes (file_end file)

-- the name of a person in the environment: the begin of it, in ASCII
abbrev pub person_begin : List ℕ → List ℕ
person_begin name = if nat_lt 40 (length name) then take 40 name else name

abbrev pub person_shown : List ℕ → List ℕ
person_shown name = plain_bytes (person_begin name)

-- the remark that words have
abbrev pub remark_said : Option (Bor (List ℕ)) → List ℕ
remark_said None = []
remark_said (Some text) = text.now

-- The note has the person whom the words name, if they name one, their remark, and the name of the
-- file.
pub record SaysSo (said : NoteWords) (name : List ℕ) (note : GivenNote) : Type 0 where
  pub person : IfSome said.by (λ person. string_bytes note.person ≡ person.now)
  pub remark : string_bytes note.remark ≡ remark_said said.remark
  pub file : string_bytes note.file ≡ file_shown name

abbrev pub IsNoteBy : NoteWords → List ℕ → Option GivenNote → Type 0
IsNoteBy said file None = ⊥
IsNoteBy said file (Some note) = SaysSo said file note

-- the file that a ruling is asked by: that of a tariff
abbrev pub file_of_ruling : Ruling → List ℕ
file_of_ruling (rules.Tariff file) = file.now
file_of_ruling (rules.Replace file) = file.now
file_of_ruling ruling = []

-- What changes the books has a note, with the file that it is asked by; a service has one for what its
-- clients post. Nothing else has one.
abbrev pub IsNoteOf : NoteWords → BookRequest → Option GivenNote → Type 0
IsNoteOf said (asks.Rule ruling) note = IsNoteBy said (file_of_ruling ruling) note
IsNoteOf said (asks.RuleNear ruling) note = IsNoteBy said (file_of_ruling ruling) note
IsNoteOf said (asks.Import dump) note = IsNoteBy said dump.file.now note
IsNoteOf said (asks.ChooseListed none file) note = IsNoteBy said file.now note
IsNoteOf said (asks.WithholdDump file layout) note = IsNoteBy said file.now note
IsNoteOf said (asks.WithholdImport number) note = IsNoteBy said [] note
IsNoteOf said (asks.Serve port requests) note = IsNoteBy said [] note
IsNoteOf said asked note = note ≡ None

-- a note but for its time
abbrev pub untimed : Note → Note
untimed note = record note { time = 0 }
