-- What is printed for an audit.
use Rattle.std.specs.Prelude.{◌≡◌, ℕ, List, ◌++◌, codes, decimal}
use Rattle.book_audit.specs.declared.audited.Audited.{Audited}
use Rattle.book_audit.specs.declared.audited.Audited.TheVariants.{Sound, Unsound}
use Rattle.book_audit.specs.declared.audited.Counts.{Counts}
use Rattle.book_audit.specs.Findings.{unsound_text}

-- a line with a word and a number
abbrev pub count_line : List ℕ → ℕ → List ℕ
count_line word count = word ++ codes " " ++ decimal count ++ codes "\n"

-- the lines of sound books, of which the first says the form that their file has
abbrev pub sound_text : Counts → List ℕ
sound_text counts = codes "SOUND\n" ++ count_line (codes "FORM") counts.form
    ++ count_line (codes "RECORDS") counts.records
    ++ count_line (codes "TARIFFS") counts.tariffs ++ count_line (codes "CLOSES") counts.closes
    ++ count_line (codes "CHOICES") counts.choices ++ count_line (codes "ROWS") counts.rows
    ++ count_line (codes "LINES") counts.lines

-- Books that are sound have these lines; of others one line says what is wrong with them, and where.
abbrev pub IsAuditText : Audited → List ℕ → Type 0
IsAuditText (Sound counts) text = text ≡ sound_text counts
IsAuditText (Unsound finding) text = text ≡ unsound_text finding
