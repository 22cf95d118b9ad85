-- Lists of names that a reader gives, and choices by them.
use Rattle.std.proofs.Common.{◌≡◌, ◌∙◌, List, [], ◌∷◌, ◌++◌, ℕ, Option, Some, None, Result, Ok, Err}
use Rattle.std.proofs.Common.{ap, append_assoc, append-nil, inl, inr, refl, subst, sym, take}
use Rattle.std.proofs.Common.{Bool, true≢false, option_map, ◌==◌, if◌then◌else◌, IfOk, IfSome, IsErr}
use Rattle.std.proofs.Common.{IsErrAnd, OnErr}
use Rattle.std.proofs.KnownBytes.{Consumes-trans}
use Rattle.std.specs.Io.Buffered.{reader_buffer, reader_capacity, reader_inner, reader_remaining}
use Rattle.std.specs.Io.Iter.{YieldsKnownByte}
use Rattle.std.specs.Io.KnownBytes.{Consumes, IsAtEnd, prepend_known}
use Rattle.std.specs.Io.Take.{take_inner, take_limit, take_remaining}
use Rattle.std.specs.declared.alloc.AllocError.{AllocError}
use Rattle.std.specs.declared.io.Error.{Error}
use Rattle.std.specs.declared.io.ErrorKind.TheVariants.{OutOfMemory}
use Rattle.std.specs.declared.io.buffered.BufReader.{BufReader}
use Rattle.std.specs.declared.io.traits.Take.{Take}
use Rattle.book_model.specs.Words.{Note}
use Rattle.book_core.specs.Words.{Seen, IsTransition, NoEvent}
use Rattle.book_core.proofs.TransitionLemmas.{no_work}
use Rattle.office.specs.declared.choosing.Chosen.{Chosen}
use Rattle.office.specs.Choices.{ChoosesEach}
use Rattle.named_books.proofs.ShelfLemmas.{untouched}
use Rattle.program_output.specs.declared.names.NamesFault.{NamesFault}
use Rattle.program_output.specs.Names.{IsNamesFault, names_in}
use Rattle.without_books.specs.Faults.{names_fault}
use Rattle.chargectl.specs.declared.choices.ListAnswered.{ListAnswered}
use Rattle.chargectl.specs.Choices.{ChoosesBy, ChoosesNothing, ComesOfList, IsListFault, front_of}
use Rattle.chargectl.specs.Choices.{most_read}
use Rattle.chargectl.proofs.Words.{Shelf, CommandFault}
use Rattle.program_output.specs.declared.names.NamesFault.TheVariants as names

-- one more byte of a reader came
pub byte_came : (had old new : Option (List ℕ)) (text : List ℕ) (item : Option (Result ℕ Error))
    (byte : ℕ) → Consumes had old text → YieldsKnownByte old item new → item ≡ Some (Ok byte)
    → Consumes had new (text ++ byte ∷ [])
byte_came had old new text item byte so_far next is =
    Consumes-trans had old new text (byte ∷ []) so_far
    (subst (λ item. YieldsKnownByte old item new) is next)

-- an empty buffer shows what the reader behind it has
behind_none : (had : Option (List ℕ)) → prepend_known [] had ≡ had
behind_none None = refl
behind_none (Some bytes) = refl

-- what a reader shows through a buffer, up to a limit
pub front_shown : {R A : Type 0} (remaining : R → Option (List ℕ)) (reader : R)
    (buffered : BufReader R A) (front : Take (BufReader R A)) → reader_inner buffered ≡ reader
    → reader_buffer buffered ≡ [] → reader_capacity buffered ≡ 8192
    → take_limit front ≡ most_read → take_inner front ≡ buffered
    → take_remaining (reader_remaining remaining) front ≡ front_of (remaining reader)
front_shown remaining reader buffered front behind empty size limit inner =
    let cut : take_remaining (reader_remaining remaining) front
    ≡ option_map (take most_read) (reader_remaining remaining buffered) =
    λ i. option_map (take (limit i)) (reader_remaining remaining (inner i)) in
    let seen : reader_remaining remaining buffered ≡ prepend_known [] (remaining reader) =
    λ i. if size i == 0 then None else prepend_known (empty i) (remaining (behind i)) in
    cut ∙ ap (option_map (take most_read)) (seen ∙ behind_none (remaining reader))

-- these bytes of a reader came, and with whatever comes after them the text is no list of names: so it
-- is with all that the reader had
pub front_refused : (had first left : Option (List ℕ)) (text : List ℕ) (byte : ℕ)
    (found : NamesFault)
    → Consumes first left (text ++ byte ∷ []) → first ≡ had
    → ((more : List ℕ) → IsNamesFault (names_in (text ++ byte ∷ more)) found)
    → IfSome had (λ bytes. IsNamesFault (names_in bytes) found)
front_refused None first left text byte found came same refused = tt
front_refused (Some bytes) first left text byte found came same refused =
    of_left left (subst (λ first. Consumes first left (text ++ byte ∷ [])) same came)
  where
    of_left : (left : Option (List ℕ)) → Consumes (Some bytes) left (text ++ byte ∷ [])
        → IsNamesFault (names_in bytes) found
    of_left None never = absurd never
    of_left (Some rest) is =
        subst (λ all. IsNamesFault (names_in all) found)
        (sym (is ∙ append_assoc text (byte ∷ []) rest)) (refused rest)

-- no more bytes came
pub all_refused : (had first left : Option (List ℕ)) (text : List ℕ) (found : NamesFault)
    → Consumes first left text → first ≡ had → IsAtEnd left → IsNamesFault (names_in text) found
    → IfSome had (λ bytes. IsNamesFault (names_in bytes) found)
all_refused None first left text found came same ended refused = tt
all_refused (Some bytes) first left text found came same ended refused =
    of_left left (subst (λ first. Consumes first left text) same came) ended
  where
    of_left : (left : Option (List ℕ)) → Consumes (Some bytes) left text → IsAtEnd left
        → IsNamesFault (names_in bytes) found
    of_left None never ended = absurd never
    of_left (Some rest) is ended =
        subst (λ all. IsNamesFault (names_in all) found)
        (sym (is ∙ ap (λ rest. text ++ rest) ended ∙ append-nil text)) refused

-- why a text is no list of names, and all that a reader had
pub no_list : (had : Option (List ℕ)) (text : List ℕ) (found : NamesFault)
    → IsNamesFault (names_in text) found
    → IfSome had (λ bytes. IsNamesFault (names_in bytes) found)
    → IsListFault had (names_fault found)
no_list had text names.Memory read all = inl (OutOfMemory, refl)
no_list had text (names.Line number) read all =
    inr (record { text = text; found = names.Line number; read = read; all = all; is = refl })
no_list had text names.TooMany read all =
    inr (record { text = text; found = names.TooMany; read = read; all = all; is = refl })

-- a visit that chose the records of names, or had no memory for the answers
pub choices_made : {L : Type 0} (said : Option Note) (withheld : Bool) (seen : L → Seen)
    (old new : L) (names : List (List ℕ))
    (told : Result Chosen AllocError)
    → IfOk told (λ chosen. IsTransition (seen old) (seen new)
    (ChoosesEach said withheld (seen old).naming names chosen.answers.items chosen.refusal))
    → OnErr told (new ≡ old)
    → IsTransition (seen old) (seen new) (ChoosesBy said withheld (seen old).naming names told)
choices_made said withheld seen old new names (Ok chosen) made none = made
choices_made said withheld seen old new names (Err fault) made none =
    subst (λ now. IsTransition (seen old) (seen now) NoEvent) (sym none) (no_work (seen old))

-- nothing was chosen, and this is why
pub not_listed : (tried withheld : Bool) (had : Option (List ℕ)) (book : List ℕ) (shelf : Shelf)
    (result : Result ListAnswered CommandFault) (found : CommandFault) → IsErr result
    → IsErrAnd result (λ why. why ≡ found) → ChoosesNothing had (shelf.refuses book) found
    → ComesOfList tried withheld had book shelf shelf result
not_listed tried withheld had book shelf (Ok answered) found bad is why = absurd
    (true≢false (sym bad))
not_listed tried withheld had book shelf (Err fault) found bad is why =
    (subst (ChoosesNothing had (shelf.refuses book)) (sym is) why, untouched book shelf)
