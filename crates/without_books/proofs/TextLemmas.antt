-- The text of a tariff that a reader gives, and the tariff of a text.
use Rattle.std.proofs.Common.{◌≡◌, ◌∙◌, ◌+◌, ◌≤◌, List, [], ◌++◌, ℕ, Option, Some, None, Result, Ok}
use Rattle.std.proofs.Common.{Err, ap, arith, inl, inr, length, length-take, subst, sym, take}
use Rattle.std.proofs.Common.{take_all, Global, option_map, IfErr, IfOk, IfSome, IsErr, IsErrAnd}
use Rattle.std.proofs.Common.{OnOk, String, string_bytes}
use Rattle.std.specs.declared.io.ErrorKind.TheVariants.{OutOfMemory}
use Rattle.tariff_rules.specs.Limits.{most_text}
use Rattle.book_model.specs.Words.{terms_in, Terms}
use Rattle.without_books.specs.declared.command_fault.CommandFault.{CommandFault}
use Rattle.without_books.specs.Faults.{IsFaultIn, IsNoText, IsTextFault, IsTextOf}
use Rattle.without_books.specs.Reading.{IsTariffRead, IsTextIn, lasting}

-- what a reader gave was its text, or is no text of a tariff
pub text_read : (had first : Option (List ℕ)) (start bytes : List ℕ)
    (result : Result (String Global) CommandFault) → start ≡ []
    → first ≡ option_map (take (most_text + 1)) had → IfSome first (λ given. bytes ≡ start ++ given)
    → IfOk result (λ text. string_bytes text ≡ bytes) → OnOk result (length bytes ≤ most_text)
    → IfErr result (IsNoText bytes) → IsTextOf had result
text_read had first start bytes result empty cut came is short none =
    go had result
    (subst (λ first. IfSome first (λ given. bytes ≡ given)) cut
    (subst (λ start. IfSome first (λ given. bytes ≡ start ++ given)) empty came)) is short none
  where
    fits : (text : String Global) → string_bytes text ≡ bytes → length bytes ≤ most_text
        → length (string_bytes text) ≤ most_text
    fits text is short = subst (λ own. length own ≤ most_text) (sym is) short

    go : (had : Option (List ℕ)) (result : Result (String Global) CommandFault)
        → IfSome (option_map (take (most_text + 1)) had) (λ given. bytes ≡ given)
        → IfOk result (λ text. string_bytes text ≡ bytes) → OnOk result (length bytes ≤ most_text)
        → IfErr result (IsNoText bytes) → IsTextOf had result
    go None (Ok text) given is short none = (fits text is short, tt)
    go (Some all) (Ok text) given is short none =
        let few : length all ≤ most_text =
        omega (arith, length-take (most_text + 1) all, ap length given, short) in
        (fits text is short, is ∙ given ∙ take_all (most_text + 1) all (omega arith))
    go None (Err why) given is short none = inr (bytes, none, tt)
    go (Some all) (Err why) given is short none = inr (bytes, none, given)

-- a file that gave no text gave no tariff
pub no_tariff : (had : Option (List ℕ)) (result : Result Terms CommandFault) (found : CommandFault)
    → IsErr result → IsErrAnd result (λ why. why ≡ found) → IsTextFault had found
    → IsTariffRead had result
no_tariff had (Ok terms) found bad is why = absurd is
no_tariff had (Err fault) found bad is why = inl (subst (IsTextFault had) (sym is) why)

-- the tariff of a text, or why it is none
pub tariff_is : (had : Option (List ℕ)) (text : List ℕ) (result : Result Terms CommandFault)
    → IsTextIn had text → IfOk result (λ terms. lasting (terms_in text) ≡ Ok terms)
    → IfErr result (IsFaultIn (lasting (terms_in text))) → IsTariffRead had result
tariff_is had text (Ok terms) of_file is why = (text, of_file, is)
tariff_is had text (Err fault) of_file is (inl memory) = inl (inl (OutOfMemory, memory))
tariff_is had text (Err fault) of_file is (inr refused) = inr (text, of_file, refused)
