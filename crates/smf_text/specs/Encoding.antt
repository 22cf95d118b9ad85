-- Texts as bytes of code page 037.
use Rattle.std.specs.Prelude.{ℕ, not, nat_lt, if◌then◌else◌, List, length, map, Bool, is_some, unwrap_or, Result, Ok, Err}
use Rattle.std.specs.List.{list_all}
use Rattle.smf_text.specs.CodePage.{byte_of}
use Rattle.smf_text.specs.declared.encoded.TextFault.{TextFault}
use Rattle.smf_text.specs.declared.encoded.TextFault.TheVariants.{NotInPage, TooLong}

-- the page has each character of the text
abbrev pub is_in_page : List ℕ → Bool
is_in_page text = list_all (λ character. is_some (byte_of character)) text

-- the bytes of a text that is in the page
abbrev pub page_bytes : List ℕ → List ℕ
page_bytes text = map (λ character. unwrap_or (byte_of character) 0) text

-- the result of encoding a text into that many bytes: its length, or the first test that it fails
abbrev pub encode_of : List ℕ → ℕ → Result ℕ TextFault
encode_of text room =
    if not (is_in_page text) then Err NotInPage
    else if nat_lt room (length text) then Err TooLong
    else Ok (length text)

-- the number that reports and messages show
abbrev pub text_number : TextFault → ℕ
text_number NotInPage = 1
text_number TooLong = 2
