use Rattle.std.proofs.Common.{◌≡◌, ◌∙◌, List, Option, Some, None, ap, is_some, refl, sym}
use Rattle.std.specs.Prelude.{IfSome}
use Rattle.std.specs.Borrow.{Bor}
use Rattle.command_line.specs.Requests.{IsLeftOut, IsText, rows_in}
use Rattle.command_line.proofs.Shared.{Row, Text, first_of}
use Rattle.command_line.proofs.matched_request.is_given.Goals as goal

-- a text is found where one was given
given_as : (rows : List Row) (name : Text) (found : Option (Bor Text)) → IfSome found (IsText rows name)
    → (found ≡ None → IsLeftOut rows name) → is_some found ≡ is_some (first_of name rows)
given_as rows name (Some text) given left_out = sym (ap is_some given)
given_as rows name None given left_out = sym (ap is_some (left_out refl))

pub returns : goal.returns
returns c =
    c.is_some.ensures
    ∙ given_as (rows_in c.args.found.now) c.args.name.now c.text_in.result c.text_in.ensures.text
    c.text_in.ensures.left_out
